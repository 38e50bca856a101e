-- BlockMix, a pair of blocks at a time.
use Rattle.std.proofs.Common.{◌≡◌, ◌≢◌, ℕ, zero, suc, ◌+◌, ◌-◌, ◌*◌, ◌<◌, ◌≤◌, List, ◌++◌, length, take, drop, bit_xor, refl, ap, ap₂, ◌∙◌, sym, add-one, arith, below_more, take-add}
use Rattle.std.proofs.lemmas.List.{drop-drop, length-drop, take-append-drop, take_all}
use Rattle.std.specs.Simd.Lanes.{zip2}
use Rattle.kdf_suite.specs.Blocks.{joined}
use Rattle.kdf_suite.specs.Diagonals.{in_order}
use Rattle.kdf_suite.specs.RoMix.{block_at, block_mix, y_block}
use Rattle.kdf_suite.specs.Salsa.{salsa20_8}
use Rattle.kdf_suite.proofs.Spread.{block_at-in_order, length-spread}

-- X before block i: the last block, and later the Y before
unfoldable pub x_before : ℕ → List ℕ → ℕ → List ℕ
x_before r b zero = block_at b (2 * r - 1)
x_before r b (suc i) = y_block r b i

-- Y_i is made of X and B_i
y_block-is : (r : ℕ) (b : List ℕ) (i : ℕ) → y_block r b i ≡ salsa20_8 (zip2 bit_xor (x_before r b i) (block_at b i))
unfolding y_block x_before
y_block-is r b zero = refl
y_block-is r b (suc i) = refl

-- words are their blocks, one after another
take-joined : (f : ℕ → List ℕ) (xs : List ℕ) (n : ℕ) → ((k : ℕ) → k < n → block_at xs k ≡ f k) → take (16 * n) xs ≡ joined f n
unfolding joined
take-joined f xs zero each = refl
take-joined f xs (suc n) each =
    let size : 16 * suc n ≡ 16 * n + 16 = omega arith in
    ap (λ m. take m xs) size ∙ take-add (16 * n) 16 xs
    ∙ ap₂ ◌++◌ (take-joined f xs n (λ k below. each k (omega arith))) (each n (omega arith))

-- the first i pairs of blocks are mixed: x is the last block mixed, and the output's two halves begin
-- with the even and the odd ones, by their diagonals
pub record IsMixed (r : ℕ) (input : List ℕ) (i : ℕ) (x output : List ℕ) : Type 0 where
  pub last : x ≡ x_before r input (2 * i)
  pub evens : (k : ℕ) → k < i → in_order 16 (block_at output k) ≡ y_block r input (2 * k)
  pub odds : (k : ℕ) → k < i → in_order 16 (block_at output (r + k)) ≡ y_block r input (2 * k + 1)

module _ (r : ℕ) (input : List ℕ) where
  -- nothing is mixed
  pub IsMixed-none : (x output : List ℕ) → x ≡ block_at input (2 * r - 1) → IsMixed r input 0 x output
  unfolding x_before
  IsMixed-none x output is = record { last = is; evens = λ k below. absurd (omega arith); odds = λ k below. absurd (omega arith) }

  module _ (i : ℕ) (x even odd : List ℕ) where
    -- the even block of the next pair
    even_block : x ≡ x_before r input (2 * i) → even ≡ salsa20_8 (zip2 bit_xor x (block_at input (2 * i))) → even ≡ y_block r input (2 * i)
    even_block last is =
        is ∙ ap (λ x. salsa20_8 (zip2 bit_xor x (block_at input (2 * i)))) last ∙ sym (y_block-is r input (2 * i))

    -- the odd block of the next pair
    odd_block : even ≡ y_block r input (2 * i) → odd ≡ salsa20_8 (zip2 bit_xor even (block_at input (2 * i + 1))) → odd ≡ y_block r input (2 * i + 1)
    unfolding x_before
    odd_block last is =
        is ∙ ap (λ x. salsa20_8 (zip2 bit_xor x (block_at input (2 * i + 1)))) last
        ∙ sym (ap (y_block r input) (add-one (2 * i)) ∙ y_block-is r input (suc (2 * i)) ∙ ap (λ j. salsa20_8 (zip2 bit_xor (y_block r input (2 * i)) (block_at input j))) (sym (add-one (2 * i))))

    -- it is X before the pair after it
    x_after : odd ≡ y_block r input (2 * i + 1) → odd ≡ x_before r input (2 * (i + 1))
    unfolding x_before
    x_after is = let place : 2 * (i + 1) ≡ suc (2 * i + 1) = omega arith in rw place is

    -- the next pair is mixed, and written over two blocks of the output, one after the other
    pub IsMixed-more : (output half whole : List ℕ) → i < r → even ≡ salsa20_8 (zip2 bit_xor x (block_at input (2 * i))) → odd ≡ salsa20_8 (zip2 bit_xor even (block_at input (2 * i + 1))) → in_order 16 (block_at half i) ≡ even → ((k : ℕ) → k ≢ i → block_at half k ≡ block_at output k) → in_order 16 (block_at whole (r + i)) ≡ odd → ((k : ℕ) → k ≢ r + i → block_at whole k ≡ block_at half k) → IsMixed r input i x output → IsMixed r input (i + 1) odd whole
    IsMixed-more output half whole within even_is odd_is even_written even_others odd_written odd_others mixed =
        let even' = even_block mixed.last even_is in
        let odd' = odd_block even' odd_is in
        record {
          last = x_after odd';
          evens = below_more (λ k. in_order 16 (block_at whole k) ≡ y_block r input (2 * k)) i
              (λ k below. ap (in_order 16) (odd_others k (omega arith) ∙ even_others k (omega arith)) ∙ mixed.evens k below)
              (ap (in_order 16) (odd_others i (omega arith)) ∙ even_written ∙ even');
          odds = below_more (λ k. in_order 16 (block_at whole (r + k)) ≡ y_block r input (2 * k + 1)) i
              (λ k below. ap (in_order 16) (odd_others (r + k) (omega arith) ∙ even_others (r + k) (omega arith)) ∙ mixed.odds k below)
              (odd_written ∙ odd');
        }

  -- all pairs are mixed
  pub IsMixed-all : (i : ℕ) (x output : List ℕ) → i ≡ r → IsMixed r input i x output → in_order (32 * r) output ≡ block_mix r input
  unfolding block_mix
  IsMixed-all i x output all mixed =
      let words = in_order (32 * r) output in
      let each = λ (k : ℕ) (below : k < 2 * r). block_at-in_order (32 * r) output k (omega arith) in
      let evens = take-joined (λ k. y_block r input (2 * k)) words r (λ k below. each k (omega arith) ∙ mixed.evens k (omega arith)) in
      let odds = take-joined (λ k. y_block r input (2 * k + 1)) (drop (16 * r) words) r (λ k below.
      let place : 16 * r + 16 * k ≡ 16 * (r + k) = omega arith in
      ap (take 16) (drop-drop (16 * k) (16 * r) words ∙ ap (λ n. drop n words) place)
      ∙ each (r + k) (omega arith) ∙ mixed.odds k (omega arith)) in
      let rest : length (drop (16 * r) words) ≤ 16 * r = simp length-drop (omega (arith, length-spread 13 (32 * r) output)) in
      sym (take-append-drop (16 * r) words)
      ∙ ap₂ ◌++◌ evens (sym (take_all (16 * r) (drop (16 * r) words) rest) ∙ odds)
