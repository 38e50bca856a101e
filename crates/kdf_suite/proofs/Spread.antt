-- Words at other places of their blocks, and back.
use Rattle.std.proofs.Common.{◌≡◌, ℕ, zero, suc, ◌+◌, ◌*◌, ◌%◌, ◌<◌, ◌≤◌, List, [], ◌∷◌, length, take, drop, get_or, map, slice_index, bit_xor, refl, ap, ◌∙◌, sym, zero-add, arith, length-drop, length-take}
use Rattle.std.proofs.Math.Path.{fun_ext}
use Rattle.std.proofs.lemmas.List.{ext_get_or, get_or-drop, get_or-take}
use Rattle.std.proofs.lemmas.List.FromFn.{fill_by_all, get_or-map-range_with_len, length-map-range_with_len}
use Rattle.std.proofs.lemmas.Simd.{zip2-map}
use Rattle.std.specs.List.{range_with_len}
use Rattle.std.specs.Simd.Lanes.{zip2}
use Rattle.kdf_suite.specs.Diagonals.{in_order, place, spread}
use Rattle.kdf_suite.specs.RoMix.{block_at}

-- the sum of two lists, at a place
xor_at : (xs ys : List ℕ) (i : ℕ) → length xs ≡ length ys → slice_index (zip2 bit_xor xs ys) i ≡ bit_xor (slice_index xs i) (slice_index ys i)
xor_at [] [] i same = refl
xor_at [] (y ∷ ys) i same = absurd (omega arith)
xor_at (x ∷ xs) [] i same = absurd (omega arith)
xor_at (x ∷ xs) (y ∷ ys) zero same = refl
xor_at (x ∷ xs) (y ∷ ys) (suc i) same = xor_at xs ys i (omega arith)

-- by steps of 5 and then of 13 each place is its own
there_and_back : (k : ℕ) → place 5 (place 13 k) ≡ k
there_and_back k = omega arith

-- a place of a block is that of the whole
place_in_block : (j k : ℕ) → k < 16 → 16 * j + place 13 k ≡ place 13 (16 * j + k)
place_in_block j k within = omega arith

module _ (step n : ℕ) where
  pub length-spread : (x : List ℕ) → length (spread step n x) ≡ n
  unfolding spread
  length-spread x = length-map-range_with_len (λ i. slice_index x (place step i)) 0 n

  pub get_or-spread : (x : List ℕ) (i : ℕ) → i < n → get_or (spread step n x) i 0 ≡ slice_index x (place step i)
  unfolding spread
  get_or-spread x i within = get_or-map-range_with_len (λ i. slice_index x (place step i)) 0 n i i 0 within (zero-add i)

  -- a sum is taken word by word
  pub spread-xor : (x y : List ℕ) → length x ≡ length y → spread step n (zip2 bit_xor x y) ≡ zip2 bit_xor (spread step n x) (spread step n y)
  unfolding spread
  spread-xor x y same =
      ap (λ (f : ℕ → ℕ). map f (range_with_len 0 n)) (fun_ext (λ i. xor_at x y (place step i) same))
      ∙ sym (zip2-map bit_xor (λ i. slice_index x (place step i)) (λ i. slice_index y (place step i)) (range_with_len 0 n))

-- the words of blocks by their diagonals, and in order again
pub spread-back : (n : ℕ) (x : List ℕ) → n % 16 ≡ 0 → length x ≡ n → in_order n (spread 5 n x) ≡ x
unfolding spread
spread-back n x whole long =
    sym (fill_by_all (λ i. slice_index (spread 5 n x) (place 13 i)) x n 0 long
    (λ k below. sym (get_or-spread 5 n x (place 13 k) (omega arith) ∙ ap (slice_index x) (there_and_back k))))

-- a block of those in order is that block in order
pub block_at-in_order : (n : ℕ) (x : List ℕ) (j : ℕ) → 16 * j + 16 ≤ n → block_at (in_order n x) j ≡ in_order 16 (block_at x j)
block_at-in_order n x j within =
    let long : length (in_order 16 (block_at x j)) ≡ 16 = length-spread 13 16 (block_at x j) in
    let same : length (block_at (in_order n x) j) ≡ 16 = simp (length-take, length-drop) (omega (arith, length-spread 13 n x)) in
    ext_get_or 0 _ _ (same ∙ sym long) (λ k below.
    let less : k < 16 = omega arith in
    get_or-take 16 (drop (16 * j) (in_order n x)) k 0 less
    ∙ get_or-drop (16 * j) (in_order n x) k 0
    ∙ get_or-spread 13 n x (16 * j + k) (omega arith)
    ∙ sym (get_or-spread 13 16 (block_at x j) k less
    ∙ get_or-take 16 (drop (16 * j) x) (place 13 k) 0 (omega arith)
    ∙ get_or-drop (16 * j) x (place 13 k) 0
    ∙ ap (slice_index x) (place_in_block j k less)))

-- the same of a block that is taken from its first word on
pub in_order-block : (n : ℕ) (x : List ℕ) (j size at : ℕ) → size ≡ 16 → at ≡ 16 * j → 16 * j + 16 ≤ n → in_order 16 (take size (drop at x)) ≡ block_at (in_order n x) j
in_order-block n x j size at sixteen start within = rw (sixteen, start) (sym (block_at-in_order n x j within))
