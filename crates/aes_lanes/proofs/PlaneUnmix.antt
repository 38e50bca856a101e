-- InvMixColumns on planes: MixColumns of the state that has 4 (x + y) added to each byte x, for the byte y two rows on.
use Rattle.std.proofs.Common.{◌≡◌, ℕ, zero, suc, ◌+◌, ◌*◌, ◌/◌, ◌%◌, ◌<◌, List, [], ◌∷◌, map, get_or, bit_and, bit_xor, refl, sym, ap, ◌∙◌, arith, lit<}
use Rattle.std.specs.Simd.Lanes.{zip2}
use Rattle.std.specs.List.{range_with_len}
use lib.Bits.{xor_assoc, xor_comm, xor_lt, xor_zero_l, xor_zero_r}
use Rattle.aes_lanes.specs.Bytes.{xor_bytes}
use Rattle.aes_lanes.specs.Field.{xtimes, partial_product, multiply}
use Rattle.aes_lanes.specs.Rounds.{sum_of, column_product, inverse_column_product, mix_columns, inverse_mix_columns}
use Rattle.aes_lanes.specs.Laws.Field.{at_each, multiply-additive}
use Rattle.aes_lanes.specs.Laws.Columns.{mixed-sum}
use Rattle.aes_lanes.specs.Planes.{IsPlane, bit, byte_of, byte_at, block_of, lane_block, place}
use Rattle.aes_lanes.proofs.PlaneBits.{bits-lt, eight_of, eight_same, eight_lt, byte_at-lt, range-agree, bits_of, on_bits, byte_of-xor}
use Rattle.aes_lanes.proofs.PlaneMoves.{moved, half_turn, second, four, sums-lt, IsPlane-moved, bit-moved}
use Rattle.aes_lanes.proofs.Circuits.{Gate, sum, values, zeros, HasBit, HaveBits, HaveBits-more, HasBit-zeros, values-bits}

-- the sums of the code, of the planes and of those two rows on
unfoldable pub spread_gates : List Gate
spread_gates =
    sum 7 15 ∷ sum 7 15 ∷ sum 7 15 ∷ sum 7 15 ∷ sum 7 15 ∷ sum 7 15 ∷ sum 7 15 ∷ sum 7 15 ∷ sum 1 0 ∷
    sum 8 1 ∷ sum 8 3 ∷ sum 8 2 ∷ sum 8 4 ∷ sum 20 6 ∷ sum 20 5 ∷ sum 20 5 ∷ sum 20 5 ∷ sum 20 5 ∷ sum 20 5 ∷
    sum 20 14 ∷ sum 20 14 ∷ []

-- 4 times a byte by its bits
quadrupled : List ℕ → List ℕ
quadrupled bits =
    get_or bits 6 0 ∷ bit_xor (get_or bits 6 0) (get_or bits 7 0) ∷ bit_xor (get_or bits 0 0) (get_or bits 7 0) ∷ bit_xor (get_or bits 1 0) (get_or bits 6 0)
    ∷ bit_xor (get_or bits 2 0) (bit_xor (get_or bits 6 0) (get_or bits 7 0)) ∷ bit_xor (get_or bits 3 0) (get_or bits 7 0) ∷ get_or bits 4 0 ∷ get_or bits 5 0 ∷ []

quadrupled-is : (x : ℕ) → x < 256 → byte_of (quadrupled (bits_of x)) ≡ multiply 4 x
unfolding quadrupled byte_of bits_of xtimes partial_product multiply
quadrupled-is = at_each (λ x. byte_of (quadrupled (bits_of x))) (multiply 4) refl

-- a byte x with 4 (x + y)
abbrev spread : ℕ → ℕ → ℕ
spread x y = bit_xor x (multiply 4 (bit_xor x y))

-- the column that a byte of each row makes
from_first : (x : ℕ) → x < 256 → column_product (bit_xor x (multiply 4 x)) 0 (multiply 4 x) 0 ≡ multiply 0x0e x ∷ multiply 0x09 x ∷ multiply 0x0d x ∷ multiply 0x0b x ∷ []
unfolding column_product xtimes partial_product multiply
from_first = at_each (λ x. column_product (bit_xor x (multiply 4 x)) 0 (multiply 4 x) 0) (λ x. multiply 0x0e x ∷ multiply 0x09 x ∷ multiply 0x0d x ∷ multiply 0x0b x ∷ []) refl

from_second : (x : ℕ) → x < 256 → column_product 0 (bit_xor x (multiply 4 x)) 0 (multiply 4 x) ≡ multiply 0x0b x ∷ multiply 0x0e x ∷ multiply 0x09 x ∷ multiply 0x0d x ∷ []
unfolding column_product xtimes partial_product multiply
from_second = at_each (λ x. column_product 0 (bit_xor x (multiply 4 x)) 0 (multiply 4 x)) (λ x. multiply 0x0b x ∷ multiply 0x0e x ∷ multiply 0x09 x ∷ multiply 0x0d x ∷ []) refl

from_third : (x : ℕ) → x < 256 → column_product (multiply 4 x) 0 (bit_xor x (multiply 4 x)) 0 ≡ multiply 0x0d x ∷ multiply 0x0b x ∷ multiply 0x0e x ∷ multiply 0x09 x ∷ []
unfolding column_product xtimes partial_product multiply
from_third = at_each (λ x. column_product (multiply 4 x) 0 (bit_xor x (multiply 4 x)) 0) (λ x. multiply 0x0d x ∷ multiply 0x0b x ∷ multiply 0x0e x ∷ multiply 0x09 x ∷ []) refl

from_fourth : (x : ℕ) → x < 256 → column_product 0 (multiply 4 x) 0 (bit_xor x (multiply 4 x)) ≡ multiply 0x09 x ∷ multiply 0x0d x ∷ multiply 0x0b x ∷ multiply 0x0e x ∷ []
unfolding column_product xtimes partial_product multiply
from_fourth = at_each (λ x. column_product 0 (multiply 4 x) 0 (bit_xor x (multiply 4 x))) (λ x. multiply 0x09 x ∷ multiply 0x0d x ∷ multiply 0x0b x ∷ multiply 0x0e x ∷ []) refl

-- a spread byte as a sum over the rows
spread-parts : (x y : ℕ) → spread x y ≡ bit_xor (bit_xor x (multiply 4 x)) (multiply 4 y)
spread-parts x y = ap (bit_xor x) ((multiply-additive 4).sum x y) ∙ sym (xor_assoc x (multiply 4 x) (multiply 4 y))

spread-first : (a c : ℕ) → spread a c ≡ sum_of (bit_xor a (multiply 4 a)) 0 (multiply 4 c) 0
spread-first a c =
    spread-parts a c ∙ ap (λ n. bit_xor n (multiply 4 c)) (sym (xor_zero_r (bit_xor a (multiply 4 a)))) ∙ sym (xor_zero_r (bit_xor (bit_xor (bit_xor a (multiply 4 a)) 0) (multiply 4 c)))

spread-second : (b d : ℕ) → spread b d ≡ sum_of 0 (bit_xor b (multiply 4 b)) 0 (multiply 4 d)
spread-second b d =
    spread-parts b d
    ∙ ap (λ n. bit_xor n (multiply 4 d)) (sym (xor_zero_l (bit_xor b (multiply 4 b))) ∙ sym (xor_zero_r (bit_xor 0 (bit_xor b (multiply 4 b)))))

spread-third : (a c : ℕ) → spread c a ≡ sum_of (multiply 4 a) 0 (bit_xor c (multiply 4 c)) 0
spread-third a c =
    spread-parts c a ∙ xor_comm (bit_xor c (multiply 4 c)) (multiply 4 a)
    ∙ ap (λ n. bit_xor n (bit_xor c (multiply 4 c))) (sym (xor_zero_r (multiply 4 a))) ∙ sym (xor_zero_r (bit_xor (bit_xor (multiply 4 a) 0) (bit_xor c (multiply 4 c))))

spread-fourth : (b d : ℕ) → spread d b ≡ sum_of 0 (multiply 4 b) 0 (bit_xor d (multiply 4 d))
spread-fourth b d =
    spread-parts d b ∙ xor_comm (bit_xor d (multiply 4 d)) (multiply 4 b)
    ∙ ap (λ n. bit_xor n (bit_xor d (multiply 4 d))) (sym (xor_zero_l (multiply 4 b)) ∙ sym (xor_zero_r (bit_xor 0 (multiply 4 b))))

four_bytes : (f : ℕ → ℕ → ℕ → ℕ → List ℕ) {a b c d a' b' c' d' : ℕ} → a ≡ a' → b ≡ b' → c ≡ c' → d ≡ d' → f a b c d ≡ f a' b' c' d'
four_bytes f {a} {b} {c} {d} {a'} {b'} {c'} {d'} ea eb ec ed =
    ap (λ x. f x b c d) ea ∙ ap (λ x. f a' x c d) eb ∙ ap (λ x. f a' b' x d) ec ∙ ap (f a' b' c') ed

pub spread-column : (a b c d : ℕ) → a < 256 → b < 256 → c < 256 → d < 256
    → column_product (spread a c) (spread b d) (spread c a) (spread d b) ≡ inverse_column_product a b c d
unfolding inverse_column_product xor_bytes
spread-column a b c d ha hb hc hd =
    four_bytes column_product (spread-first a c) (spread-second b d) (spread-third a c) (spread-fourth b d)
    ∙ mixed-sum (bit_xor a (multiply 4 a)) 0 (multiply 4 c) 0 0 (bit_xor b (multiply 4 b)) 0 (multiply 4 d)
    (multiply 4 a) 0 (bit_xor c (multiply 4 c)) 0 0 (multiply 4 b) 0 (bit_xor d (multiply 4 d))
    ∙ rw (from_first a ha, from_second b hb, from_third c hc, from_fourth d hd) refl

module _ (p0 p1 p2 p3 p4 p5 p6 p7 : List ℕ)
    (a : IsPlane p0) (b : IsPlane p1) (c : IsPlane p2) (d : IsPlane p3) (e : IsPlane p4) (f : IsPlane p5) (g : IsPlane p6) (h : IsPlane p7) where
  abbrev old : List (List ℕ)
  old = eight_of p0 p1 p2 p3 p4 p5 p6 p7

  abbrev given : List (List ℕ)
  given = p7 ∷ p6 ∷ p5 ∷ p4 ∷ p3 ∷ p2 ∷ p1 ∷ p0 ∷ moved half_turn p7 ∷ moved half_turn p6 ∷ moved half_turn p5 ∷ moved half_turn p4
      ∷ moved half_turn p3 ∷ moved half_turn p2 ∷ moved half_turn p1 ∷ moved half_turn p0 ∷ []

  abbrev all : List (List ℕ)
  all = values (zip2 bit_xor) (zip2 bit_and) zeros spread_gates given

  abbrev new : List (List ℕ)
  new = get_or all 7 zeros ∷ get_or all 6 zeros ∷ get_or all 5 zeros ∷ get_or all 4 zeros ∷ get_or all 3 zeros ∷ get_or all 2 zeros ∷ get_or all 1 zeros ∷ get_or all 0 zeros ∷ []

  abbrev given_bits : ℕ → ℕ → List ℕ
  given_bits p k = bit p k p7 ∷ bit p k p6 ∷ bit p k p5 ∷ bit p k p4 ∷ bit p k p3 ∷ bit p k p2 ∷ bit p k p1 ∷ bit p k p0
      ∷ bit (second p) k p7 ∷ bit (second p) k p6 ∷ bit (second p) k p5 ∷ bit (second p) k p4
      ∷ bit (second p) k p3 ∷ bit (second p) k p2 ∷ bit (second p) k p1 ∷ bit (second p) k p0 ∷ []

  have : (p k : ℕ) → p < 32 → HaveBits p k given (given_bits p k)
  have p k lt =
      HaveBits-more p k p7 _ _ _ (here p7 h) (HaveBits-more p k p6 _ _ _ (here p6 g) (HaveBits-more p k p5 _ _ _ (here p5 f) (HaveBits-more p k p4 _ _ _ (here p4 e)
      (HaveBits-more p k p3 _ _ _ (here p3 d) (HaveBits-more p k p2 _ _ _ (here p2 c) (HaveBits-more p k p1 _ _ _ (here p1 b) (HaveBits-more p k p0 _ _ _ (here p0 a)
      (HaveBits-more p k _ _ _ _ (there p7 h) (HaveBits-more p k _ _ _ _ (there p6 g) (HaveBits-more p k _ _ _ _ (there p5 f) (HaveBits-more p k _ _ _ _ (there p4 e)
      (HaveBits-more p k _ _ _ _ (there p3 d) (HaveBits-more p k _ _ _ _ (there p2 c) (HaveBits-more p k _ _ _ _ (there p1 b) (HaveBits-more p k _ _ _ _ (there p0 a)
      (record { each = λ i. HasBit-zeros p k lt }))))))))))))))))
    where
      here : (v : List ℕ) → IsPlane v → HasBit p k v (bit p k v)
      here v plane = record { plane = plane; same = refl }

      there : (v : List ℕ) → IsPlane v → HasBit p k (moved half_turn v) (bit (second p) k v)
      there v plane = record { plane = IsPlane-moved half_turn refl tt v plane; same = bit-moved half_turn refl tt p k v lt plane }

  value : (p k : ℕ) → p < 32 → (i : ℕ) → HasBit p k (get_or all i zeros) (get_or (values bit_xor bit_and 0 spread_gates (given_bits p k)) i 0)
  value p k lt = (values-bits p k lt spread_gates given (given_bits p k) (have p k lt)).each

  pub IsPlane-spread : (i : ℕ) → IsPlane (get_or all i zeros)
  IsPlane-spread i = (value 0 0 (lit< tt) i).plane

  byte_at-spread : (k p : ℕ) → p < 32 → byte_at new k p ≡ spread (byte_at old k p) (byte_at old k (second p))
  unfolding values spread_gates quadrupled
  byte_at-spread k p lt =
      let v = value p k lt in
      let at : ℕ → List ℕ = λ q. map (bit q k) old in
      let low : (q i : ℕ) → get_or (at q) i 0 < 2 = λ q. bits-lt q k old in
      let both : List ℕ = zip2 bit_xor (at p) (at (second p)) in
      let low_both : (i : ℕ) → get_or both i 0 < 2 = sums-lt (at p) (at (second p)) (low p) (low (second p)) in
      let top = xor_lt 1 _ _ (low_both 6) (low_both 7) in
      let low_quadrupled : (i : ℕ) → get_or (quadrupled both) i 0 < 2 =
      eight_lt _ _ _ _ _ _ _ _ (low_both 6) top (xor_lt 1 _ _ (low_both 0) (low_both 7)) (xor_lt 1 _ _ (low_both 1) (low_both 6)) (xor_lt 1 _ _ (low_both 2) top) (xor_lt 1 _ _ (low_both 3) (low_both 7)) (low_both 4) (low_both 5) in
      ap byte_of (eight_same (v 7).same (v 6).same (v 5).same (v 4).same (v 3).same (v 2).same (v 1).same (v 0).same)
      ∙ byte_of-xor (at p) (quadrupled both) refl (low p) low_quadrupled
      ∙ ap (bit_xor (byte_of (at p)))
      (on_bits (λ l. byte_of (quadrupled l)) (multiply 4) quadrupled-is _ _ _ _ _ _ _ _ (low_both 0) (low_both 1) (low_both 2) (low_both 3) (low_both 4) (low_both 5) (low_both 6) (low_both 7)
      ∙ ap (multiply 4) (byte_of-xor (at p) (at (second p)) refl (low p) (low (second p))))

  spread_lane : (l k : ℕ) → l < 2 → lane_block new l k
      ≡ map (λ j. spread (byte_at old k (16 * l + place j)) (byte_at old k (second (16 * l + place j)))) (range_with_len 0 16)
  unfolding lane_block
  spread_lane l k two =
      range-agree _ (λ j. spread (byte_at old k (16 * l + place j)) (byte_at old k (second (16 * l + place j)))) 0 16
      (λ j lt. byte_at-spread k (16 * l + place j) (omega arith))

  column : (k q : ℕ) → column_product (spread (byte_at old k q) (byte_at old k (q + 8))) (spread (byte_at old k (q + 4)) (byte_at old k (q + 12)))
      (spread (byte_at old k (q + 8)) (byte_at old k q)) (spread (byte_at old k (q + 12)) (byte_at old k (q + 4)))
      ≡ inverse_column_product (byte_at old k q) (byte_at old k (q + 4)) (byte_at old k (q + 8)) (byte_at old k (q + 12))
  column k q = spread-column (byte_at old k q) (byte_at old k (q + 4)) (byte_at old k (q + 8)) (byte_at old k (q + 12)) (byte_at-lt p0 p1 p2 p3 p4 p5 p6 p7 k q) (byte_at-lt p0 p1 p2 p3 p4 p5 p6 p7 k (q + 4)) (byte_at-lt p0 p1 p2 p3 p4 p5 p6 p7 k (q + 8)) (byte_at-lt p0 p1 p2 p3 p4 p5 p6 p7 k (q + 12))

  lane_block-spread : (l k : ℕ) → l < 2 → mix_columns (lane_block new l k) ≡ inverse_mix_columns (lane_block old l k)
  unfolding lane_block mix_columns inverse_mix_columns
  lane_block-spread zero k two = ap mix_columns (spread_lane 0 k two) ∙ four (column k 0) (column k 1) (column k 2) (column k 3)
  lane_block-spread (suc zero) k two = ap mix_columns (spread_lane 1 k two) ∙ four (column k 16) (column k 17) (column k 18) (column k 19)
  lane_block-spread (suc (suc l)) k two = absurd (omega arith)

  pub block_of-spread : (k : ℕ) → mix_columns (block_of new k) ≡ inverse_mix_columns (block_of old k)
  unfolding block_of
  block_of-spread k = lane_block-spread (k % 2) (k / 2) (omega arith)
