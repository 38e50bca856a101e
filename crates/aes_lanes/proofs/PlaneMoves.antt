-- ShiftRows, MixColumns and AddRoundKey on planes.
use Rattle.std.proofs.Common.{◌≡◌, ℕ, zero, suc, ◌+◌, ◌*◌, ◌/◌, ◌%◌, ◌^◌, ◌<◌, ◌≤◌, List, [], ◌∷◌, ◌++◌, map, length, get_or, bit_xor, slice_index, refl, sym, ap, ap₂, ◌∙◌, arith, inl, inr, lit<}
use Rattle.std.specs.Simd.Lanes.{zip2, pick_l, all_below}
use Rattle.std.specs.List.{range_with_len}
use Rattle.std.proofs.lemmas.List.{get_or_past, get_or-map, length-map}
use Rattle.std.proofs.lemmas.Bool.{cases_lt}
use Rattle.std.proofs.lemmas.Simd.{pick_l_left, zip2-map}
use lib.Dec.{T}
use lib.Bits.{xor_assoc, xor_comm, xor_lt}
use Rattle.aes_lanes.specs.Bytes.{xor_bytes}
use Rattle.aes_lanes.specs.Field.{xtimes, partial_product, multiply}
use Rattle.aes_lanes.specs.Rounds.{sum_of, column_product, mix_columns, add_round_key}
use Rattle.aes_lanes.specs.Laws.Field.{at_each, multiply-additive}
use Rattle.aes_lanes.specs.Planes.{IsPlane, bit, byte_of, byte_at, block_of, lane_block, place}
use Rattle.aes_lanes.proofs.PlaneBits.{IsPlane-sum, bit-sum, bits-lt, eight_of, eight_same, eight_lt, byte_at-lt, range-agree, both_lanes, bits_of, on_bits, byte_of-xor}

-- the lanes of a vector in other places, as `swizzle` gives them
abbrev pub moved : List ℕ → List ℕ → List ℕ
moved places v = pick_l 0 (v ++ v) places

abbrev pub turn : List ℕ
turn =
    4 ∷ 5 ∷ 6 ∷ 7 ∷ 8 ∷ 9 ∷ 10 ∷ 11 ∷ 12 ∷ 13 ∷ 14 ∷ 15 ∷ 0 ∷ 1 ∷ 2 ∷ 3
    ∷ 20 ∷ 21 ∷ 22 ∷ 23 ∷ 24 ∷ 25 ∷ 26 ∷ 27 ∷ 28 ∷ 29 ∷ 30 ∷ 31 ∷ 16 ∷ 17 ∷ 18 ∷ 19 ∷ []

abbrev pub half_turn : List ℕ
half_turn =
    8 ∷ 9 ∷ 10 ∷ 11 ∷ 12 ∷ 13 ∷ 14 ∷ 15 ∷ 0 ∷ 1 ∷ 2 ∷ 3 ∷ 4 ∷ 5 ∷ 6 ∷ 7
    ∷ 24 ∷ 25 ∷ 26 ∷ 27 ∷ 28 ∷ 29 ∷ 30 ∷ 31 ∷ 16 ∷ 17 ∷ 18 ∷ 19 ∷ 20 ∷ 21 ∷ 22 ∷ 23 ∷ []

abbrev pub shift : List ℕ
shift =
    0 ∷ 1 ∷ 2 ∷ 3 ∷ 5 ∷ 6 ∷ 7 ∷ 4 ∷ 10 ∷ 11 ∷ 8 ∷ 9 ∷ 15 ∷ 12 ∷ 13 ∷ 14
    ∷ 16 ∷ 17 ∷ 18 ∷ 19 ∷ 21 ∷ 22 ∷ 23 ∷ 20 ∷ 26 ∷ 27 ∷ 24 ∷ 25 ∷ 31 ∷ 28 ∷ 29 ∷ 30 ∷ []

abbrev pub unshift : List ℕ
unshift =
    0 ∷ 1 ∷ 2 ∷ 3 ∷ 7 ∷ 4 ∷ 5 ∷ 6 ∷ 10 ∷ 11 ∷ 8 ∷ 9 ∷ 13 ∷ 14 ∷ 15 ∷ 12
    ∷ 16 ∷ 17 ∷ 18 ∷ 19 ∷ 23 ∷ 20 ∷ 21 ∷ 22 ∷ 26 ∷ 27 ∷ 24 ∷ 25 ∷ 29 ∷ 30 ∷ 31 ∷ 28 ∷ []

module _ (places : List ℕ) (long : length places ≡ 32) (within : T (all_below 32 places)) where
  pub slice_index-moved : (v : List ℕ) (p : ℕ) → IsPlane v → p < 32 → slice_index (moved places v) p ≡ slice_index v (get_or places p 0)
  slice_index-moved v p plane lt =
      let in_places : p < length places = omega arith in
      ap (λ l. slice_index l p) (pick_l_left 0 v v 32 places plane.long within)
      ∙ get_or-map (λ k. get_or v k 0) places p 0 0 in_places

  pub IsPlane-moved : (v : List ℕ) → IsPlane v → IsPlane (moved places v)
  IsPlane-moved v plane =
      let same : length (moved places v) ≡ 32 = length-map places (λ k. get_or (v ++ v) k 0) ∙ long in
      record {
        long = same;
        bytes = λ p. elim (cases_lt p 32) [
          | inl lt ↦ rw (slice_index-moved v p plane lt) (plane.bytes _)
          | inr ge ↦
              let past : length (moved places v) ≤ p = omega arith in
              rw (get_or_past (moved places v) p 0 past) (lit< tt)
        ];
      }

  pub bit-moved : (p k : ℕ) (v : List ℕ) → p < 32 → IsPlane v → bit p k (moved places v) ≡ bit (get_or places p 0) k v
  bit-moved p k v lt plane = ap (λ n. n / 2 ^ k % 2) (slice_index-moved v p plane lt)

-- blocks whose bytes all come from other places
lane_block-moved : (places : List ℕ) → length places ≡ 32 → T (all_below 32 places) → (p0 p1 p2 p3 p4 p5 p6 p7 : List ℕ)
    → IsPlane p0 → IsPlane p1 → IsPlane p2 → IsPlane p3 → IsPlane p4 → IsPlane p5 → IsPlane p6 → IsPlane p7 → (l b : ℕ) → l < 2
    → lane_block (moved places p0 ∷ moved places p1 ∷ moved places p2 ∷ moved places p3 ∷ moved places p4 ∷ moved places p5 ∷ moved places p6 ∷ moved places p7 ∷ []) l b
    ≡ map (λ j. byte_at (p0 ∷ p1 ∷ p2 ∷ p3 ∷ p4 ∷ p5 ∷ p6 ∷ p7 ∷ []) b (get_or places (16 * l + place j) 0)) (range_with_len 0 16)
unfolding lane_block
lane_block-moved places long below p0 p1 p2 p3 p4 p5 p6 p7 a b c d e f g h l k two =
    range-agree _ (λ j. byte_at (p0 ∷ p1 ∷ p2 ∷ p3 ∷ p4 ∷ p5 ∷ p6 ∷ p7 ∷ []) k (get_or places (16 * l + place j) 0)) 0 16 (λ j lt.
    let p : ℕ = 16 * l + place j in
    let within : p < 32 = omega arith in
    ap byte_of (eight_same (at p p0 within a) (at p p1 within b) (at p p2 within c) (at p p3 within d) (at p p4 within e) (at p p5 within f) (at p p6 within g) (at p p7 within h)))
  where
    at : (p : ℕ) (v : List ℕ) → p < 32 → IsPlane v → bit p k (moved places v) ≡ bit (get_or places p 0) k v
    at p v lt plane = bit-moved places long below p k v lt plane

-- what a function of states makes of a lane's bytes, where they come from other places
abbrev pub MovesLane : List ℕ → (List ℕ → List ℕ) → ℕ → Type 0
MovesLane places rows l =
    (f : ℕ → ℕ) → map (λ j. f (get_or places (16 * l + place j) 0)) (range_with_len 0 16) ≡ rows (map (λ j. f (16 * l + place j)) (range_with_len 0 16))

lane_block-rows : (places : List ℕ) → length places ≡ 32 → T (all_below 32 places) → (rows : List ℕ → List ℕ) → MovesLane places rows 0 → MovesLane places rows 1
    → (p0 p1 p2 p3 p4 p5 p6 p7 : List ℕ) → IsPlane p0 → IsPlane p1 → IsPlane p2 → IsPlane p3 → IsPlane p4 → IsPlane p5 → IsPlane p6 → IsPlane p7 → (l b : ℕ) → l < 2
    → lane_block (moved places p0 ∷ moved places p1 ∷ moved places p2 ∷ moved places p3 ∷ moved places p4 ∷ moved places p5 ∷ moved places p6 ∷ moved places p7 ∷ []) l b
    ≡ rows (lane_block (p0 ∷ p1 ∷ p2 ∷ p3 ∷ p4 ∷ p5 ∷ p6 ∷ p7 ∷ []) l b)
unfolding lane_block
lane_block-rows places long below rows first second p0 p1 p2 p3 p4 p5 p6 p7 a b c d e f g h zero k two =
    lane_block-moved places long below p0 p1 p2 p3 p4 p5 p6 p7 a b c d e f g h 0 k two ∙ first (byte_at (p0 ∷ p1 ∷ p2 ∷ p3 ∷ p4 ∷ p5 ∷ p6 ∷ p7 ∷ []) k)
lane_block-rows places long below rows first second p0 p1 p2 p3 p4 p5 p6 p7 a b c d e f g h (suc zero) k two =
    lane_block-moved places long below p0 p1 p2 p3 p4 p5 p6 p7 a b c d e f g h 1 k two ∙ second (byte_at (p0 ∷ p1 ∷ p2 ∷ p3 ∷ p4 ∷ p5 ∷ p6 ∷ p7 ∷ []) k)
lane_block-rows places long below rows first second p0 p1 p2 p3 p4 p5 p6 p7 a b c d e f g h (suc (suc l)) k two = absurd (omega arith)

-- the blocks whose rows are shifted, or shifted back
pub block_of-rows : (places : List ℕ) → length places ≡ 32 → T (all_below 32 places) → (rows : List ℕ → List ℕ) → MovesLane places rows 0 → MovesLane places rows 1
    → (p0 p1 p2 p3 p4 p5 p6 p7 : List ℕ) → IsPlane p0 → IsPlane p1 → IsPlane p2 → IsPlane p3 → IsPlane p4 → IsPlane p5 → IsPlane p6 → IsPlane p7 → (k : ℕ)
    → block_of (moved places p0 ∷ moved places p1 ∷ moved places p2 ∷ moved places p3 ∷ moved places p4 ∷ moved places p5 ∷ moved places p6 ∷ moved places p7 ∷ []) k
    ≡ rows (block_of (p0 ∷ p1 ∷ p2 ∷ p3 ∷ p4 ∷ p5 ∷ p6 ∷ p7 ∷ []) k)
unfolding block_of
block_of-rows places long below rows first second p0 p1 p2 p3 p4 p5 p6 p7 a b c d e f g h k =
    lane_block-rows places long below rows first second p0 p1 p2 p3 p4 p5 p6 p7 a b c d e f g h (k % 2) (k / 2) (omega arith)

-- the sum of two states, a bit at a time
pub byte_at-sum : (s0 s1 s2 s3 s4 s5 s6 s7 t0 t1 t2 t3 t4 t5 t6 t7 : List ℕ)
    → IsPlane s0 → IsPlane s1 → IsPlane s2 → IsPlane s3 → IsPlane s4 → IsPlane s5 → IsPlane s6 → IsPlane s7
    → IsPlane t0 → IsPlane t1 → IsPlane t2 → IsPlane t3 → IsPlane t4 → IsPlane t5 → IsPlane t6 → IsPlane t7
    → (k p : ℕ) → p < 32
    → byte_at (zip2 bit_xor s0 t0 ∷ zip2 bit_xor s1 t1 ∷ zip2 bit_xor s2 t2 ∷ zip2 bit_xor s3 t3
    ∷ zip2 bit_xor s4 t4 ∷ zip2 bit_xor s5 t5 ∷ zip2 bit_xor s6 t6 ∷ zip2 bit_xor s7 t7 ∷ []) k p
    ≡ bit_xor (byte_at (s0 ∷ s1 ∷ s2 ∷ s3 ∷ s4 ∷ s5 ∷ s6 ∷ s7 ∷ []) k p) (byte_at (t0 ∷ t1 ∷ t2 ∷ t3 ∷ t4 ∷ t5 ∷ t6 ∷ t7 ∷ []) k p)
byte_at-sum s0 s1 s2 s3 s4 s5 s6 s7 t0 t1 t2 t3 t4 t5 t6 t7 a b c d e f g h i j l m n o q r k p lt =
    let s : List (List ℕ) = s0 ∷ s1 ∷ s2 ∷ s3 ∷ s4 ∷ s5 ∷ s6 ∷ s7 ∷ [] in
    let t : List (List ℕ) = t0 ∷ t1 ∷ t2 ∷ t3 ∷ t4 ∷ t5 ∷ t6 ∷ t7 ∷ [] in
    ap byte_of (eight_same (bit-sum p k s0 t0 lt a i) (bit-sum p k s1 t1 lt b j) (bit-sum p k s2 t2 lt c l) (bit-sum p k s3 t3 lt d m)
    (bit-sum p k s4 t4 lt e n) (bit-sum p k s5 t5 lt f o) (bit-sum p k s6 t6 lt g q) (bit-sum p k s7 t7 lt h r))
    ∙ byte_of-xor (map (bit p k) s) (map (bit p k) t) refl (bits-lt p k s) (bits-lt p k t)

pub block_of-sum : (s0 s1 s2 s3 s4 s5 s6 s7 t0 t1 t2 t3 t4 t5 t6 t7 : List ℕ)
    → IsPlane s0 → IsPlane s1 → IsPlane s2 → IsPlane s3 → IsPlane s4 → IsPlane s5 → IsPlane s6 → IsPlane s7
    → IsPlane t0 → IsPlane t1 → IsPlane t2 → IsPlane t3 → IsPlane t4 → IsPlane t5 → IsPlane t6 → IsPlane t7 → (k : ℕ)
    → block_of (zip2 bit_xor s0 t0 ∷ zip2 bit_xor s1 t1 ∷ zip2 bit_xor s2 t2 ∷ zip2 bit_xor s3 t3
    ∷ zip2 bit_xor s4 t4 ∷ zip2 bit_xor s5 t5 ∷ zip2 bit_xor s6 t6 ∷ zip2 bit_xor s7 t7 ∷ []) k
    ≡ add_round_key (block_of (s0 ∷ s1 ∷ s2 ∷ s3 ∷ s4 ∷ s5 ∷ s6 ∷ s7 ∷ []) k) (block_of (t0 ∷ t1 ∷ t2 ∷ t3 ∷ t4 ∷ t5 ∷ t6 ∷ t7 ∷ []) k)
unfolding block_of lane_block add_round_key xor_bytes
block_of-sum s0 s1 s2 s3 s4 s5 s6 s7 t0 t1 t2 t3 t4 t5 t6 t7 a b c d e f g h i j l m n o q r k =
    let s : List (List ℕ) = s0 ∷ s1 ∷ s2 ∷ s3 ∷ s4 ∷ s5 ∷ s6 ∷ s7 ∷ [] in
    let t : List (List ℕ) = t0 ∷ t1 ∷ t2 ∷ t3 ∷ t4 ∷ t5 ∷ t6 ∷ t7 ∷ [] in
    let at : ℕ → ℕ = λ y. 16 * (k % 2) + place y in
    range-agree _ (λ y. bit_xor (byte_at s (k / 2) (at y)) (byte_at t (k / 2) (at y))) 0 16 (λ y lt.
    byte_at-sum s0 s1 s2 s3 s4 s5 s6 s7 t0 t1 t2 t3 t4 t5 t6 t7 a b c d e f g h i j l m n o q r (k / 2) (at y) (omega arith))
    ∙ sym (zip2-map bit_xor (λ y. byte_at s (k / 2) (at y)) (λ y. byte_at t (k / 2) (at y)) (range_with_len 0 16))

-- x times a byte by its bits
doubled : List ℕ → List ℕ
doubled bits =
    get_or bits 7 0 ∷ bit_xor (get_or bits 0 0) (get_or bits 7 0) ∷ get_or bits 1 0 ∷ bit_xor (get_or bits 2 0) (get_or bits 7 0)
    ∷ bit_xor (get_or bits 3 0) (get_or bits 7 0) ∷ get_or bits 4 0 ∷ get_or bits 5 0 ∷ get_or bits 6 0 ∷ []

doubled-is : (x : ℕ) → x < 256 → byte_of (doubled (bits_of x)) ≡ multiply 2 x
unfolding doubled byte_of bits_of xtimes partial_product multiply
doubled-is = at_each (λ x. byte_of (doubled (bits_of x))) (multiply 2) refl

tripled : (x : ℕ) → x < 256 → bit_xor (multiply 2 x) x ≡ multiply 3 x
unfolding xtimes partial_product multiply
tripled = at_each (λ x. bit_xor (multiply 2 x) x) (multiply 3) refl

-- one byte of a mixed column, from the four of the column from its row on
abbrev mixed : ℕ → ℕ → ℕ → ℕ → ℕ
mixed a b c d = bit_xor (bit_xor (multiply 2 (bit_xor a b)) b) (bit_xor c d)

turned_sum : (w x y z : ℕ) → sum_of w x y z ≡ sum_of z w x y
turned_sum w x y z =
    xor_comm (bit_xor (bit_xor w x) y) z ∙ sym (xor_assoc z (bit_xor w x) y) ∙ ap (λ n. bit_xor n y) (sym (xor_assoc z w x))

mixed-first : (a b c d : ℕ) → b < 256 → mixed a b c d ≡ sum_of (multiply 2 a) (multiply 3 b) c d
mixed-first a b c d hb =
    ap (λ n. bit_xor (bit_xor n b) (bit_xor c d)) ((multiply-additive 2).sum a b)
    ∙ ap (λ n. bit_xor n (bit_xor c d)) (xor_assoc (multiply 2 a) (multiply 2 b) b ∙ ap (bit_xor (multiply 2 a)) (tripled b hb))
    ∙ sym (xor_assoc (bit_xor (multiply 2 a) (multiply 3 b)) c d)

pub mixed-column : (a b c d : ℕ) → a < 256 → b < 256 → c < 256 → d < 256
    → mixed a b c d ∷ mixed b c d a ∷ mixed c d a b ∷ mixed d a b c ∷ [] ≡ column_product a b c d
unfolding column_product
mixed-column a b c d ha hb hc hd =
    let first = mixed-first a b c d hb in
    let second = mixed-first b c d a hc ∙ turned_sum (multiply 2 b) (multiply 3 c) d a in
    let third = mixed-first c d a b hd ∙ turned_sum (multiply 2 c) (multiply 3 d) a b ∙ turned_sum b (multiply 2 c) (multiply 3 d) a in
    let fourth =
    mixed-first d a b c ha ∙ turned_sum (multiply 2 d) (multiply 3 a) b c ∙ turned_sum c (multiply 2 d) (multiply 3 a) b ∙ turned_sum b c (multiply 2 d) (multiply 3 a) in
    ap₂ ◌∷◌ first (ap₂ ◌∷◌ second (ap₂ ◌∷◌ third (ap (λ n. n ∷ []) fourth)))

-- one plane of the mixed state: the plane below it in the double of a + b, and the plane itself
abbrev mixed_plane : List ℕ → List ℕ → List ℕ
mixed_plane base v = zip2 bit_xor (zip2 bit_xor base (moved turn v)) (moved half_turn (zip2 bit_xor v (moved turn v)))

-- a plane of a + b
abbrev paired : List ℕ → List ℕ
paired v = zip2 bit_xor v (moved turn v)

pub IsPlane-paired : (v : List ℕ) → IsPlane v → IsPlane (paired v)
IsPlane-paired v plane = IsPlane-sum v (moved turn v) plane (IsPlane-moved turn refl tt v plane)

pub IsPlane-mixed : (base v : List ℕ) → IsPlane base → IsPlane v → IsPlane (mixed_plane base v)
IsPlane-mixed base v b plane =
    IsPlane-sum (zip2 bit_xor base (moved turn v)) (moved half_turn (paired v))
    (IsPlane-sum base (moved turn v) b (IsPlane-moved turn refl tt v plane))
    (IsPlane-moved half_turn refl tt (paired v) (IsPlane-paired v plane))

pub IsPlane-doubled : (u v : List ℕ) → IsPlane u → IsPlane v → IsPlane (zip2 bit_xor (paired u) (paired v))
IsPlane-doubled u v a b = IsPlane-sum (paired u) (paired v) (IsPlane-paired u a) (IsPlane-paired v b)

-- the places of a column from a place on
abbrev next : ℕ → ℕ
next p = get_or turn p 0

abbrev pub second : ℕ → ℕ
second p = get_or half_turn p 0

module _ (p k : ℕ) (lt : p < 32) where
  turned-lt : next p < 32
  turned-lt = bound p lt where
    bound : (p : ℕ) → p < 32 → next p < 32
    bound p lt = let e = both_lanes (λ q. next q % 32) next refl p lt in omega (arith, e)

  pub half-lt : second p < 32
  half-lt = bound p lt where
    bound : (p : ℕ) → p < 32 → second p < 32
    bound p lt = let e = both_lanes (λ q. second q % 32) second refl p lt in omega (arith, e)

  bit-paired : (v : List ℕ) → IsPlane v → bit p k (paired v) ≡ bit_xor (bit p k v) (bit (next p) k v)
  bit-paired v plane =
      bit-sum p k v (moved turn v) lt plane (IsPlane-moved turn refl tt v plane)
      ∙ ap (bit_xor (bit p k v)) (bit-moved turn refl tt p k v lt plane)

bit-half : (p k : ℕ) (v : List ℕ) → p < 32 → IsPlane v
    → bit p k (moved half_turn (paired v)) ≡ bit_xor (bit (second p) k v) (bit (next (second p)) k v)
bit-half p k v lt plane =
    bit-moved half_turn refl tt p k (paired v) lt (IsPlane-paired v plane) ∙ bit-paired (second p) k (half-lt p k lt) v plane

bit-mixed : (p k : ℕ) (base v : List ℕ) → p < 32 → IsPlane base → IsPlane v
    → bit p k (mixed_plane base v)
    ≡ bit_xor (bit_xor (bit p k base) (bit (next p) k v)) (bit_xor (bit (second p) k v) (bit (next (second p)) k v))
bit-mixed p k base v lt b plane =
    let turned = IsPlane-moved turn refl tt v plane in
    bit-sum p k (zip2 bit_xor base (moved turn v)) (moved half_turn (paired v)) lt (IsPlane-sum base (moved turn v) b turned)
    (IsPlane-moved half_turn refl tt (paired v) (IsPlane-paired v plane))
    ∙ ap₂ bit_xor
    (bit-sum p k base (moved turn v) lt b turned ∙ ap (bit_xor (bit p k base)) (bit-moved turn refl tt p k v lt plane))
    (bit-half p k v lt plane)

pub sums-lt : (bs cs : List ℕ) → ((i : ℕ) → get_or bs i 0 < 2) → ((i : ℕ) → get_or cs i 0 < 2) → (i : ℕ) → get_or (zip2 bit_xor bs cs) i 0 < 2
sums-lt [] cs low_bs low_cs i = lit< tt
sums-lt (b ∷ bs) [] low_bs low_cs i = lit< tt
sums-lt (b ∷ bs) (c ∷ cs) low_bs low_cs zero = xor_lt 1 b c (low_bs zero) (low_cs zero)
sums-lt (b ∷ bs) (c ∷ cs) low_bs low_cs (suc i) = sums-lt bs cs (λ j. low_bs (suc j)) (λ j. low_cs (suc j)) i

pub four : {w x y z w' x' y' z' : List ℕ} → w ≡ w' → x ≡ x' → y ≡ y' → z ≡ z' → w ++ x ++ y ++ z ≡ w' ++ x' ++ y' ++ z'
four {w} {x} {y} {z} {w'} {x'} {y'} {z'} ew ex ey ez =
    ap (λ l. l ++ x ++ y ++ z) ew ∙ ap (λ l. w' ++ l ++ y ++ z) ex ∙ ap (λ l. w' ++ x' ++ l ++ z) ey ∙ ap (λ l. w' ++ x' ++ y' ++ l) ez

module _ (p0 p1 p2 p3 p4 p5 p6 p7 : List ℕ)
    (a : IsPlane p0) (b : IsPlane p1) (c : IsPlane p2) (d : IsPlane p3) (e : IsPlane p4) (f : IsPlane p5) (g : IsPlane p6) (h : IsPlane p7) where
  abbrev old : List (List ℕ)
  old = eight_of p0 p1 p2 p3 p4 p5 p6 p7

  abbrev new : List (List ℕ)
  new =
      mixed_plane (paired p7) p0
      ∷ mixed_plane (zip2 bit_xor (paired p0) (paired p7)) p1
      ∷ mixed_plane (paired p1) p2
      ∷ mixed_plane (zip2 bit_xor (paired p2) (paired p7)) p3
      ∷ mixed_plane (zip2 bit_xor (paired p3) (paired p7)) p4
      ∷ mixed_plane (paired p4) p5
      ∷ mixed_plane (paired p5) p6
      ∷ mixed_plane (paired p6) p7 ∷ []

  byte_at-mixed : (k p : ℕ) → p < 32
      → byte_at new k p ≡ mixed (byte_at old k p) (byte_at old k (next p)) (byte_at old k (second p)) (byte_at old k (next (second p)))
  unfolding doubled
  byte_at-mixed k p lt =
      let at : ℕ → List ℕ = λ q. map (bit q k) old in
      let low : (q i : ℕ) → get_or (at q) i 0 < 2 = λ q. bits-lt q k old in
      let both : List ℕ = zip2 bit_xor (at p) (at (next p)) in
      let low_both : (i : ℕ) → get_or both i 0 < 2 = sums-lt (at p) (at (next p)) (low p) (low (next p)) in
      let single : (base v u : List ℕ) → IsPlane v → IsPlane u → base ≡ paired u → bit p k (mixed_plane base v) ≡ bit_xor (bit_xor (bit_xor (bit p k u) (bit (next p) k u)) (bit (next p) k v)) (bit_xor (bit (second p) k v) (bit (next (second p)) k v)) =
      λ base v u pv pu is. ap (λ m. bit p k (mixed_plane m v)) is ∙ bit-mixed p k (paired u) v lt (IsPlane-paired u pu) pv ∙ ap (λ m. bit_xor (bit_xor m (bit (next p) k v)) (bit_xor (bit (second p) k v) (bit (next (second p)) k v))) (bit-paired p k lt u pu) in
      let double : (u v : List ℕ) → IsPlane u → IsPlane v → bit p k (mixed_plane (zip2 bit_xor (paired u) (paired p7)) v) ≡ bit_xor (bit_xor (bit_xor (bit_xor (bit p k u) (bit (next p) k u)) (bit_xor (bit p k p7) (bit (next p) k p7))) (bit (next p) k v)) (bit_xor (bit (second p) k v) (bit (next (second p)) k v)) =
      λ u v pu pv. bit-mixed p k (zip2 bit_xor (paired u) (paired p7)) v lt (IsPlane-doubled u p7 pu h) pv
      ∙ ap (λ m. bit_xor (bit_xor m (bit (next p) k v)) (bit_xor (bit (second p) k v) (bit (next (second p)) k v))) (bit-sum p k (paired u) (paired p7) lt (IsPlane-paired u pu) (IsPlane-paired p7 h) ∙ ap₂ bit_xor (bit-paired p k lt u pu) (bit-paired p k lt p7 h)) in
      let doubles : List ℕ = doubled both in
      let low_doubles : (i : ℕ) → get_or doubles i 0 < 2 =
      eight_lt _ _ _ _ _ _ _ _ (low_both 7) (xor_lt 1 _ _ (low_both 0) (low_both 7)) (low_both 1) (xor_lt 1 _ _ (low_both 2) (low_both 7)) (xor_lt 1 _ _ (low_both 3) (low_both 7)) (low_both 4) (low_both 5) (low_both 6) in
      let right : List ℕ = zip2 bit_xor (at (second p)) (at (next (second p))) in
      ap byte_of (eight_same (single _ p0 p7 a h refl) (double p0 p1 a b) (single _ p2 p1 c b refl) (double p2 p3 c d) (double p3 p4 d e) (single _ p5 p4 f e refl) (single _ p6 p5 g f refl) (single _ p7 p6 h g refl))
      ∙ byte_of-xor (zip2 bit_xor doubles (at (next p))) right refl (sums-lt doubles (at (next p)) low_doubles (low (next p))) (sums-lt (at (second p)) (at (next (second p))) (low (second p)) (low (next (second p))))
      ∙ ap₂ bit_xor
      (byte_of-xor doubles (at (next p)) refl low_doubles (low (next p))
      ∙ ap (λ n. bit_xor n (byte_of (at (next p))))
      (on_bits (λ l. byte_of (doubled l)) (multiply 2) doubled-is _ _ _ _ _ _ _ _ (low_both 0) (low_both 1) (low_both 2) (low_both 3) (low_both 4) (low_both 5) (low_both 6) (low_both 7)
      ∙ ap (multiply 2) (byte_of-xor (at p) (at (next p)) refl (low p) (low (next p)))))
      (byte_of-xor (at (second p)) (at (next (second p))) refl (low (second p)) (low (next (second p))))

  column : (k q : ℕ) → mixed (byte_at old k q) (byte_at old k (q + 4)) (byte_at old k (q + 8)) (byte_at old k (q + 12))
      ∷ mixed (byte_at old k (q + 4)) (byte_at old k (q + 8)) (byte_at old k (q + 12)) (byte_at old k q)
      ∷ mixed (byte_at old k (q + 8)) (byte_at old k (q + 12)) (byte_at old k q) (byte_at old k (q + 4))
      ∷ mixed (byte_at old k (q + 12)) (byte_at old k q) (byte_at old k (q + 4)) (byte_at old k (q + 8)) ∷ []
      ≡ column_product (byte_at old k q) (byte_at old k (q + 4)) (byte_at old k (q + 8)) (byte_at old k (q + 12))
  column k q = mixed-column (byte_at old k q) (byte_at old k (q + 4)) (byte_at old k (q + 8)) (byte_at old k (q + 12)) (byte_at-lt p0 p1 p2 p3 p4 p5 p6 p7 k q) (byte_at-lt p0 p1 p2 p3 p4 p5 p6 p7 k (q + 4)) (byte_at-lt p0 p1 p2 p3 p4 p5 p6 p7 k (q + 8)) (byte_at-lt p0 p1 p2 p3 p4 p5 p6 p7 k (q + 12))

  mixed_lane : (l k : ℕ) → l < 2 → lane_block new l k
      ≡ map (λ j. mixed (byte_at old k (16 * l + place j)) (byte_at old k (next (16 * l + place j))) (byte_at old k (second (16 * l + place j))) (byte_at old k (next (second (16 * l + place j))))) (range_with_len 0 16)
  unfolding lane_block
  mixed_lane l k two =
      range-agree _ (λ j. mixed (byte_at old k (16 * l + place j)) (byte_at old k (next (16 * l + place j))) (byte_at old k (second (16 * l + place j))) (byte_at old k (next (second (16 * l + place j))))) 0 16
      (λ j lt. byte_at-mixed k (16 * l + place j) (omega arith))

  lane_block-mix : (l k : ℕ) → l < 2 → lane_block new l k ≡ mix_columns (lane_block old l k)
  unfolding lane_block mix_columns
  lane_block-mix zero k two = mixed_lane 0 k two ∙ four (column k 0) (column k 1) (column k 2) (column k 3)
  lane_block-mix (suc zero) k two = mixed_lane 1 k two ∙ four (column k 16) (column k 17) (column k 18) (column k 19)
  lane_block-mix (suc (suc l)) k two = absurd (omega arith)

  pub block_of-mix : (k : ℕ) → block_of new k ≡ mix_columns (block_of old k)
  unfolding block_of
  block_of-mix k = lane_block-mix (k % 2) (k / 2) (omega arith)
