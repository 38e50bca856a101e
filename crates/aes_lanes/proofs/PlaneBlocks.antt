-- Sixteen blocks and the planes of their bits.
use Rattle.std.proofs.Common.{◌≡◌, ℕ, ◌+◌, ◌-◌, ◌*◌, ◌<◌, ◌≤◌, List, [], ◌∷◌, ◌++◌, map, length, get_or, slice_index, refl, subst, sym, ap, ap₂, ◌∙◌, arith, inl, inr, lit<, Fits, w8}
use Rattle.std.specs.Simd.Lanes.{Each1, pick_l}
use Rattle.std.proofs.lemmas.Simd.{Each1-get_or}
use Rattle.std.proofs.lemmas.List.{get_or_append_left, get_or-append_right, get_or-map, get_or_past, length-map}
use Rattle.std.proofs.lemmas.Bool.{cases_lt}
use Rattle.std.specs.List.{range_with_len}
use Rattle.aes_lanes.specs.Laws.Sums.{gathered}
use Rattle.aes_lanes.specs.Planes.{IsPlane, bit, bits_at, byte_of, byte_at, lane_block, place}
use Rattle.aes_lanes.proofs.PlaneBits.{eight, eight_same, sixteen, range-agree, bits_of, byte_of-bits}

-- the places row after row, as `swizzle` takes them, of two blocks and of each lane
abbrev pub rows : List ℕ
rows =
    0 ∷ 4 ∷ 8 ∷ 12 ∷ 1 ∷ 5 ∷ 9 ∷ 13 ∷ 2 ∷ 6 ∷ 10 ∷ 14 ∷ 3 ∷ 7 ∷ 11 ∷ 15
    ∷ 16 ∷ 20 ∷ 24 ∷ 28 ∷ 17 ∷ 21 ∷ 25 ∷ 29 ∷ 18 ∷ 22 ∷ 26 ∷ 30 ∷ 19 ∷ 23 ∷ 27 ∷ 31 ∷ []

abbrev pub first_rows : List ℕ
first_rows = 0 ∷ 4 ∷ 8 ∷ 12 ∷ 1 ∷ 5 ∷ 9 ∷ 13 ∷ 2 ∷ 6 ∷ 10 ∷ 14 ∷ 3 ∷ 7 ∷ 11 ∷ 15 ∷ []

abbrev pub second_rows : List ℕ
second_rows = 16 ∷ 20 ∷ 24 ∷ 28 ∷ 17 ∷ 21 ∷ 25 ∷ 29 ∷ 18 ∷ 22 ∷ 26 ∷ 30 ∷ 19 ∷ 23 ∷ 27 ∷ 31 ∷ []

rows-first : (p : ℕ) → p < 16 → get_or rows p 0 ≡ place p
rows-first = sixteen (λ p. get_or rows p 0) place refl

rows-second : (p : ℕ) → p < 16 → get_or rows (16 + p) 0 ≡ 16 + place p
rows-second = sixteen (λ p. get_or rows (16 + p) 0) (λ p. 16 + place p) refl

place-twice : (j : ℕ) → j < 16 → place (place j) ≡ j
place-twice = sixteen (λ j. place (place j)) (λ j. j) refl

-- two blocks side by side, row after row
module _ (a b : List ℕ) (long_a : length a ≡ 16) (long_b : length b ≡ 16) where
  picked : (p : ℕ) → p < 32 → slice_index (pick_l 0 (a ++ b) rows) p ≡ slice_index (a ++ b) (get_or rows p 0)
  picked p lt =
      let within : p < length rows = omega arith in
      get_or-map (λ k. get_or (a ++ b) k 0) rows p 0 0 within

  pub rows-first_block : (p : ℕ) → p < 16 → slice_index (pick_l 0 (a ++ b) rows) p ≡ slice_index a (place p)
  rows-first_block p lt =
      let inside : place p < length a = omega arith in
      picked p (omega arith) ∙ ap (slice_index (a ++ b)) (rows-first p lt) ∙ get_or_append_left a b 0 (place p) inside

  pub rows-second_block : (p : ℕ) → p < 16 → slice_index (pick_l 0 (a ++ b) rows) (16 + p) ≡ slice_index b (place p)
  rows-second_block p lt =
      let place_is : 16 + place p - 16 ≡ place p = omega arith in
      picked (16 + p) (omega arith) ∙ ap (slice_index (a ++ b)) (rows-second p lt)
      ∙ get_or-append_right a b 16 (16 + place p) 0 long_a (omega arith) ∙ ap (slice_index b) place_is

  pub IsPlane-rows : ((k : ℕ) → slice_index a k < 256) → ((k : ℕ) → slice_index b k < 256) → IsPlane (pick_l 0 (a ++ b) rows)
  IsPlane-rows bytes_a bytes_b = record {
    long = length-map rows (λ k. get_or (a ++ b) k 0);
    bytes = λ p. elim (cases_lt p 16) [
      | inl first ↦ rw (rows-first_block p first) (bytes_a (place p))
      | inr rest ↦ elim (cases_lt p 32) [
        | inl second ↦
            let behind : 16 + (p - 16) ≡ p = omega arith in
            let byte : slice_index (pick_l 0 (a ++ b) rows) (16 + (p - 16)) < 256 = rw (rows-second_block (p - 16) (omega arith)) (bytes_b (place (p - 16))) in
            let P : ℕ → Type 0 = λ k. slice_index (pick_l 0 (a ++ b) rows) k < 256 in
            subst P behind byte
        | inr ge ↦
            let past : length (pick_l 0 (a ++ b) rows) ≤ p = omega (arith, length-map rows (λ k. get_or (a ++ b) k 0)) in
            rw (get_or_past (pick_l 0 (a ++ b) rows) p 0 past) (lit< tt)
      ]
    ];
  }

-- a vector whose byte p is of the bits i of eight others
pub bit-row : (p i : ℕ) (r x0 x1 x2 x3 x4 x5 x6 x7 : List ℕ)
    → bits_at p r ≡ bit p i x0 ∷ bit p i x1 ∷ bit p i x2 ∷ bit p i x3 ∷ bit p i x4 ∷ bit p i x5 ∷ bit p i x6 ∷ bit p i x7 ∷ []
    → (k : ℕ) → k < 8 → bit p k r ≡ bit p i (get_or (x0 ∷ x1 ∷ x2 ∷ x3 ∷ x4 ∷ x5 ∷ x6 ∷ x7 ∷ []) k [])
bit-row p i r x0 x1 x2 x3 x4 x5 x6 x7 e =
    let at : ℕ → List ℕ → ℕ = λ k l. slice_index l k in
    eight (λ k. bit p k r ≡ bit p i (get_or (x0 ∷ x1 ∷ x2 ∷ x3 ∷ x4 ∷ x5 ∷ x6 ∷ x7 ∷ []) k []))
    (ap (at 0) e) (ap (at 1) e) (ap (at 2) e) (ap (at 3) e) (ap (at 4) e) (ap (at 5) e) (ap (at 6) e) (ap (at 7) e)

-- the three steps of one row: within pairs, within fours, within eights
pub three_steps : (l4 l2 l1 : List ℕ → List ℕ → List ℕ) (p : ℕ) (r b b' a0 a1 a2 a3 x0 x1 x2 x3 x4 x5 x6 x7 : List ℕ)
    → bits_at p r ≡ l4 (bits_at p b) (bits_at p b')
    → bits_at p b ≡ l2 (bits_at p a0) (bits_at p a1) → bits_at p b' ≡ l2 (bits_at p a2) (bits_at p a3)
    → bits_at p a0 ≡ l1 (bits_at p x0) (bits_at p x1) → bits_at p a1 ≡ l1 (bits_at p x2) (bits_at p x3)
    → bits_at p a2 ≡ l1 (bits_at p x4) (bits_at p x5) → bits_at p a3 ≡ l1 (bits_at p x6) (bits_at p x7)
    → bits_at p r ≡ l4 (l2 (l1 (bits_at p x0) (bits_at p x1)) (l1 (bits_at p x2) (bits_at p x3)))
    (l2 (l1 (bits_at p x4) (bits_at p x5)) (l1 (bits_at p x6) (bits_at p x7)))
three_steps l4 l2 l1 p r b b' a0 a1 a2 a3 x0 x1 x2 x3 x4 x5 x6 x7 er eb eb' e0 e1 e2 e3 =
    er ∙ ap₂ l4 (eb ∙ ap₂ l2 e0 e1) (eb' ∙ ap₂ l2 e2 e3)

pub in_first_lane : (x : List ℕ) (f : ℕ → ℕ) → ((p : ℕ) → p < 16 → slice_index x p ≡ f p) → (p : ℕ) → p < 16 → slice_index x (16 * 0 + p) ≡ f p
in_first_lane x f each p lt =
    let same : 16 * 0 + p ≡ p = omega arith in
    ap (slice_index x) same ∙ each p lt

-- a lane's block of planes whose bits k are a vector's
pub lane_block-column : (r0 r1 r2 r3 r4 r5 r6 r7 x block : List ℕ) (l k : ℕ) → l < 2
    → ((i p : ℕ) → i < 8 → p < 32 → bit p k (get_or (r0 ∷ r1 ∷ r2 ∷ r3 ∷ r4 ∷ r5 ∷ r6 ∷ r7 ∷ []) i []) ≡ bit p i x)
    → IsPlane x → ((p : ℕ) → p < 16 → slice_index x (16 * l + p) ≡ slice_index block (place p)) → length block ≡ 16
    → lane_block (r0 ∷ r1 ∷ r2 ∷ r3 ∷ r4 ∷ r5 ∷ r6 ∷ r7 ∷ []) l k ≡ block
unfolding lane_block bits_of
lane_block-column r0 r1 r2 r3 r4 r5 r6 r7 x block l k two column plane bytes long =
    range-agree _ (slice_index block) 0 16 (λ j lt.
    let p : ℕ = 16 * l + place j in
    let within : p < 32 = omega arith in
    ap byte_of (eight_same (column 0 p (lit< tt) within) (column 1 p (lit< tt) within) (column 2 p (lit< tt) within) (column 3 p (lit< tt) within)
    (column 4 p (lit< tt) within) (column 5 p (lit< tt) within) (column 6 p (lit< tt) within) (column 7 p (lit< tt) within))
    ∙ byte_of-bits (slice_index x p) (plane.bytes p) ∙ bytes (place j) (omega arith) ∙ ap (slice_index block) (place-twice j lt))
    ∙ sym (gathered block 16 long)

-- a vector whose bits are those of blocks 2 k and 2 k + 1, lane by lane
pub lane_block-bytes : (s0 s1 s2 s3 s4 s5 s6 s7 t : List ℕ) (l k : ℕ) → l < 2
    → ((i p : ℕ) → i < 8 → p < 32 → bit p i t ≡ bit p k (get_or (s0 ∷ s1 ∷ s2 ∷ s3 ∷ s4 ∷ s5 ∷ s6 ∷ s7 ∷ []) i []))
    → IsPlane t
    → map (λ j. slice_index t (16 * l + place j)) (range_with_len 0 16) ≡ lane_block (s0 ∷ s1 ∷ s2 ∷ s3 ∷ s4 ∷ s5 ∷ s6 ∷ s7 ∷ []) l k
unfolding lane_block bits_of
lane_block-bytes s0 s1 s2 s3 s4 s5 s6 s7 t l k two row plane =
    range-agree (λ j. slice_index t (16 * l + place j)) (λ j. byte_at (s0 ∷ s1 ∷ s2 ∷ s3 ∷ s4 ∷ s5 ∷ s6 ∷ s7 ∷ []) k (16 * l + place j)) 0 16 (λ j lt.
    let p : ℕ = 16 * l + place j in
    let within : p < 32 = omega arith in
    sym (byte_of-bits (slice_index t p) (plane.bytes p))
    ∙ ap byte_of (eight_same (row 0 p (lit< tt) within) (row 1 p (lit< tt) within) (row 2 p (lit< tt) within) (row 3 p (lit< tt) within)
    (row 4 p (lit< tt) within) (row 5 p (lit< tt) within) (row 6 p (lit< tt) within) (row 7 p (lit< tt) within)))

-- the lanes of a vector of bytes
pub lane_bytes : (v : List ℕ) → Each1 (Fits w8) v → (p : ℕ) → slice_index v p < 256
lane_bytes v fits p = elim (cases_lt p (length v)) [
  | inl lt ↦ (Each1-get_or (Fits w8) v p 0 lt fits).fits
  | inr ge ↦ rw (get_or_past v p 0 ge) (lit< tt)
]
