-- The circuits behind the S-box and its inverse as lists of gates, on bits and on planes of bits.
use Rattle.std.proofs.Common.{◌≡◌, ℕ, zero, suc, ◌/◌, ◌%◌, ◌^◌, ◌<◌, List, [], ◌∷◌, map, get_or, replicate, bit_and, bit_xor, refl, sym, ap, ap₂, ◌∙◌, lit<}
use Rattle.std.specs.Simd.Lanes.{zip2}
use Rattle.std.proofs.lemmas.List.{get_or-replicate}
use Rattle.std.proofs.Math.Nat.{zero-div}
use Rattle.aes_lanes.specs.Field.{affine_map, inverse_affine_map, inverse_sbox, sbox}
use Rattle.aes_lanes.specs.Laws.Field.{at_each, inverses, inverse_by_table, sbox_by_table, sbox-by_table, inverse_affine_map-lt, inverse_sbox_by_table, inverse_sbox-by_table}
use Rattle.aes_lanes.specs.Planes.{IsPlane, bit, bit_of, byte_of, byte_at}
use Rattle.aes_lanes.proofs.PlaneBits.{IsBitwise, IsBitwise-xor, IsBitwise-and, IsPlane-zip2, IsPlane-splat, bit-zip2, bit-lt, eight, eight_of, eight_same, bits_of, on_bits}

-- a gate of two earlier values, each named by how many values stand between
pub data Gate : Type 0 where
  sum : ℕ → ℕ → Gate
  both : ℕ → ℕ → Gate

-- the values of some gates, the last one first, with those given last
unfoldable pub values : {A : Type 0} → (A → A → A) → (A → A → A) → A → List Gate → List A → List A
values xor and none [] given = given
values xor and none (sum i j ∷ gates) given = values xor and none gates (xor (get_or given i none) (get_or given j none) ∷ given)
values xor and none (both i j ∷ gates) given = values xor and none gates (and (get_or given i none) (get_or given j none) ∷ given)

-- the 115 gates of Boyar and Peralta, without the complement of four values, in the order of the code
unfoldable pub sbox_gates : List Gate
sbox_gates =
    sum 3 5 ∷ sum 2 3 ∷ sum 0 9 ∷ sum 3 8 ∷ sum 4 10 ∷ sum 2 8 ∷ sum 1 5 ∷ sum 4 13 ∷ sum 0 4 ∷ sum 13 2 ∷
    sum 0 11 ∷ sum 11 14 ∷ sum 2 17 ∷ both 6 0 ∷ sum 1 21 ∷ sum 4 3 ∷ both 4 0 ∷ both 11 24 ∷ both 9 3 ∷
    sum 6 17 ∷ sum 18 4 ∷ sum 2 7 ∷ sum 2 6 ∷ both 18 2 ∷ both 16 21 ∷ both 24 2 ∷ sum 8 12 ∷ sum 1 10 ∷
    sum 25 28 ∷ sum 29 8 ∷ sum 37 14 ∷ both 27 11 ∷ sum 0 15 ∷ sum 8 9 ∷ both 5 3 ∷ sum 15 31 ∷ sum 2 8 ∷
    sum 15 9 ∷ sum 3 14 ∷ sum 12 6 ∷ sum 2 29 ∷ sum 36 20 ∷ sum 2 6 ∷ sum 4 10 ∷ sum 7 2 ∷ sum 4 2 ∷
    sum 2 16 ∷ both 6 2 ∷ sum 1 0 ∷ both 3 0 ∷ sum 0 7 ∷ sum 6 4 ∷ sum 9 4 ∷ both 0 1 ∷ sum 0 7 ∷ sum 6 0 ∷
    both 9 0 ∷ sum 8 0 ∷ both 7 0 ∷ sum 8 4 ∷ sum 14 1 ∷ sum 16 6 ∷ sum 5 0 ∷ both 8 70 ∷ sum 3 1 ∷
    sum 14 4 ∷ both 6 50 ∷ sum 12 4 ∷ sum 8 3 ∷ both 18 38 ∷ both 2 57 ∷ both 2 48 ∷ both 6 51 ∷
    both 10 58 ∷ both 6 67 ∷ both 10 55 ∷ both 13 67 ∷ both 22 71 ∷ both 18 66 ∷ both 28 50 ∷ both 14 75 ∷
    both 20 78 ∷ sum 10 6 ∷ both 22 75 ∷ both 15 83 ∷ both 20 81 ∷ sum 9 8 ∷ sum 16 14 ∷ sum 21 16 ∷
    sum 14 12 ∷ sum 11 5 ∷ sum 21 7 ∷ sum 10 1 ∷ sum 29 23 ∷ sum 30 13 ∷ sum 12 2 ∷ sum 15 4 ∷ sum 2 9 ∷
    sum 25 9 ∷ sum 19 1 ∷ sum 18 1 ∷ sum 11 8 ∷ sum 11 4 ∷ sum 18 17 ∷ sum 30 2 ∷ sum 13 2 ∷ sum 7 4 ∷
    sum 7 11 ∷ sum 7 0 ∷ sum 22 1 ∷ sum 13 14 ∷ sum 23 6 ∷ sum 11 0 ∷ sum 19 8 ∷ sum 10 5 ∷ []

-- the linear part of the inverse affine map
unfoldable pub linear_gates : List Gate
linear_gates =
    sum 5 2 ∷ sum 0 1 ∷ sum 6 3 ∷ sum 0 10 ∷ sum 7 4 ∷ sum 0 11 ∷ sum 8 13 ∷ sum 0 12 ∷ sum 9 14 ∷ sum 0 13 ∷
    sum 10 15 ∷ sum 0 14 ∷ sum 19 16 ∷ sum 0 15 ∷ sum 20 17 ∷ sum 0 16 ∷ []

-- the constants 0x63 and 0x05 of the two affine maps
unfoldable pub gates_63 : List Gate
gates_63 =
    sum 7 8 ∷ sum 7 9 ∷ sum 4 10 ∷ sum 4 11 ∷ []

unfoldable pub gates_05 : List Gate
gates_05 =
    sum 7 8 ∷ sum 6 9 ∷ []

-- some values of gates, those in these places
abbrev pub chosen : {A : Type 0} → A → List ℕ → List A → List A
chosen none places all = map (λ i. get_or all i none) places

unfoldable pub zeros : List ℕ
zeros = replicate 32 0

unfoldable pub ones : List ℕ
ones = replicate 32 255

-- what gates are given: eight values, the highest first, and one of ones
abbrev pub given_bits : List ℕ → List ℕ
given_bits bits = get_or bits 7 0 ∷ get_or bits 6 0 ∷ get_or bits 5 0 ∷ get_or bits 4 0 ∷ get_or bits 3 0 ∷ get_or bits 2 0 ∷ get_or bits 1 0 ∷ get_or bits 0 0 ∷ 1 ∷ []

-- the byte that gates make of a byte
unfoldable pub by_gates : List Gate → List ℕ → ℕ → ℕ
by_gates gates places x = byte_of (chosen 0 places (values bit_xor bit_and 0 gates (given_bits (bits_of x))))

-- what they are on all 256 bytes
pub sbox-by_gates : (x : ℕ) → x < 256 → by_gates sbox_gates (9 ∷ 4 ∷ 5 ∷ 1 ∷ 3 ∷ 0 ∷ 2 ∷ 8 ∷ []) x ≡ bit_xor (sbox x) 0x63
unfolding by_gates byte_of bits_of values sbox_gates inverses inverse_by_table affine_map sbox_by_table
sbox-by_gates x h =
    at_each (by_gates sbox_gates (9 ∷ 4 ∷ 5 ∷ 1 ∷ 3 ∷ 0 ∷ 2 ∷ 8 ∷ [])) (λ x. bit_xor (sbox_by_table x) 0x63) refl x h
    ∙ ap (λ s. bit_xor s 0x63) (sym (sbox-by_table x h))

pub linear-by_gates : (x : ℕ) → x < 256 → by_gates linear_gates (14 ∷ 12 ∷ 10 ∷ 8 ∷ 6 ∷ 4 ∷ 2 ∷ 0 ∷ []) x ≡ bit_xor (inverse_affine_map x) 0x05
unfolding by_gates byte_of bits_of values linear_gates inverse_affine_map
linear-by_gates = at_each (by_gates linear_gates (14 ∷ 12 ∷ 10 ∷ 8 ∷ 6 ∷ 4 ∷ 2 ∷ 0 ∷ [])) (λ x. bit_xor (inverse_affine_map x) 0x05) refl

pub sum63-by_gates : (x : ℕ) → x < 256 → by_gates gates_63 (3 ∷ 2 ∷ 9 ∷ 8 ∷ 7 ∷ 1 ∷ 0 ∷ 4 ∷ []) x ≡ bit_xor x 0x63
unfolding by_gates byte_of bits_of values gates_63
sum63-by_gates = at_each (by_gates gates_63 (3 ∷ 2 ∷ 9 ∷ 8 ∷ 7 ∷ 1 ∷ 0 ∷ 4 ∷ [])) (λ x. bit_xor x 0x63) refl

pub sum05-by_gates : (x : ℕ) → x < 256 → by_gates gates_05 (1 ∷ 8 ∷ 0 ∷ 6 ∷ 5 ∷ 4 ∷ 3 ∷ 2 ∷ []) x ≡ bit_xor x 0x05
unfolding by_gates byte_of bits_of values gates_05
sum05-by_gates = at_each (by_gates gates_05 (1 ∷ 8 ∷ 0 ∷ 6 ∷ 5 ∷ 4 ∷ 3 ∷ 2 ∷ [])) (λ x. bit_xor x 0x05) refl

-- the inverse S-box, by the S-box between linear parts
pub unsbox-by_sbox : (x : ℕ) → x < 256 → bit_xor (inverse_affine_map (bit_xor (sbox (inverse_affine_map x)) 0x63)) 0x05 ≡ inverse_sbox x
unfolding inverses inverse_by_table affine_map sbox_by_table inverse_affine_map inverse_sbox_by_table
unsbox-by_sbox x h =
    ap (λ s. bit_xor (inverse_affine_map (bit_xor s 0x63)) 0x05) (sbox-by_table (inverse_affine_map x) (inverse_affine_map-lt x h))
    ∙ at_each (λ x. bit_xor (inverse_affine_map (bit_xor (sbox_by_table (inverse_affine_map x)) 0x63)) 0x05) inverse_sbox_by_table refl x h
    ∙ sym (inverse_sbox-by_table x h)

-- the bits of numbers, through gates
bit_of-picked : (k : ℕ) (given : List ℕ) (i : ℕ) → bit_of k (get_or given i 0) ≡ get_or (map (bit_of k) given) i 0
bit_of-picked k [] i = ap (λ n. n % 2) (zero-div (2 ^ k))
bit_of-picked k (x ∷ given) zero = refl
bit_of-picked k (x ∷ given) (suc i) = bit_of-picked k given i

values-numbers : (k : ℕ) (gates : List Gate) (given : List ℕ)
    → map (bit_of k) (values bit_xor bit_and 0 gates given) ≡ values bit_xor bit_and 0 gates (map (bit_of k) given)
unfolding values
values-numbers k [] given = refl
values-numbers k (sum i j ∷ gates) given =
    values-numbers k gates (bit_xor (get_or given i 0) (get_or given j 0) ∷ given)
    ∙ ap (λ b. values bit_xor bit_and 0 gates (b ∷ map (bit_of k) given)) (IsBitwise-xor.at k (get_or given i 0) (get_or given j 0) ∙ ap₂ bit_xor (bit_of-picked k given i) (bit_of-picked k given j))
values-numbers k (both i j ∷ gates) given =
    values-numbers k gates (bit_and (get_or given i 0) (get_or given j 0) ∷ given)
    ∙ ap (λ b. values bit_xor bit_and 0 gates (b ∷ map (bit_of k) given)) (IsBitwise-and.at k (get_or given i 0) (get_or given j 0) ∙ ap₂ bit_and (bit_of-picked k given i) (bit_of-picked k given j))

-- gates that are a function of each byte, on the bits k of eight numbers, beside a number of which that bit is 1
pub byte_of-gates : (gates : List Gate) (i0 i1 i2 i3 i4 i5 i6 i7 : ℕ) (f : ℕ → ℕ)
    → ((x : ℕ) → x < 256 → by_gates gates (i0 ∷ i1 ∷ i2 ∷ i3 ∷ i4 ∷ i5 ∷ i6 ∷ i7 ∷ []) x ≡ f x)
    → (x0 x1 x2 x3 x4 x5 x6 x7 u k : ℕ) → bit_of k u ≡ 1
    → byte_of (map (bit_of k) (chosen 0 (i0 ∷ i1 ∷ i2 ∷ i3 ∷ i4 ∷ i5 ∷ i6 ∷ i7 ∷ [])
    (values bit_xor bit_and 0 gates (x7 ∷ x6 ∷ x5 ∷ x4 ∷ x3 ∷ x2 ∷ x1 ∷ x0 ∷ u ∷ []))))
    ≡ f (byte_of (map (bit_of k) (x0 ∷ x1 ∷ x2 ∷ x3 ∷ x4 ∷ x5 ∷ x6 ∷ x7 ∷ [])))
unfolding by_gates
byte_of-gates gates i0 i1 i2 i3 i4 i5 i6 i7 f table x0 x1 x2 x3 x4 x5 x6 x7 u k one =
    let given : List ℕ = x7 ∷ x6 ∷ x5 ∷ x4 ∷ x3 ∷ x2 ∷ x1 ∷ x0 ∷ u ∷ [] in
    let all : List ℕ = values bit_xor bit_and 0 gates given in
    let places : List ℕ = i0 ∷ i1 ∷ i2 ∷ i3 ∷ i4 ∷ i5 ∷ i6 ∷ i7 ∷ [] in
    let picked : (i : ℕ) → bit_of k (get_or all i 0) ≡ get_or (map (bit_of k) all) i 0 = bit_of-picked k all in
    ap byte_of (eight_same (picked i0) (picked i1) (picked i2) (picked i3) (picked i4) (picked i5) (picked i6) (picked i7)
    ∙ ap (chosen 0 places) (values-numbers k gates given
    ∙ ap (λ b. values bit_xor bit_and 0 gates (bit_of k x7 ∷ bit_of k x6 ∷ bit_of k x5 ∷ bit_of k x4 ∷ bit_of k x3 ∷ bit_of k x2 ∷ bit_of k x1 ∷ bit_of k x0 ∷ b ∷ [])) one))
    ∙ on_bits (λ l. byte_of (chosen 0 places (values bit_xor bit_and 0 gates (given_bits l)))) f table
    (bit_of k x0) (bit_of k x1) (bit_of k x2) (bit_of k x3) (bit_of k x4) (bit_of k x5) (bit_of k x6) (bit_of k x7)
    (bit-lt _) (bit-lt _) (bit-lt _) (bit-lt _) (bit-lt _) (bit-lt _) (bit-lt _) (bit-lt _)

-- a plane with this bit in a place
pub record HasBit (p k : ℕ) (v : List ℕ) (b : ℕ) : Type 0 where
  pub plane : IsPlane v
  pub same : bit p k v ≡ b

pub record HaveBits (p k : ℕ) (planes : List (List ℕ)) (bits : List ℕ) : Type 0 where
  pub each : (i : ℕ) → HasBit p k (get_or planes i zeros) (get_or bits i 0)

pub HaveBits-more : (p k : ℕ) (plane : List ℕ) (b : ℕ) (planes : List (List ℕ)) (bits : List ℕ)
    → HasBit p k plane b → HaveBits p k planes bits → HaveBits p k (plane ∷ planes) (b ∷ bits)
HaveBits-more p k plane b planes bits first rest = record { each = more } where
  more : (i : ℕ) → HasBit p k (get_or (plane ∷ planes) i zeros) (get_or (b ∷ bits) i 0)
  more zero = first
  more (suc i) = rest.each i

HasBit-zip2 : (f : ℕ → ℕ → ℕ) → IsBitwise f → (p k : ℕ) (u v : List ℕ) (a b : ℕ) → p < 32 → HasBit p k u a → HasBit p k v b → HasBit p k (zip2 f u v) (f a b)
HasBit-zip2 f bitwise p k u v a b lt first second = record {
  plane = IsPlane-zip2 f bitwise.byte u v first.plane second.plane;
  same = bit-zip2 f bitwise p k u v lt first.plane second.plane ∙ ap₂ f first.same second.same;
}

-- gates keep planes and bits together
pub values-bits : (p k : ℕ) → p < 32 → (gates : List Gate) (planes : List (List ℕ)) (bits : List ℕ) → HaveBits p k planes bits
    → HaveBits p k (values (zip2 bit_xor) (zip2 bit_and) zeros gates planes) (values bit_xor bit_and 0 gates bits)
unfolding values
values-bits p k lt [] planes bits have = have
values-bits p k lt (sum i j ∷ gates) planes bits have =
    values-bits p k lt gates _ _ (HaveBits-more p k _ _ planes bits (HasBit-zip2 bit_xor IsBitwise-xor p k _ _ _ _ lt (have.each i) (have.each j)) have)
values-bits p k lt (both i j ∷ gates) planes bits have =
    values-bits p k lt gates _ _ (HaveBits-more p k _ _ planes bits (HasBit-zip2 bit_and IsBitwise-and p k _ _ _ _ lt (have.each i) (have.each j)) have)

HasBit-splat : (p k n b : ℕ) → n < 256 → p < 32 → n / 2 ^ k % 2 ≡ b → HasBit p k (replicate 32 n) b
HasBit-splat p k n b byte lt is = record {
  plane = IsPlane-splat n byte;
  same = ap (λ m. m / 2 ^ k % 2) (get_or-replicate 32 p n 0 lt) ∙ is;
}

pub HasBit-zeros : (p k : ℕ) → p < 32 → HasBit p k zeros 0
unfolding zeros
HasBit-zeros p k lt = HasBit-splat p k 0 0 (lit< tt) lt (ap (λ m. m % 2) (zero-div (2 ^ k)))

-- what the circuit is given
given-bits : (p k : ℕ) (p0 p1 p2 p3 p4 p5 p6 p7 : List ℕ) → p < 32 → k < 8
    → IsPlane p0 → IsPlane p1 → IsPlane p2 → IsPlane p3 → IsPlane p4 → IsPlane p5 → IsPlane p6 → IsPlane p7
    → HaveBits p k (p7 ∷ p6 ∷ p5 ∷ p4 ∷ p3 ∷ p2 ∷ p1 ∷ p0 ∷ ones ∷ [])
    (bit p k p7 ∷ bit p k p6 ∷ bit p k p5 ∷ bit p k p4 ∷ bit p k p3 ∷ bit p k p2 ∷ bit p k p1 ∷ bit p k p0 ∷ 1 ∷ [])
unfolding zeros ones
given-bits p k p0 p1 p2 p3 p4 p5 p6 p7 lt lk a b c d e f g h =
    HaveBits-more p k p7 _ _ _ (itself p7 h)
    (HaveBits-more p k p6 _ _ _ (itself p6 g)
    (HaveBits-more p k p5 _ _ _ (itself p5 f)
    (HaveBits-more p k p4 _ _ _ (itself p4 e)
    (HaveBits-more p k p3 _ _ _ (itself p3 d)
    (HaveBits-more p k p2 _ _ _ (itself p2 c)
    (HaveBits-more p k p1 _ _ _ (itself p1 b)
    (HaveBits-more p k p0 _ _ _ (itself p0 a)
    (HaveBits-more p k ones _ _ _ (HasBit-splat p k 255 1 (lit< tt) lt (eight (λ n. 255 / 2 ^ n % 2 ≡ 1) refl refl refl refl refl refl refl refl k lk))
    (record { each = λ i. HasBit-zeros p k lt }))))))))) where
      itself : (q : List ℕ) → IsPlane q → HasBit p k q (bit p k q)
      itself q plane = record { plane = plane; same = refl }

-- a function of each byte of eight planes, where gates are that function
module _ (gates : List Gate) (i0 i1 i2 i3 i4 i5 i6 i7 : ℕ) (f : ℕ → ℕ)
    (table : (x : ℕ) → x < 256 → by_gates gates (i0 ∷ i1 ∷ i2 ∷ i3 ∷ i4 ∷ i5 ∷ i6 ∷ i7 ∷ []) x ≡ f x)
    (p0 p1 p2 p3 p4 p5 p6 p7 : List ℕ)
    (a : IsPlane p0) (b : IsPlane p1) (c : IsPlane p2) (d : IsPlane p3) (e : IsPlane p4) (f0 : IsPlane p5) (g : IsPlane p6) (h : IsPlane p7) where
  abbrev all : List (List ℕ)
  all = values (zip2 bit_xor) (zip2 bit_and) zeros gates (p7 ∷ p6 ∷ p5 ∷ p4 ∷ p3 ∷ p2 ∷ p1 ∷ p0 ∷ ones ∷ [])

  abbrev old : List (List ℕ)
  old = eight_of p0 p1 p2 p3 p4 p5 p6 p7

  abbrev new : List (List ℕ)
  new = chosen zeros (i0 ∷ i1 ∷ i2 ∷ i3 ∷ i4 ∷ i5 ∷ i6 ∷ i7 ∷ []) all

  value : (p k : ℕ) → p < 32 → k < 8 → (i : ℕ)
      → HasBit p k (get_or all i zeros) (get_or (values bit_xor bit_and 0 gates (given_bits (map (bit p k) old))) i 0)
  value p k lt lk = (values-bits p k lt gates _ _ (given-bits p k p0 p1 p2 p3 p4 p5 p6 p7 lt lk a b c d e f0 g h)).each

  pub IsPlane-gates : (i : ℕ) → IsPlane (get_or all i zeros)
  IsPlane-gates i = (value 0 0 (lit< tt) (lit< tt) i).plane

  pub byte_at-gates : (k p : ℕ) → k < 8 → p < 32 → byte_at new k p ≡ f (byte_at old k p)
  unfolding by_gates
  byte_at-gates k p lk lt =
      let v = value p k lt lk in
      ap byte_of (eight_same (v i0).same (v i1).same (v i2).same (v i3).same (v i4).same (v i5).same (v i6).same (v i7).same)
      ∙ on_bits (λ l. byte_of (chosen 0 (i0 ∷ i1 ∷ i2 ∷ i3 ∷ i4 ∷ i5 ∷ i6 ∷ i7 ∷ []) (values bit_xor bit_and 0 gates (given_bits l)))) f table
      (bit p k p0) (bit p k p1) (bit p k p2) (bit p k p3) (bit p k p4) (bit p k p5) (bit p k p6) (bit p k p7)
      (bit-lt _) (bit-lt _) (bit-lt _) (bit-lt _) (bit-lt _) (bit-lt _) (bit-lt _) (bit-lt _)
