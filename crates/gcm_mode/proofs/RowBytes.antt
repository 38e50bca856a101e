-- The bytes of the rows of a table.
use Rattle.std.proofs.Common.{◌≡◌, ◌≢◌, ℕ, zero, suc, ◌+◌, ◌-◌, ◌*◌, ◌/◌, ◌%◌, ◌^◌, ◌<◌, ◌⊎◌, inl, inr, List, [], ◌∷◌, length, replicate, get_or, set, bit_and, bit_xor, refl, sym, ap, ap₂, ◌∙◌, arith, get_or-set_same, get_or-set_other}
use lib.Bits.{and_le_l, xor_mod, xor_shifted, xor_shr}
use Rattle.std.specs.Simd.Lanes.{zip2}
use Rattle.std.proofs.lemmas.Bool.{cases_eq}
use Rattle.std.proofs.lemmas.Nat.{and_mask}
use Rattle.std.proofs.lemmas.Simd.{get_or-replicate}
use Rattle.gcm_mode.specs.Field.{product, times_u}
use Rattle.gcm_mode.specs.Pairs.{AreNibbles, IsPair, byte_of, bytes_with, lane, nibble_sum}
use Rattle.gcm_mode.specs.Tables.{AreRows, byte_in}
use Rattle.gcm_mode.specs.declared.vectors.Nibbles.{Nibbles}
use Rattle.gcm_mode.specs.declared.vectors.Row.{Row}
use Rattle.gcm_mode.proofs.Algebra.{at_each}
use Rattle.gcm_mode.proofs.Lanes.{AreNibbles-lanes, IsPair-both, IsPair-lanes, get_or-both, lane-bytes, lane-same, length-splat}
use Rattle.gcm_mode.proofs.Linear.{product-xor, zero-times}
use Rattle.gcm_mode.proofs.NibbleSums.{first_bit, halved, product-nibble}
use Rattle.gcm_mode.proofs.Numbers.{byte_of-number}
use Rattle.gcm_mode.proofs.FieldSums.{shifted-xor}

pub AreNibbles-splat : (n : ℕ) → n < 16 → AreNibbles (replicate 32 n)
AreNibbles-splat n small = AreNibbles-lanes (replicate 32 n) (length-splat n) (λ k lt. rw (get_or-replicate {A = ℕ} 32 k n 0 lt) small)

-- a byte of a lane
pub byte_of-lane : (b l : ℕ) (v : List ℕ) → b < 16 → IsPair v → byte_of b (lane l v) ≡ get_or v (16 * l + b) 0
byte_of-lane b l v lt pair =
    ap (byte_of b) (lane-bytes l v) ∙ byte_of-number (λ p. get_or v (16 * l + p) 0) b lt (λ p within. pair.bytes (16 * l + p))

pub byte_of-xor : (b x y : ℕ) → byte_of b (bit_xor x y) ≡ bit_xor (byte_of b x) (byte_of b y)
unfolding byte_of
byte_of-xor b x y = ap (λ (n : ℕ). n % 256) (xor_shr x y (8 * (15 - b))) ∙ xor_mod (x / 2 ^ (8 * (15 - b))) (y / 2 ^ (8 * (15 - b))) 8

byte_of-lt : (b n : ℕ) → byte_of b n < 256
unfolding byte_of
byte_of-lt b n = omega arith

byte_of-zero : (b : ℕ) → byte_of b 0 ≡ 0
unfolding byte_of
byte_of-zero b = ap (λ (n : ℕ). n % 256) (none (8 * (15 - b)))
  where
    none : (k : ℕ) → 0 / 2 ^ k ≡ 0
    none k = omega arith

-- a byte under a mask that is all of a nibble's bit
pub masked : (i b x mask : ℕ) → i < 2 → mask ≡ 255 * i → bit_and (byte_of b x) mask ≡ byte_of b (i * x)
masked zero b x mask two is =
    let none : mask ≡ 2 ^ 0 - 1 = omega arith in
    ap (bit_and (byte_of b x)) none ∙ and_mask (byte_of b x) 0 ∙ last (byte_of b x) ∙ sym (ap (byte_of b) (zero-times x) ∙ byte_of-zero b)
  where
    last : (n : ℕ) → n % 2 ^ 0 ≡ 0
    last n = omega arith
masked (suc zero) b x mask two is =
    let all : mask ≡ 2 ^ 8 - 1 = omega arith in
    let byte = byte_of-lt b x in
    let one : 1 * x ≡ x = omega arith in
    let same : byte_of b x % 2 ^ 8 ≡ byte_of b x = omega arith in
    ap (bit_and (byte_of b x)) all ∙ and_mask (byte_of b x) 8 ∙ same ∙ sym (ap (byte_of b) one)
masked (suc (suc i)) b x mask two is = absurd (omega arith)

-- the masks
abbrev eights : List ℕ
eights =
    0 ∷ 0 ∷ 0 ∷ 0 ∷ 0 ∷ 0 ∷ 0 ∷ 0 ∷ 255 ∷ 255 ∷ 255 ∷ 255 ∷ 255 ∷ 255 ∷ 255 ∷ 255
    ∷ 0 ∷ 0 ∷ 0 ∷ 0 ∷ 0 ∷ 0 ∷ 0 ∷ 0 ∷ 255 ∷ 255 ∷ 255 ∷ 255 ∷ 255 ∷ 255 ∷ 255 ∷ 255 ∷ []

abbrev fours : List ℕ
fours =
    0 ∷ 0 ∷ 0 ∷ 0 ∷ 255 ∷ 255 ∷ 255 ∷ 255 ∷ 0 ∷ 0 ∷ 0 ∷ 0 ∷ 255 ∷ 255 ∷ 255 ∷ 255
    ∷ 0 ∷ 0 ∷ 0 ∷ 0 ∷ 255 ∷ 255 ∷ 255 ∷ 255 ∷ 0 ∷ 0 ∷ 0 ∷ 0 ∷ 255 ∷ 255 ∷ 255 ∷ 255 ∷ []

abbrev twos : List ℕ
twos =
    0 ∷ 0 ∷ 255 ∷ 255 ∷ 0 ∷ 0 ∷ 255 ∷ 255 ∷ 0 ∷ 0 ∷ 255 ∷ 255 ∷ 0 ∷ 0 ∷ 255 ∷ 255
    ∷ 0 ∷ 0 ∷ 255 ∷ 255 ∷ 0 ∷ 0 ∷ 255 ∷ 255 ∷ 0 ∷ 0 ∷ 255 ∷ 255 ∷ 0 ∷ 0 ∷ 255 ∷ 255 ∷ []

abbrev ones : List ℕ
ones =
    0 ∷ 255 ∷ 0 ∷ 255 ∷ 0 ∷ 255 ∷ 0 ∷ 255 ∷ 0 ∷ 255 ∷ 0 ∷ 255 ∷ 0 ∷ 255 ∷ 0 ∷ 255
    ∷ 0 ∷ 255 ∷ 0 ∷ 255 ∷ 0 ∷ 255 ∷ 0 ∷ 255 ∷ 0 ∷ 255 ∷ 0 ∷ 255 ∷ 0 ∷ 255 ∷ 0 ∷ 255 ∷ []

eight_at : (k : ℕ) → k < 32 → get_or eights k 0 ≡ 255 * (k / 8 % 2)
eight_at = at_each 32 (λ k. get_or eights k 0) (λ k. 255 * (k / 8 % 2)) refl

four_at : (k : ℕ) → k < 32 → get_or fours k 0 ≡ 255 * (k / 4 % 2)
four_at = at_each 32 (λ k. get_or fours k 0) (λ k. 255 * (k / 4 % 2)) refl

two_at : (k : ℕ) → k < 32 → get_or twos k 0 ≡ 255 * (k / 2 % 2)
two_at = at_each 32 (λ k. get_or twos k 0) (λ k. 255 * (k / 2 % 2)) refl

one_at : (k : ℕ) → k < 32 → get_or ones k 0 ≡ 255 * (k % 2)
one_at = at_each 32 (λ k. get_or ones k 0) (λ k. 255 * (k % 2)) refl

pub IsPair-eights : IsPair eights
IsPair-eights = IsPair-lanes eights refl (λ k lt. let e = eight_at k lt in omega (arith, e))

pub IsPair-fours : IsPair fours
IsPair-fours = IsPair-lanes fours refl (λ k lt. let e = four_at k lt in omega (arith, e))

pub IsPair-twos : IsPair twos
IsPair-twos = IsPair-lanes twos refl (λ k lt. let e = two_at k lt in omega (arith, e))

pub IsPair-ones : IsPair ones
IsPair-ones = IsPair-lanes ones refl (λ k lt. let e = one_at k lt in omega (arith, e))

pub IsPair-masked : (u mask : List ℕ) → IsPair u → IsPair mask → IsPair (zip2 bit_and u mask)
IsPair-masked u mask a b = IsPair-both bit_and u mask (λ x y hx hy. let below = and_le_l x y in omega (arith, below, hx)) a b

-- byte b of what a nibble makes of the products with its bits
pub row-byte : (b l n : ℕ) (p q r s : List ℕ) (eight four two one : ℕ) → l < 2 → n < 16
    → get_or p (16 * l + n) 0 ≡ bit_and (byte_of b eight) (get_or eights (16 * l + n) 0)
    → get_or q (16 * l + n) 0 ≡ bit_and (byte_of b four) (get_or fours (16 * l + n) 0)
    → get_or r (16 * l + n) 0 ≡ bit_and (byte_of b two) (get_or twos (16 * l + n) 0)
    → get_or s (16 * l + n) 0 ≡ bit_and (byte_of b one) (get_or ones (16 * l + n) 0)
    → bit_xor (bit_xor (bit_xor (get_or p (16 * l + n) 0) (get_or q (16 * l + n) 0)) (get_or r (16 * l + n) 0)) (get_or s (16 * l + n) 0)
    ≡ byte_of b (nibble_sum n eight four two one)
unfolding nibble_sum
row-byte b l n p q r s eight four two one lane_lt small p_is q_is r_is s_is =
    let k : ℕ = 16 * l + n in
    let within : k < 32 = omega arith in
    let first : 255 * (k / 8 % 2) ≡ 255 * (n / 8 % 2) = omega arith in
    let second : 255 * (k / 4 % 2) ≡ 255 * (n / 4 % 2) = omega arith in
    let third : 255 * (k / 2 % 2) ≡ 255 * (n / 2 % 2) = omega arith in
    let fourth : 255 * (k % 2) ≡ 255 * (n % 2) = omega arith in
    let a : ℕ = n / 8 % 2 * eight in
    let c : ℕ = n / 4 % 2 * four in
    let d : ℕ = n / 2 % 2 * two in
    let e : ℕ = n % 2 * one in
    let a_bit : n / 8 % 2 < 2 = omega arith in
    let c_bit : n / 4 % 2 < 2 = omega arith in
    let d_bit : n / 2 % 2 < 2 = omega arith in
    let e_bit : n % 2 < 2 = omega arith in
    ap₂ bit_xor (ap₂ bit_xor (ap₂ bit_xor
    (p_is ∙ masked (n / 8 % 2) b eight (get_or eights k 0) a_bit (eight_at k within ∙ first))
    (q_is ∙ masked (n / 4 % 2) b four (get_or fours k 0) c_bit (four_at k within ∙ second)))
    (r_is ∙ masked (n / 2 % 2) b two (get_or twos k 0) d_bit (two_at k within ∙ third)))
    (s_is ∙ masked (n % 2) b one (get_or ones k 0) e_bit (one_at k within ∙ fourth))
    ∙ sym (byte_of-xor b (bit_xor (bit_xor a c) d) e
    ∙ ap (λ (x : ℕ). bit_xor x (byte_of b e)) (byte_of-xor b (bit_xor a c) d ∙ ap (λ (x : ℕ). bit_xor x (byte_of b d)) (byte_of-xor b a c)))

-- the products with the first nibble of a block, and with the second
pub first-nibble : (n h four two one : ℕ) → n < 16 → h < 2 ^ 128 → four ≡ times_u h → two ≡ times_u four → one ≡ times_u two
    → nibble_sum n h four two one ≡ product (n * 2 ^ 124) h
first-nibble n h four two one small fits four_is two_is one_is =
    let b = halved h four (4 * 2 ^ 124) h (first_bit h fits) four_is (omega arith) in
    let c = halved four two (2 * 2 ^ 124) h b two_is (omega arith) in
    let d = halved two one (1 * 2 ^ 124) h c one_is (omega arith) in
    product-nibble n 124 h h four two one small (first_bit h fits) b c d

pub second-nibble : (n h four two one eight' four' two' one' : ℕ) → n < 16 → h < 2 ^ 128 → four ≡ times_u h → two ≡ times_u four → one ≡ times_u two
    → eight' ≡ times_u one → four' ≡ times_u eight' → two' ≡ times_u four' → one' ≡ times_u two'
    → nibble_sum n eight' four' two' one' ≡ product (n * 2 ^ 120) h
second-nibble n h four two one eight' four' two' one' small fits four_is two_is one_is eight_is' four_is' two_is' one_is' =
    let b = halved h four (4 * 2 ^ 124) h (first_bit h fits) four_is (omega arith) in
    let c = halved four two (2 * 2 ^ 124) h b two_is (omega arith) in
    let d = halved two one (1 * 2 ^ 124) h c one_is (omega arith) in
    let a' = halved one eight' (8 * 2 ^ 120) h d eight_is' (omega arith) in
    let b' = halved eight' four' (4 * 2 ^ 120) h a' four_is' (omega arith) in
    let c' = halved four' two' (2 * 2 ^ 120) h b' two_is' (omega arith) in
    let d' = halved two' one' (1 * 2 ^ 120) h c' one_is' (omega arith) in
    product-nibble n 120 h eight' four' two' one' small a' b' c' d'

-- one row more
pub more_rows : (value : ℕ → ℕ → ℕ → ℕ) (side : Row → List ℕ) (rows : List Row) (b : ℕ) (row : Row) → b < length rows
    → ((l n : ℕ) → l < 2 → n < 16 → get_or (side row) (16 * l + n) 0 ≡ value b l n)
    → ((none : Row) (k l n : ℕ) → k < b → l < 2 → n < 16 → get_or (side (get_or rows k none)) (16 * l + n) 0 ≡ value k l n)
    → (none : Row) (k l n : ℕ) → k < b + 1 → l < 2 → n < 16 → get_or (side (get_or (set rows b row) k none)) (16 * l + n) 0 ≡ value k l n
more_rows value side rows b row within here before none k l n lk ll ln = at_place (cases_eq k b)
  where
    at_place : (k ≡ b) ⊎ (k ≢ b) → get_or (side (get_or (set rows b row) k none)) (16 * l + n) 0 ≡ value k l n
    at_place (inl e) =
        ap (λ (m : ℕ). get_or (side (get_or (set rows b row) m none)) (16 * l + n) 0) e
        ∙ ap (λ (x : Row). get_or (side x) (16 * l + n) 0) (get_or-set_same rows b row none within)
        ∙ here l n ll ln ∙ ap (λ (m : ℕ). value m l n) (sym e)
    at_place (inr other) =
        ap (λ (x : Row). get_or (side x) (16 * l + n) 0) (get_or-set_other rows b k row none other)
        ∙ before none k l n (omega arith) ll ln

-- byte b of the products with a byte, from those with its nibbles
byte_parts : (high low h : ℕ) → low < 16 → product ((16 * high + low) * 2 ^ 120) h ≡ bit_xor (product (high * 2 ^ 124) h) (product (low * 2 ^ 120) h)
byte_parts high low h small =
    let power : high * 2 ^ 4 + low ≡ 16 * high + low = omega arith in
    let place : high * 2 ^ 4 * 2 ^ 120 ≡ high * 2 ^ 124 = omega arith in
    ap (λ (n : ℕ). product (n * 2 ^ 120) h) (sym (xor_shifted high 4 low small ∙ power))
    ∙ ap (λ (n : ℕ). product n h) (shifted-xor 120 (high * 2 ^ 4) low ∙ ap (λ (n : ℕ). bit_xor n (low * 2 ^ 120)) place)
    ∙ product-xor (high * 2 ^ 124) (low * 2 ^ 120) h

pub lane-looked : (b l : ℕ) (powers : List ℕ) (rows : List Row) (row : Row) (x : Nibbles) (u v : List ℕ) → b < 16 → l < 2 → AreRows powers rows → row ≡ get_or rows b row
    → IsPair u → IsPair v
    → ((p : ℕ) → p < 16 → get_or u (16 * l + p) 0 ≡ get_or row.high (16 * l + get_or x.high (16 * l + p) 0) 0)
    → ((p : ℕ) → p < 16 → get_or v (16 * l + p) 0 ≡ get_or row.low (16 * l + get_or x.low (16 * l + p) 0) 0)
    → lane l (zip2 bit_xor u v) ≡ bytes_with b (lane l powers) (byte_in l x)
unfolding bytes_with
lane-looked b l powers rows row x u v lt two are row_is pair_u pair_v u_is v_is =
    lane-same l (zip2 bit_xor u v) (λ p. byte_of b (product (byte_in l x p * 2 ^ 120) (lane l powers))) (λ p within.
    let high : ℕ = get_or x.high (16 * l + p) 0 in
    let low : ℕ = get_or x.low (16 * l + p) 0 in
    let h : ℕ = lane l powers in
    let high_small = x.high_nibbles.nibbles (16 * l + p) in
    let low_small = x.low_nibbles.nibbles (16 * l + p) in
    get_or-both bit_xor u v (16 * l + p) pair_u.long pair_v.long (omega arith)
    ∙ ap₂ bit_xor
    (u_is p within ∙ ap (λ (r : Row). get_or r.high (16 * l + high) 0) row_is ∙ are.high row b l high lt two high_small)
    (v_is p within ∙ ap (λ (r : Row). get_or r.low (16 * l + low) 0) row_is ∙ are.low row b l low lt two low_small)
    ∙ sym (ap (byte_of b) (byte_parts high low h low_small) ∙ byte_of-xor b (product (high * 2 ^ 124) h) (product (low * 2 ^ 120) h)))
