-- Vectors of two blocks, lane by lane.
use Rattle.std.proofs.Common.{◌≡◌, ℕ, zero, suc, ◌+◌, ◌-◌, ◌*◌, ◌/◌, ◌%◌, ◌^◌, ◌<◌, ◌≤◌, List, [], ◌∷◌, ◌++◌, length, replicate, get_or, bit_and, bit_xor, refl, sym, ap, ap₂, ◌∙◌, arith, inl, inr, lit<, w8, length-append}
use lib.Bits.{xor_lt, xor_shifted}
use lib.Dec.{T}
use Rattle.std.specs.Simd.Lanes.{zip2, pick_l, chunk, all_below}
use Rattle.std.specs.Int.{byte_at, bytes_high_first}
use Rattle.std.specs.List.{range_with_len}
use Rattle.std.proofs.lemmas.Bool.{cases_lt}
use Rattle.std.proofs.lemmas.List.{ext_get_or, get_or_append_left, get_or-append_right, get_or_past, get_or-map, length-map}
use Rattle.std.proofs.lemmas.Nat.{and_mask, pow-add}
use Rattle.std.proofs.lemmas.Simd.{Each1-from_get_or, SwzOk, SwzOk-from_below, get_or-chunk, get_or-replicate, get_or-swz_l_below, get_or-zip2, length-chunk, length-replicate, length-swz_l, length-zip2, pick_l-range_with_len, pick_l_left, pick_l_whole, swz_l}
use Rattle.aes_lanes.specs.Bytes.{IsBlock}
use Rattle.aes_lanes.proofs.Bytes.{bytes-high_first, length-high_first}
use Rattle.gcm_mode.specs.Hash.{block_number}
use Rattle.gcm_mode.specs.Pairs.{AreNibbles, IsPair, byte_of, lane, number_of}
use Rattle.gcm_mode.specs.Tables.{block_in, byte_in}
use Rattle.gcm_mode.specs.declared.vectors.Nibbles.{Nibbles}
use Rattle.gcm_mode.proofs.Algebra.{at_each}
use Rattle.gcm_mode.proofs.Numbers.{bits_more, block_number-is, byte_of-number, number_of-behind, number_of-bytes, number_of-front, number_of-lt, number_of-same, number_of-xor}

-- 32 bytes
pub IsPair-lanes : (v : List ℕ) → length v ≡ 32 → ((k : ℕ) → k < 32 → get_or v k 0 < 256) → IsPair v
IsPair-lanes v long each = record {
  long = long;
  bytes = λ k. elim (cases_lt k 32) [
    | inl lt ↦ each k lt
    | inr ge ↦
        let past : length v ≤ k = omega arith in
        rw (get_or_past v k 0 past) (lit< tt)
  ];
}

pub AreNibbles-lanes : (v : List ℕ) → length v ≡ 32 → ((k : ℕ) → k < 32 → get_or v k 0 < 16) → AreNibbles v
AreNibbles-lanes v long each = record {
  long = long;
  nibbles = λ k. elim (cases_lt k 32) [
    | inl lt ↦ each k lt
    | inr ge ↦
        let past : length v ≤ k = omega arith in
        rw (get_or_past v k 0 past) (lit< tt)
  ];
}

-- a lane from its bytes
pub lane-same : (l : ℕ) (v : List ℕ) (f : ℕ → ℕ) → ((p : ℕ) → p < 16 → get_or v (16 * l + p) 0 ≡ f p) → lane l v ≡ number_of f 16
unfolding lane
lane-same l v f each = number_of-same (λ p. get_or v (16 * l + p) 0) f 16 each

pub lane-bytes : (l : ℕ) (v : List ℕ) → lane l v ≡ number_of (λ p. get_or v (16 * l + p) 0) 16
unfolding lane
lane-bytes l v = refl

lane-last : (l : ℕ) (v : List ℕ) → IsPair v → lane l v % 2 ^ 8 ≡ get_or v (16 * l + 15) 0
unfolding lane number_of
lane-last l v pair =
    let byte = pair.bytes (16 * l + 15) in
    omega (arith, byte)

pub lane-lt : (l : ℕ) (v : List ℕ) → IsPair v → lane l v < 2 ^ 128
unfolding lane
lane-lt l v pair = number_of-lt (λ p. get_or v (16 * l + p) 0) 16 (λ p lt. pair.bytes (16 * l + p))

-- an operator on two vectors
pub get_or-both : (f : ℕ → ℕ → ℕ) (u v : List ℕ) (k : ℕ) → length u ≡ 32 → length v ≡ 32 → k < 32 → get_or (zip2 f u v) k 0 ≡ f (get_or u k 0) (get_or v k 0)
get_or-both f u v k long_u long_v lt =
    let in_u : k < length u = omega arith in
    let in_v : k < length v = omega arith in
    get_or-zip2 f u v k 0 0 0 in_u in_v

pub get_or-splat : (f : ℕ → ℕ → ℕ) (v : List ℕ) (n k : ℕ) → length v ≡ 32 → k < 32 → get_or (zip2 f v (replicate 32 n)) k 0 ≡ f (get_or v k 0) n
get_or-splat f v n k long lt =
    get_or-both f v (replicate 32 n) k long (length-replicate {A = ℕ} 32 n) lt ∙ ap (f (get_or v k 0)) (get_or-replicate {A = ℕ} 32 k n 0 lt)

pub length-both : (f : ℕ → ℕ → ℕ) (u v : List ℕ) → length u ≡ 32 → length v ≡ 32 → length (zip2 f u v) ≡ 32
length-both f u v long_u long_v = length-zip2 f u v (long_u ∙ sym long_v) ∙ long_u

pub length-splat : (n : ℕ) → length (replicate {A = ℕ} 32 n) ≡ 32
length-splat n = length-replicate {A = ℕ} 32 n

pub IsPair-both : (f : ℕ → ℕ → ℕ) (u v : List ℕ) → ((x y : ℕ) → x < 256 → y < 256 → f x y < 256) → IsPair u → IsPair v → IsPair (zip2 f u v)
IsPair-both f u v byte a b =
    IsPair-lanes (zip2 f u v) (length-both f u v a.long b.long) (λ k lt.
    rw (get_or-both f u v k a.long b.long lt) (byte (get_or u k 0) (get_or v k 0) (a.bytes k) (b.bytes k)))

pub IsPair-sum : (u v : List ℕ) → IsPair u → IsPair v → IsPair (zip2 bit_xor u v)
IsPair-sum u v a b = IsPair-both bit_xor u v (λ x y hx hy. xor_lt 8 x y hx hy) a b

pub IsPair-splat : (n : ℕ) → n < 256 → IsPair (replicate 32 n)
IsPair-splat n byte = IsPair-lanes (replicate 32 n) (length-splat n) (λ k lt. rw (get_or-replicate {A = ℕ} 32 k n 0 lt) byte)

pub lane-sum : (l : ℕ) (u v : List ℕ) → l < 2 → IsPair u → IsPair v → lane l (zip2 bit_xor u v) ≡ bit_xor (lane l u) (lane l v)
unfolding lane
lane-sum l u v two a b =
    number_of-same (λ p. get_or (zip2 bit_xor u v) (16 * l + p) 0) (λ p. bit_xor (get_or u (16 * l + p) 0) (get_or v (16 * l + p) 0)) 16 (λ p lt. get_or-both bit_xor u v (16 * l + p) a.long b.long (omega arith))
    ∙ number_of-xor (λ p. get_or u (16 * l + p) 0) (λ p. get_or v (16 * l + p) 0) 16 (λ p lt. a.bytes (16 * l + p)) (λ p lt. b.bytes (16 * l + p))

pub lane-none : (l : ℕ) → l < 2 → lane l (replicate 32 0) ≡ 0
unfolding number_of
lane-none l two = lane-same l (replicate 32 0) (λ p. 0) (λ p lt. get_or-replicate {A = ℕ} 32 (16 * l + p) 0 0 (omega arith))

-- two blocks side by side
pub IsPair-append : (a b : List ℕ) → IsBlock a → IsBlock b → IsPair (a ++ b)
IsPair-append a b x y =
    let long : length (a ++ b) ≡ 32 = omega (arith, length-append a b, x.sixteen, y.sixteen) in
    IsPair-lanes (a ++ b) long (λ k lt. elim (cases_lt k 16) [
      | inl first ↦
          let within : k < length a = omega (arith, x.sixteen) in
          rw (get_or_append_left a b 0 k within) (x.bytes k)
      | inr second ↦ rw (get_or-append_right a b 16 k 0 x.sixteen second) (y.bytes (k - 16))
    ])

pub lane-first : (a b : List ℕ) → IsBlock a → lane 0 (a ++ b) ≡ block_number a
lane-first a b x =
    lane-same 0 (a ++ b) (λ p. get_or a p 0) (λ p lt.
    let within : p < length a = omega (arith, x.sixteen) in
    let place : 16 * 0 + p ≡ p = omega arith in
    ap (λ (k : ℕ). get_or (a ++ b) k 0) place ∙ get_or_append_left a b 0 p within)
    ∙ sym (block_number-is a)

pub lane-second : (a b : List ℕ) → IsBlock a → lane 1 (a ++ b) ≡ block_number b
lane-second a b x =
    lane-same 1 (a ++ b) (λ p. get_or b p 0) (λ p lt.
    let behind : 16 ≤ 16 * 1 + p = omega arith in
    let place : 16 * 1 + p - 16 ≡ p = omega arith in
    get_or-append_right a b 16 (16 * 1 + p) 0 x.sixteen behind ∙ ap (λ (k : ℕ). get_or b k 0) place)
    ∙ sym (block_number-is b)

-- a choice of bytes
pub get_or-picked : (xs ks : List ℕ) (i : ℕ) → i < length ks → get_or (pick_l 0 xs ks) i 0 ≡ get_or xs (get_or ks i 0) 0
get_or-picked xs ks i lt = get_or-map (λ k. get_or xs k 0) ks i 0 0 lt

pub length-picked : (xs ks : List ℕ) → length (pick_l 0 xs ks) ≡ length ks
length-picked xs ks = length-map ks (λ k. get_or xs k 0)

pub IsPair-picked : (xs ks : List ℕ) → length ks ≡ 32 → ((k : ℕ) → get_or xs k 0 < 256) → IsPair (pick_l 0 xs ks)
IsPair-picked xs ks long bytes =
    IsPair-lanes (pick_l 0 xs ks) (length-picked xs ks ∙ long) (λ k lt.
    let within : k < length ks = omega arith in
    rw (get_or-picked xs ks k within) (bytes (get_or ks k 0)))

-- the bytes of two vectors
pub append-bytes : (a b : List ℕ) → IsPair a → IsPair b → (k : ℕ) → get_or (a ++ b) k 0 < 256
append-bytes a b x y k = elim (cases_lt k 32) [
  | inl first ↦
      let within : k < length a = omega (arith, x.long) in
      rw (get_or_append_left a b 0 k within) (x.bytes k)
  | inr second ↦ rw (get_or-append_right a b 32 k 0 x.long second) (y.bytes (k - 32))
]

pub pair_of_two : (a b v : List ℕ) → v ≡ a ++ b → IsBlock a → IsBlock b → IsPair v × (lane 0 v ≡ block_number a) × (lane 1 v ≡ block_number b)
pair_of_two a b v e x y = (
  rw e (IsPair-append a b x y),
  ap (lane 0) e ∙ lane-first a b x,
  ap (lane 1) e ∙ lane-second a b x,
)

pub whole_pair : (a b : List ℕ) → IsBlock a → IsBlock b → pick_l 0 (a ++ b) (range_with_len 0 32) ≡ a ++ b
whole_pair a b x y = pick_l_whole 0 (a ++ b) 32 (omega (arith, length-append a b, x.sixteen, y.sixteen))

-- a look-up in each lane
pub look-at : (table js : List ℕ) (k : ℕ) → AreNibbles js → k < 32 → get_or (swz_l w8 16 table 0 js) k 0 ≡ get_or table (16 * ((0 + k) / 16) + get_or js k 0) 0
look-at table js k nibbles lt =
    let within : k < length js = omega (arith, nibbles.long) in
    get_or-swz_l_below w8 16 table 0 js k within (nibbles.nibbles k)

pub IsPair-look : (table js : List ℕ) → IsPair table → AreNibbles js → IsPair (swz_l w8 16 table 0 js)
IsPair-look table js pair nibbles =
    IsPair-lanes (swz_l w8 16 table 0 js) (length-swz_l w8 16 table 0 js ∙ nibbles.long) (λ k lt.
    rw (look-at table js k nibbles lt) (pair.bytes (16 * ((0 + k) / 16) + get_or js k 0)))

pub look-each : (table js : List ℕ) (l p : ℕ) → AreNibbles js → l < 2 → p < 16
    → get_or (swz_l w8 16 table 0 js) (16 * l + p) 0 ≡ get_or table (16 * l + get_or js (16 * l + p) 0) 0
look-each table js l p nibbles two lt =
    let n : ℕ = get_or js (16 * l + p) 0 in
    let place : 16 * ((0 + (16 * l + p)) / 16) + n ≡ 16 * l + n = omega arith in
    look-at table js (16 * l + p) nibbles (omega arith) ∙ ap (λ (k : ℕ). get_or table k 0) place

pub nibbles_within : (js : List ℕ) → AreNibbles js → SwzOk w8 16 32 0 js
nibbles_within js nibbles =
    SwzOk-from_below w8 16 2 32 0 js refl (omega (arith, nibbles.long)) (Each1-from_get_or (λ j. j < 16) js 0 (λ i l. nibbles.nibbles i))

-- the nibbles of bytes
high_nibble : (v : List ℕ) (k : ℕ) → IsPair v → k < 32 → get_or (zip2 (λ (a b : ℕ). a / 2 ^ b) v (replicate 32 4)) k 0 ≡ get_or v k 0 / 16
high_nibble v k pair lt = get_or-splat (λ (a b : ℕ). a / 2 ^ b) v 4 k pair.long lt

low_nibble : (v : List ℕ) (k : ℕ) → IsPair v → k < 32 → get_or (zip2 bit_and v (replicate 32 15)) k 0 ≡ get_or v k 0 % 16
low_nibble v k pair lt = get_or-splat bit_and v 15 k pair.long lt ∙ and_mask (get_or v k 0) 4

pub AreNibbles-high : (v : List ℕ) → IsPair v → AreNibbles (zip2 (λ (a b : ℕ). a / 2 ^ b) v (replicate 32 4))
AreNibbles-high v pair =
    AreNibbles-lanes (zip2 (λ (a b : ℕ). a / 2 ^ b) v (replicate 32 4)) (length-both (λ (a b : ℕ). a / 2 ^ b) v (replicate 32 4) pair.long (length-splat 4)) (λ k lt.
    let byte = pair.bytes k in
    let e = high_nibble v k pair lt in
    omega (arith, e, byte))

pub AreNibbles-low : (v : List ℕ) → IsPair v → AreNibbles (zip2 bit_and v (replicate 32 15))
AreNibbles-low v pair =
    AreNibbles-lanes (zip2 bit_and v (replicate 32 15)) (length-both bit_and v (replicate 32 15) pair.long (length-splat 15)) (λ k lt.
    let e = low_nibble v k pair lt in
    omega (arith, e))

pub block-nibbles : (l : ℕ) (v : List ℕ) (x : Nibbles) → l < 2 → IsPair v → x.high ≡ zip2 (λ (a b : ℕ). a / 2 ^ b) v (replicate 32 4) → x.low ≡ zip2 bit_and v (replicate 32 15)
    → block_in l x ≡ lane l v
unfolding block_in
block-nibbles l v x two pair high low =
    sym (lane-same l v (byte_in l x) (λ p lt.
    let k : ℕ = 16 * l + p in
    let within : k < 32 = omega arith in
    let high_is : get_or x.high k 0 ≡ get_or v k 0 / 16 = ap (λ (u : List ℕ). get_or u k 0) high ∙ high_nibble v k pair within in
    let low_is : get_or x.low k 0 ≡ get_or v k 0 % 16 = ap (λ (u : List ℕ). get_or u k 0) low ∙ low_nibble v k pair within in
    omega (arith, high_is, low_is)))

-- a lane moved on by a byte
abbrev one_on_places : List ℕ
one_on_places =
    15 ∷ 32 ∷ 33 ∷ 34 ∷ 35 ∷ 36 ∷ 37 ∷ 38 ∷ 39 ∷ 40 ∷ 41 ∷ 42 ∷ 43 ∷ 44 ∷ 45 ∷ 46
    ∷ 31 ∷ 48 ∷ 49 ∷ 50 ∷ 51 ∷ 52 ∷ 53 ∷ 54 ∷ 55 ∷ 56 ∷ 57 ∷ 58 ∷ 59 ∷ 60 ∷ 61 ∷ 62 ∷ []

first_place : (l : ℕ) → l < 2 → get_or one_on_places (16 * l) 0 ≡ 16 * l + 15
first_place zero two = refl
first_place (suc zero) two = refl
first_place (suc (suc l)) two = absurd (omega arith)

next_place : (l p : ℕ) → l < 2 → p < 15 → get_or one_on_places (16 * l + (p + 1)) 0 ≡ 16 * l + p + 32
next_place zero p two lt = at_each 15 (λ p. get_or one_on_places (16 * 0 + (p + 1)) 0) (λ p. 16 * 0 + p + 32) refl p lt
next_place (suc zero) p two lt = at_each 15 (λ p. get_or one_on_places (16 * 1 + (p + 1)) 0) (λ p. 16 * 1 + p + 32) refl p lt
next_place (suc (suc l)) p two lt = absurd (omega arith)

pub IsPair-one_on : (before v : List ℕ) → IsPair before → IsPair v → IsPair (pick_l 0 (before ++ v) one_on_places)
IsPair-one_on before v a b = IsPair-picked (before ++ v) one_on_places refl (append-bytes before v a b)

pub one_on-first : (before v : List ℕ) (l : ℕ) → l < 2 → IsPair before → get_or (pick_l 0 (before ++ v) one_on_places) (16 * l) 0 ≡ get_or before (16 * l + 15) 0
one_on-first before v l two a =
    let within : 16 * l < length one_on_places = omega arith in
    let inside : 16 * l + 15 < length before = omega (arith, a.long) in
    get_or-picked (before ++ v) one_on_places (16 * l) within ∙ ap (λ (k : ℕ). get_or (before ++ v) k 0) (first_place l two)
    ∙ get_or_append_left before v 0 (16 * l + 15) inside

pub one_on-next : (before v : List ℕ) (l p : ℕ) → l < 2 → p < 15 → IsPair before → get_or (pick_l 0 (before ++ v) one_on_places) (16 * l + (p + 1)) 0 ≡ get_or v (16 * l + p) 0
one_on-next before v l p two lt a =
    let within : 16 * l + (p + 1) < length one_on_places = omega arith in
    let behind : 32 ≤ 16 * l + p + 32 = omega arith in
    let place : 16 * l + p + 32 - 32 ≡ 16 * l + p = omega arith in
    get_or-picked (before ++ v) one_on_places (16 * l + (p + 1)) within ∙ ap (λ (k : ℕ). get_or (before ++ v) k 0) (next_place l p two lt)
    ∙ get_or-append_right before v 32 (16 * l + p + 32) 0 a.long behind ∙ ap (λ (k : ℕ). get_or v k 0) place

-- as a number, a lane that is moved on
pub lane-one_on : (l : ℕ) (before v moved : List ℕ) → l < 2 → IsPair before → IsPair v
    → ((l : ℕ) → l < 2 → get_or moved (16 * l) 0 ≡ get_or before (16 * l + 15) 0)
    → ((l p : ℕ) → l < 2 → p < 15 → get_or moved (16 * l + (p + 1)) 0 ≡ get_or v (16 * l + p) 0)
    → lane l moved ≡ bit_xor (lane l before % 2 ^ 8 * 2 ^ 120) (lane l v / 2 ^ 8)
lane-one_on l before v moved two a b first next =
    let f : ℕ → ℕ = λ p. get_or v (16 * l + p) 0 in
    let start : 16 * l + 0 ≡ 16 * l = omega arith in
    let last : lane l before % 2 ^ 8 ≡ get_or before (16 * l + 15) 0 = lane-last l before a in
    let rest : lane l v / 2 ^ 8 ≡ number_of f 15 = ap (λ (n : ℕ). n / 2 ^ 8) (lane-bytes l v) ∙ number_of-front f 15 1 (λ p lt. b.bytes (16 * l + p)) in
    let small = number_of-lt f 15 (λ p lt. b.bytes (16 * l + p)) in
    lane-bytes l moved ∙ number_of-behind (λ p. get_or moved (16 * l + p) 0) f 15 (λ p lt. next l p two lt)
    ∙ ap (λ (n : ℕ). n * 2 ^ 120 + number_of f 15) (ap (λ (k : ℕ). get_or moved k 0) start ∙ first l two ∙ sym last)
    ∙ sym (xor_shifted (lane l before % 2 ^ 8) 120 (number_of f 15) small)
    ∙ ap (bit_xor (lane l before % 2 ^ 8 * 2 ^ 120)) (sym rest)

-- blocks as vectors of sixteen bytes
pub IsBlock-bytes : (v : List ℕ) → length v ≡ 16 → ((p : ℕ) → p < 16 → get_or v p 0 < 256) → IsBlock v
IsBlock-bytes v long each = record {
  sixteen = long;
  bytes = λ p. elim (cases_lt p 16) [
    | inl lt ↦ each p lt
    | inr ge ↦
        let past : length v ≤ p = omega arith in
        rw (get_or_past v p 0 past) (lit< tt)
  ];
}

-- one lane of a vector
lane_chunk : (v ks : List ℕ) (l : ℕ) → l < 2 → ks ≡ range_with_len (16 * l) 16 → T (all_below 32 ks) → IsPair v
    → IsBlock (pick_l 0 (v ++ v) ks) × (block_number (pick_l 0 (v ++ v) ks) ≡ lane l v)
lane_chunk v ks l two e within pair =
    let part : List ℕ = chunk (16 * l) 16 v in
    let behind : 16 * l + 16 ≤ length v = omega (arith, pair.long) in
    let is : pick_l 0 (v ++ v) ks ≡ part = pick_l_left 0 v v 32 ks pair.long within ∙ ap (pick_l 0 v) e ∙ pick_l-range_with_len 0 v (16 * l) 16 behind in
    let each : (p : ℕ) → p < 16 → get_or part p 0 ≡ get_or v (16 * l + p) 0 = λ p lt. get_or-chunk (16 * l) 16 v p 0 lt in
    rw is (
      IsBlock-bytes part (length-chunk (16 * l) 16 v behind) (λ p lt. rw (each p lt) (pair.bytes (16 * l + p))),
      block_number-is part ∙ sym (lane-same l v (λ p. get_or part p 0) (λ p lt. sym (each p lt))),
    )

pub first_lane : (v : List ℕ) → IsPair v → let block = pick_l 0 (v ++ v) (range_with_len 0 16) in IsBlock block × (block_number block ≡ lane 0 v)
first_lane v pair = lane_chunk v (range_with_len 0 16) 0 (omega arith) refl tt pair

pub second_lane : (v : List ℕ) → IsPair v → let block = pick_l 0 (v ++ v) (range_with_len 16 16) in IsBlock block × (block_number block ≡ lane 1 v)
second_lane v pair = lane_chunk v (range_with_len 16 16) 1 (omega arith) refl tt pair

pub IsBlock-splat : (n : ℕ) → n < 256 → IsBlock (replicate 16 n)
IsBlock-splat n byte = IsBlock-bytes (replicate 16 n) (length-replicate {A = ℕ} 16 n) (λ p lt. rw (get_or-replicate {A = ℕ} 16 p n 0 lt) byte)

pub block_number-none : block_number (replicate 16 0) ≡ 0
unfolding block_number
block_number-none = refl

block-sum-at : (u v : List ℕ) (p : ℕ) → p < 16 → IsBlock u → IsBlock v → get_or (zip2 bit_xor u v) p 0 ≡ bit_xor (get_or u p 0) (get_or v p 0)
block-sum-at u v p lt a b =
    let in_u : p < length u = omega (arith, a.sixteen) in
    let in_v : p < length v = omega (arith, b.sixteen) in
    get_or-zip2 bit_xor u v p 0 0 0 in_u in_v

pub IsBlock-sum : (u v : List ℕ) → IsBlock u → IsBlock v → IsBlock (zip2 bit_xor u v)
IsBlock-sum u v a b =
    IsBlock-bytes (zip2 bit_xor u v) (length-zip2 bit_xor u v (a.sixteen ∙ sym b.sixteen) ∙ a.sixteen) (λ p lt.
    rw (block-sum-at u v p lt a b) (xor_lt 8 (get_or u p 0) (get_or v p 0) (a.bytes p) (b.bytes p)))

pub block_number-sum : (u v : List ℕ) → IsBlock u → IsBlock v → block_number (zip2 bit_xor u v) ≡ bit_xor (block_number u) (block_number v)
block_number-sum u v a b =
    block_number-is (zip2 bit_xor u v)
    ∙ number_of-same (λ p. get_or (zip2 bit_xor u v) p 0) (λ p. bit_xor (get_or u p 0) (get_or v p 0)) 16 (λ p lt. block-sum-at u v p lt a b)
    ∙ number_of-xor (λ p. get_or u p 0) (λ p. get_or v p 0) 16 (λ p lt. a.bytes p) (λ p lt. b.bytes p)
    ∙ sym (ap₂ bit_xor (block_number-is u) (block_number-is v))

pub block_number-lt : (v : List ℕ) → IsBlock v → block_number v < 2 ^ 128
block_number-lt v a =
    let is = block_number-is v in
    let small = number_of-lt (λ p. get_or v p 0) 16 (λ p lt. a.bytes p) in
    omega (arith, is, small)

byte_of-is : (b x : ℕ) → x / 2 ^ (8 * (16 - 1 - b)) % 256 ≡ byte_of b x
unfolding byte_of
byte_of-is b x = refl

bytes_power : (i : ℕ) → 256 ^ i ≡ 2 ^ (8 * i)
bytes_power zero = refl
bytes_power (suc i) =
    let next : suc i ≡ i + 1 = omega arith in
    ap (λ (k : ℕ). 256 ^ k) next ∙ pow-add 256 i 1 ∙ ap (λ (n : ℕ). n * 256) (bytes_power i) ∙ sym (bits_more i)

byte_at-is : (i x : ℕ) → byte_at i x ≡ x / 2 ^ (8 * i) % 256
byte_at-is zero x = ap (λ (n : ℕ). n % 256) (sym (whole x))
  where
    whole : (x : ℕ) → x / 2 ^ (8 * 0) ≡ x
    whole x = omega arith
byte_at-is (suc i) x = ap (λ (n : ℕ). x / n % 256) (bytes_power (suc i))

-- the bytes of a number, the highest first
high_first-at : (n x p : ℕ) → p < n → get_or (bytes_high_first n x) p 0 ≡ x / 2 ^ (8 * (n - 1 - p)) % 256
high_first-at zero x p lt = absurd (omega arith)
high_first-at (suc n) x zero lt = byte_at-is n x ∙ ap (λ (k : ℕ). x / 2 ^ (8 * k) % 256) (omega arith)
high_first-at (suc n) x (suc p) lt =
    high_first-at n x p (omega arith) ∙ ap (λ (k : ℕ). x / 2 ^ (8 * k) % 256) (omega arith)

pub block_number-bytes : (x : ℕ) → x < 2 ^ 128 → block_number (bytes_high_first 16 x) ≡ x
block_number-bytes x fits =
    block_number-is (bytes_high_first 16 x)
    ∙ number_of-same (λ p. get_or (bytes_high_first 16 x) p 0) (λ b. byte_of b x) 16 (λ p lt. high_first-at 16 x p lt ∙ byte_of-is p x)
    ∙ number_of-bytes x 16 (omega arith) fits ∙ omega arith

pub bytes-block_number : (v : List ℕ) → IsBlock v → bytes_high_first 16 (block_number v) ≡ v
bytes-block_number v a =
    let f : ℕ → ℕ = λ p. get_or v p 0 in
    let long : length (bytes_high_first 16 (block_number v)) ≡ 16 = length-high_first 16 (block_number v) in
    ext_get_or 0 (bytes_high_first 16 (block_number v)) v (long ∙ sym a.sixteen) (λ p lt.
    let within : p < 16 = omega arith in
    high_first-at 16 (block_number v) p within ∙ byte_of-is p (block_number v)
    ∙ ap (byte_of p) (block_number-is v) ∙ byte_of-number f p within (λ q l. a.bytes q))

pub IsBlock-high_first : (x : ℕ) → IsBlock (bytes_high_first 16 x)
IsBlock-high_first x = record { sixteen = length-high_first 16 x; bytes = bytes-high_first 16 x }
