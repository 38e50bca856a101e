-- Planes as words of 64 bits, and words that are written one by one.
use Rattle.std.proofs.Common.{◌≡◌, ◌≢◌, ℕ, zero, suc, ◌+◌, ◌*◌, ◌/◌, ◌%◌, ◌^◌, ◌<◌, ◌≤◌, List, [], ◌∷◌, map, length, set, get_or, length-set, slice_index, ◌⊎◌, inl, inr, refl, sym, ap, ◌∙◌, arith, lit<, get_or-set_same, get_or-set_other}
use Rattle.std.specs.Simd.Lanes.{Each1, chunk, digits_l, number_l}
use Rattle.std.proofs.Math.Nat.{zero-div, pow-suc, mul_comm, div-div-eq-div-mul}
use Rattle.std.proofs.lemmas.Bool.{cases_eq}
use Rattle.std.proofs.lemmas.Nat.{mod_below, shr-shr}
use Rattle.std.proofs.lemmas.Simd.{Each1-chunk, Each1-from_get_or, get_or-chunk, get_or_wider, get_or_narrower}
use Rattle.aes_lanes.specs.Planes.{IsPlane, bit, bit_of, byte_of, byte_at}
use Rattle.aes_lanes.proofs.PlaneBits.{eight, eight_of, eight_same}

-- four words
pub record AreWords (words : List ℕ) : Type 0 where
  pub long : length words ≡ 4
  pub fits : (w : ℕ) → slice_index words w < 2 ^ 64

-- the words of a plane, and the plane of words
abbrev pub words_of : List ℕ → List ℕ
words_of plane = digits_l (2 ^ 64) 4 (number_l 256 plane)

abbrev pub plane_of : List ℕ → List ℕ
plane_of words = digits_l 256 32 (number_l (2 ^ 64) words)

length-digits : (q n x : ℕ) → length (digits_l q n x) ≡ n
length-digits q zero x = refl
length-digits q (suc n) x = omega (arith, length-digits q n (x / q))

digits-lt : (q n x i : ℕ) → 0 < q → get_or (digits_l q n x) i 0 < q
digits-lt q zero x i some = some
digits-lt q (suc n) x zero some = mod_below x q some
digits-lt q (suc n) x (suc i) some = digits-lt q n (x / q) i some

pub AreWords-words : (plane : List ℕ) → AreWords (words_of plane)
AreWords-words plane = record {
  long = length-digits (2 ^ 64) 4 (number_l 256 plane);
  fits = λ w. digits-lt (2 ^ 64) 4 (number_l 256 plane) w (lit< tt);
}

pub IsPlane-plane : (words : List ℕ) → IsPlane (plane_of words)
IsPlane-plane words = record {
  long = length-digits 256 32 (number_l (2 ^ 64) words);
  bytes = λ p. digits-lt 256 32 (number_l (2 ^ 64) words) p (lit< tt);
}

-- the bits of a number's lowest byte, and of each byte, are bits of the number
bit_of-low : (y k : ℕ) → k < 8 → bit_of k (y % 256) ≡ bit_of k y
bit_of-low y = eight (λ n. bit_of n (y % 256) ≡ bit_of n y) (omega arith) (omega arith) (omega arith) (omega arith) (omega arith) (omega arith) (omega arith) (omega arith)

bit_of-byte : (x j k : ℕ) → j < 8 → k < 8 → bit_of k (x / 256 ^ j % 256) ≡ bit_of (8 * j + k) x
bit_of-byte x j k lj lk =
    let power : 256 ^ j ≡ 2 ^ (8 * j) = eight (λ n. 256 ^ n ≡ 2 ^ (8 * n)) refl refl refl refl refl refl refl refl j lj in
    ap (λ n. bit_of k (x / n % 256)) power ∙ bit_of-low (x / 2 ^ (8 * j)) k lk ∙ ap (λ n. n % 2) (shr-shr x (8 * j) k)

-- a byte of the number of some bytes
byte-number : (xs : List ℕ) (j : ℕ) → Each1 (λ x. x < 256) xs → number_l 256 xs / 256 ^ j % 256 ≡ get_or xs j 0
byte-number [] j h = ap (λ n. n % 256) (zero-div (256 ^ j))
byte-number (x ∷ xs) zero h = let byte : x < 256 = h.0 in omega (arith, byte)
byte-number (x ∷ xs) (suc j) h =
    let byte : x < 256 = h.0 in
    let rest : (x + 256 * number_l 256 xs) / 256 ≡ number_l 256 xs = omega (arith, byte) in
    ap (λ n. (x + 256 * number_l 256 xs) / n % 256) (pow-suc 256 j ∙ mul_comm (256 ^ j) 256)
    ∙ ap (λ n. n % 256) (sym (div-div-eq-div-mul (x + 256 * number_l 256 xs) 256 (256 ^ j)))
    ∙ ap (λ n. n / 256 ^ j % 256) rest ∙ byte-number xs j h.1

-- bit m of word w of a plane
pub bit-word : (v : List ℕ) (w m : ℕ) → IsPlane v → w < 4 → m < 64 → bit w m (words_of v) ≡ bit (8 * w + m / 8) (m % 8) v
bit-word v w m plane lw lm =
    let part : List ℕ = chunk (8 * w) 8 v in
    let bytes : Each1 (λ x. x < 256) v = Each1-from_get_or (λ x. x < 256) v 0 (λ i within. plane.bytes i) in
    let few : m / 8 < 8 = omega arith in
    let back : 8 * (m / 8) + m % 8 ≡ m = omega arith in
    let word : get_or (words_of v) w 0 ≡ number_l 256 part = get_or_wider 256 8 (2 ^ 64) 4 v w refl bytes lw in
    ap (bit_of m) word ∙ ap (λ n. bit_of n (number_l 256 part)) (sym back)
    ∙ sym (bit_of-byte (number_l 256 part) (m / 8) (m % 8) few (omega arith))
    ∙ ap (bit_of (m % 8)) (byte-number part (m / 8) (Each1-chunk (λ x. x < 256) (8 * w) 8 v bytes) ∙ get_or-chunk (8 * w) 8 v (m / 8) 0 few)

-- bit k of byte p of the plane of words
pub bit-plane : (words : List ℕ) (p k : ℕ) → AreWords words → p < 32 → k < 8 → bit p k (plane_of words) ≡ bit (p / 8) (8 * (p % 8) + k) words
bit-plane words p k are lp lk =
    let fits : Each1 (λ x. x < 2 ^ 64) words = Each1-from_get_or (λ x. x < 2 ^ 64) words 0 (λ i within. are.fits i) in
    let few : p % 8 < 8 = omega arith in
    let back : 8 * (p / 8) + p % 8 ≡ p = omega arith in
    let within : 8 * (p / 8) + p % 8 < 32 = omega arith in
    ap (λ i. bit i k (plane_of words)) (sym back)
    ∙ ap (bit_of k) (get_or_narrower (2 ^ 64) 8 256 32 words (p / 8) (p % 8) refl fits few within)
    ∙ bit_of-byte (get_or words (p / 8) 0) (p % 8) k few lk

-- a word in a place
pub AreWords-set : (words : List ℕ) (n x : ℕ) → AreWords words → n < 4 → x < 2 ^ 64 → AreWords (set words n x)
AreWords-set words n x are lt small = record {
  long = length-set words n x ∙ are.long;
  fits = λ w. at_place w (cases_eq w n);
} where
  at_place : (w : ℕ) → (w ≡ n) ⊎ (w ≢ n) → slice_index (set words n x) w < 2 ^ 64
  at_place w (inl e) =
      let within : n < length words = omega (arith, are.long) in
      rw (ap (slice_index (set words n x)) e ∙ get_or-set_same words n x 0 within) small
  at_place w (inr other) = rw (get_or-set_other words n w x 0 other) (are.fits w)

-- eight lists of words, of which place n gets eight words
module _ (n : ℕ) (y0 y1 y2 y3 y4 y5 y6 y7 : List ℕ) (b0 b1 b2 b3 b4 b5 b6 b7 : ℕ) (lt : n < 4)
    (h0 : AreWords y0) (h1 : AreWords y1) (h2 : AreWords y2) (h3 : AreWords y3) (h4 : AreWords y4) (h5 : AreWords y5) (h6 : AreWords y6) (h7 : AreWords y7) where
  abbrev before : List (List ℕ)
  before = eight_of y0 y1 y2 y3 y4 y5 y6 y7

  abbrev after : List (List ℕ)
  after = set y0 n b0 ∷ set y1 n b1 ∷ set y2 n b2 ∷ set y3 n b3 ∷ set y4 n b4 ∷ set y5 n b5 ∷ set y6 n b6 ∷ set y7 n b7 ∷ []

  in_place : (m : ℕ) → byte_at after m n ≡ byte_of (map (bit_of m) (b0 ∷ b1 ∷ b2 ∷ b3 ∷ b4 ∷ b5 ∷ b6 ∷ b7 ∷ []))
  in_place m = ap byte_of (eight_same (new y0 b0 h0) (new y1 b1 h1) (new y2 b2 h2) (new y3 b3 h3) (new y4 b4 h4) (new y5 b5 h5) (new y6 b6 h6) (new y7 b7 h7)) where
    new : (y : List ℕ) (b : ℕ) → AreWords y → bit_of m (slice_index (set y n b) n) ≡ bit_of m b
    new y b are =
        let within : n < length y = omega (arith, are.long) in
        ap (bit_of m) (get_or-set_same y n b 0 within)

  elsewhere : (m w : ℕ) → w ≢ n → byte_at after m w ≡ byte_at before m w
  elsewhere m w other = ap byte_of (eight_same (same y0 b0) (same y1 b1) (same y2 b2) (same y3 b3) (same y4 b4) (same y5 b5) (same y6 b6) (same y7 b7)) where
    same : (y : List ℕ) (b : ℕ) → bit_of m (slice_index (set y n b) w) ≡ bit_of m (slice_index y w)
    same y b = ap (bit_of m) (get_or-set_other y n w b 0 other)

  -- one place more in which they are a function of what was there
  pub more_places : (f : ℕ → ℕ) (old : ℕ → ℕ → ℕ)
      → ((m : ℕ) → m < 64 → byte_of (map (bit_of m) (b0 ∷ b1 ∷ b2 ∷ b3 ∷ b4 ∷ b5 ∷ b6 ∷ b7 ∷ [])) ≡ f (byte_at before m n))
      → ((m w : ℕ) → m < 64 → n ≤ w → w < 4 → byte_at before m w ≡ old m w)
      → ((m w : ℕ) → m < 64 → w < n → byte_at before m w ≡ f (old m w))
      → (m w : ℕ) → m < 64 → w < n + 1 → byte_at after m w ≡ f (old m w)
  more_places f old here rest done m w lm lw = at_place (cases_eq w n) where
    at_place : (w ≡ n) ⊎ (w ≢ n) → byte_at after m w ≡ f (old m w)
    at_place (inl e) =
        ap (byte_at after m) e ∙ in_place m ∙ here m lm ∙ ap f (rest m n lm (omega arith) lt) ∙ ap (λ q. f (old m q)) (sym e)
    at_place (inr other) = elsewhere m w other ∙ done m w lm (omega arith)

  pub fewer_left : (old : ℕ → ℕ → ℕ) → ((m w : ℕ) → m < 64 → n ≤ w → w < 4 → byte_at before m w ≡ old m w)
      → (m w : ℕ) → m < 64 → n + 1 ≤ w → w < 4 → byte_at after m w ≡ old m w
  fewer_left old rest m w lm le lw = elsewhere m w (λ e. absurd (omega (arith, e))) ∙ rest m w lm (omega arith) lw
