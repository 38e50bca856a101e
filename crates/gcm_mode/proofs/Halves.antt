-- A number that is shifted to the right is multiplied by u.
use Rattle.std.proofs.Common.{◌≡◌, ℕ, zero, suc, ◌+◌, ◌-◌, ◌*◌, ◌/◌, ◌^◌, ◌%◌, ◌<◌, ◌≤◌, bit_xor, refl, sym, ap, ap₂, ◌∙◌, arith}
use lib.Bits.{xor_shr, xor_zero_r}
use Rattle.std.proofs.lemmas.Nat.{shr-shr}
use Rattle.std.proofs.lemmas.Nat.Bits.{bit_at_xor, bit_at_lowest, bit_at-lt}
use Rattle.gcm_mode.specs.Field.{reduction, times_u, coefficient, times_power, terms, product}
use Rattle.gcm_mode.proofs.Linear.{term-xor, pairs, zero-times}

pub times_u-xor : (a b : ℕ) → times_u (bit_xor a b) ≡ bit_xor (times_u a) (times_u b)
unfolding times_u
times_u-xor a b =
    let last : bit_xor a b % 2 ≡ (a % 2 + b % 2) % 2 = sym (bit_at_lowest (bit_xor a b)) ∙ bit_at_xor a b 0 ∙ ap₂ (λ (m n : ℕ). (m + n) % 2) (bit_at_lowest a) (bit_at_lowest b) in
    ap₂ bit_xor (xor_shr a b 1)
    (ap (λ (c : ℕ). c * reduction) last ∙ term-xor (a % 2) (b % 2) reduction (omega arith) (omega arith))
    ∙ pairs (a / 2) (b / 2) (a % 2 * reduction) (b % 2 * reduction)

-- u times a term
times_u-term : (c v : ℕ) → c < 2 → times_u (c * v) ≡ c * times_u v
unfolding times_u
times_u-term zero v l = rw (zero-times v, zero-times (times_u v)) refl
times_u-term (suc zero) v l =
    let one : 1 * v ≡ v = omega arith in
    rw one (sym (omega arith))
times_u-term (suc (suc c)) v l = absurd (omega arith)

coefficient-half : (x n : ℕ) → n < 127 → coefficient (x / 2) (suc n) ≡ coefficient x n
unfolding coefficient
coefficient-half x n l =
    let places : 1 + (127 - suc n) ≡ 127 - n = omega arith in
    ap (λ (k : ℕ). k % 2) (shr-shr x 1 (127 - suc n) ∙ ap (λ (k : ℕ). x / 2 ^ k) places)

terms-half : (n x h : ℕ) → n ≤ 127 → x < 2 ^ 128 → terms (suc n) (x / 2) h ≡ times_u (terms n x h)
unfolding terms times_power coefficient times_u
terms-half zero x h l fits =
    let none : x / 2 / 2 ^ 127 % 2 ≡ 0 = omega arith in
    rw none (zero-times h)
terms-half (suc n) x h l fits =
    ap₂ bit_xor (terms-half n x h (omega arith) fits)
    (ap (λ (c : ℕ). c * times_u (times_power n h)) (coefficient-half x n (omega arith))
    ∙ sym (times_u-term (coefficient x n) (times_power n h) (bit_at-lt x (127 - n))))
    ∙ sym (times_u-xor (terms n x h) (coefficient x n * times_power n h))

pub product-half : (x h : ℕ) → x < 2 ^ 128 → x % 2 ≡ 0 → product (x / 2) h ≡ times_u (product x h)
unfolding product terms coefficient
product-half x h fits even =
    let last : x / 2 ^ 0 % 2 ≡ 0 = omega arith in
    terms-half 127 x h (omega arith) fits
    ∙ ap times_u (sym (ap (λ (c : ℕ). bit_xor (terms 127 x h) (c * times_power 127 h)) last ∙ ap (bit_xor (terms 127 x h)) (zero-times (times_power 127 h)) ∙ xor_zero_r (terms 127 x h)))

pub product-double : (x h : ℕ) → x * 2 < 2 ^ 128 → product x h ≡ times_u (product (x * 2) h)
product-double x h fits =
    let half : x * 2 / 2 ≡ x = omega arith in
    sym (ap (λ (n : ℕ). product n h) half) ∙ product-half (x * 2) h fits (omega arith)
