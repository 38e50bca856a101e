-- A product is linear in its first factor.
use Rattle.std.proofs.Common.{◌≡◌, ℕ, zero, suc, ◌+◌, ◌-◌, ◌*◌, ◌/◌, ◌^◌, ◌%◌, ◌<◌, bit_xor, refl, sym, ap, ap₂, ◌∙◌, arith}
use lib.Bits.{xor_assoc, xor_comm, xor_self, xor_zero_r}
use Rattle.std.proofs.lemmas.Nat.Bits.{bit_at_xor, bit_at-lt}
use Rattle.gcm_mode.specs.Field.{coefficient, times_power, terms, product}

pub zero-times : (v : ℕ) → 0 * v ≡ 0
zero-times v = omega arith

-- two terms of one place add up to the term of their sum
pub term-xor : (a b v : ℕ) → a < 2 → b < 2 → (a + b) % 2 * v ≡ bit_xor (a * v) (b * v)
term-xor zero b v la lb =
    let e : (0 + b) % 2 ≡ b = omega arith in
    ap (λ (n : ℕ). n * v) e ∙ sym (rw (zero-times v) refl)
term-xor (suc zero) zero v la lb = sym (rw (zero-times v) (xor_zero_r (1 * v)))
term-xor (suc zero) (suc zero) v la lb = zero-times v ∙ sym (xor_self (1 * v))
term-xor (suc zero) (suc (suc b)) v la lb = absurd (omega arith)
term-xor (suc (suc a)) b v la lb = absurd (omega arith)

-- the sums of two pairs, paired the other way
pub pairs : (a b c d : ℕ) → bit_xor (bit_xor a b) (bit_xor c d) ≡ bit_xor (bit_xor a c) (bit_xor b d)
pairs a b c d =
    xor_assoc a b (bit_xor c d)
    ∙ ap (bit_xor a) (sym (xor_assoc b c d) ∙ ap (λ (n : ℕ). bit_xor n d) (xor_comm b c) ∙ xor_assoc c b d)
    ∙ sym (xor_assoc a c (bit_xor b d))

terms-xor : (n a b h : ℕ) → terms n (bit_xor a b) h ≡ bit_xor (terms n a h) (terms n b h)
unfolding terms coefficient
terms-xor zero a b h = refl
terms-xor (suc n) a b h =
    ap₂ bit_xor (terms-xor n a b h)
    (ap (λ (c : ℕ). c * times_power n h) (bit_at_xor a b (127 - n))
    ∙ term-xor (a / 2 ^ (127 - n) % 2) (b / 2 ^ (127 - n) % 2) (times_power n h) (bit_at-lt a (127 - n)) (bit_at-lt b (127 - n)))
    ∙ pairs (terms n a h) (terms n b h) (coefficient a n * times_power n h) (coefficient b n * times_power n h)

pub product-xor : (a b h : ℕ) → product (bit_xor a b) h ≡ bit_xor (product a h) (product b h)
unfolding product
product-xor a b h = terms-xor 128 a b h

pub product-zero : (h : ℕ) → product 0 h ≡ 0
product-zero h = product-xor 0 0 h ∙ xor_self (product 0 h)
