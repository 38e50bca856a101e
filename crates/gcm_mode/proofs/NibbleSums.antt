-- The products with a nibble, from those with each of its bits.
use Rattle.std.proofs.Common.{◌≡◌, ℕ, zero, suc, ◌+◌, ◌*◌, ◌/◌, ◌%◌, ◌^◌, ◌<◌, bit_xor, sym, ap, ◌∙◌, arith}
use lib.Bits.{xor_assoc, xor_shifted, xor_zero_l}
use Rattle.gcm_mode.specs.Field.{product, times_u}
use Rattle.gcm_mode.specs.Pairs.{nibble_sum}
use Rattle.gcm_mode.proofs.Algebra.{product-first}
use Rattle.gcm_mode.proofs.FieldSums.{shifted-xor}
use Rattle.gcm_mode.proofs.Halves.{product-double}
use Rattle.gcm_mode.proofs.Linear.{product-xor, product-zero, zero-times}

-- one bit, and what stands below it
one_bit : (i j r k h x : ℕ) → i < 2 → r < 2 ^ j → x ≡ product (2 ^ j * 2 ^ k) h → product ((i * 2 ^ j + r) * 2 ^ k) h ≡ bit_xor (i * x) (product (r * 2 ^ k) h)
one_bit zero j r k h x two small is =
    let rest : 0 * 2 ^ j + r ≡ r = omega arith in
    ap (λ (n : ℕ). product (n * 2 ^ k) h) rest
    ∙ sym (ap (λ (n : ℕ). bit_xor n (product (r * 2 ^ k) h)) (zero-times x) ∙ xor_zero_l (product (r * 2 ^ k) h))
one_bit (suc zero) j r k h x two small is =
    let one : 1 * x ≡ x = omega arith in
    let power : 1 * 2 ^ j ≡ 2 ^ j = omega arith in
    ap (λ (n : ℕ). product (n * 2 ^ k) h) (sym (xor_shifted 1 j r small) ∙ ap (λ (n : ℕ). bit_xor n r) power)
    ∙ ap (λ (n : ℕ). product n h) (shifted-xor k (2 ^ j) r) ∙ product-xor (2 ^ j * 2 ^ k) (r * 2 ^ k) h
    ∙ ap (λ (n : ℕ). bit_xor n (product (r * 2 ^ k) h)) (sym (one ∙ is))
one_bit (suc (suc i)) j r k h x two small is = absurd (omega arith)

last_bit : (i k h x : ℕ) → i < 2 → x ≡ product (1 * 2 ^ k) h → product (i * 2 ^ k) h ≡ i * x
last_bit zero k h x two is =
    let none : 0 * 2 ^ k ≡ 0 = omega arith in
    ap (λ (n : ℕ). product n h) none ∙ product-zero h ∙ sym (zero-times x)
last_bit (suc zero) k h x two is =
    let one : 1 * x ≡ x = omega arith in
    sym (one ∙ is)
last_bit (suc (suc i)) k h x two is = absurd (omega arith)

pub product-nibble : (n k h eight four two one : ℕ) → n < 16
    → eight ≡ product (8 * 2 ^ k) h → four ≡ product (4 * 2 ^ k) h → two ≡ product (2 * 2 ^ k) h → one ≡ product (1 * 2 ^ k) h
    → nibble_sum n eight four two one ≡ product (n * 2 ^ k) h
unfolding nibble_sum
product-nibble n k h eight four two one small eight_is four_is two_is one_is =
    let a : ℕ = n / 8 % 2 in
    let b : ℕ = n / 4 % 2 in
    let c : ℕ = n / 2 % 2 in
    let d : ℕ = n % 2 in
    let a_bit : a < 2 = omega arith in
    let b_bit : b < 2 = omega arith in
    let c_bit : c < 2 = omega arith in
    let d_bit : d < 2 = omega arith in
    let two_left : c * 2 + d < 4 = omega arith in
    let three_left : b * 4 + (c * 2 + d) < 8 = omega arith in
    let whole : n ≡ a * 8 + (b * 4 + (c * 2 + d)) = omega arith in
    let split : product (n * 2 ^ k) h ≡ bit_xor (a * eight) (bit_xor (b * four) (bit_xor (c * two) (d * one))) =
    ap (λ (m : ℕ). product (m * 2 ^ k) h) whole
    ∙ one_bit a 3 (b * 4 + (c * 2 + d)) k h eight a_bit three_left eight_is
    ∙ ap (bit_xor (a * eight)) (one_bit b 2 (c * 2 + d) k h four b_bit two_left four_is
    ∙ ap (bit_xor (b * four)) (one_bit c 1 d k h two c_bit d_bit two_is
    ∙ ap (bit_xor (c * two)) (last_bit d k h one d_bit one_is))) in
    xor_assoc (bit_xor (a * eight) (b * four)) (c * two) (d * one)
    ∙ xor_assoc (a * eight) (b * four) (bit_xor (c * two) (d * one))
    ∙ sym split

-- u times a product is that with the number before it shifted by one
pub halved : (x y m h : ℕ) → x ≡ product (m * 2) h → y ≡ times_u x → m * 2 < 2 ^ 128 → y ≡ product m h
halved x y m h x_is y_is fits = y_is ∙ ap times_u x_is ∙ sym (product-double m h fits)

pub first_bit : (h : ℕ) → h < 2 ^ 128 → h ≡ product (8 * 2 ^ 124) h
first_bit h fits = sym (product-first h fits)
