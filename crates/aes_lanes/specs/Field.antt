-- The field GF(2^8) and the S-box (FIPS 197, sections 4 and 5.1.1). A byte is a number below 256,
-- whose bits are the coefficients of a polynomial of degree below 8.
use Rattle.std.specs.Prelude.{ℕ, zero, suc, ◌*◌, ◌/◌, ◌%◌, bit_xor}
use Rattle.std.specs.Int.{w8, rotate_left}

-- x times the polynomial b, modulo x^8 + x^4 + x^3 + x + 1 (4.2)
unfoldable pub xtimes : ℕ → ℕ
xtimes b = bit_xor (b * 2 % 256) (b / 128 * 0x1b)

-- the polynomial a times the lowest n coefficients of b: the sum of b_i * x^i * a (4.2)
unfoldable pub partial_product : ℕ → ℕ → ℕ → ℕ
partial_product zero a b = 0
partial_product (suc n) a b = bit_xor (b % 2 * a) (partial_product n (xtimes a) (b / 2))

-- the product of two bytes (4.2)
unfoldable pub multiply : ℕ → ℕ → ℕ
multiply a b = partial_product 8 a b

-- b to the power n
unfoldable pub power : ℕ → ℕ → ℕ
power b zero = 1
power b (suc n) = multiply (power b n) b

-- the multiplicative inverse of b, where b isn't 0 (4.4): the power 254, since the power 255 of each byte
-- but 0 is 1. Of 0 it is 0, as SBOX wants it (5.1.1)
unfoldable pub inverse : ℕ → ℕ
inverse b = power b 254

-- the affine map, bit i of which is b_i + b_(i+4) + b_(i+5) + b_(i+6) + b_(i+7) + c_i with the bits
-- of 0x63 as c and places modulo 8 (5.1.1)
unfoldable pub affine_map : ℕ → ℕ
affine_map b = bit_xor (bit_xor (bit_xor (bit_xor (bit_xor b (rotate_left w8 b 4)) (rotate_left w8 b 3))
    (rotate_left w8 b 2)) (rotate_left w8 b 1)) 0x63

-- SBOX: the affine map of the inverse (5.1.1)
unfoldable pub sbox : ℕ → ℕ
sbox b = affine_map (inverse b)

-- the affine map backwards, bit i of which is b_(i+2) + b_(i+5) + b_(i+7) + d_i with the bits of
-- 0x05 as d and places modulo 8 (5.3.2)
unfoldable pub inverse_affine_map : ℕ → ℕ
inverse_affine_map b = bit_xor (bit_xor (bit_xor (rotate_left w8 b 6) (rotate_left w8 b 3)) (rotate_left w8 b 1)) 0x05

-- INVSBOX (5.3.2)
unfoldable pub inverse_sbox : ℕ → ℕ
inverse_sbox b = inverse (inverse_affine_map b)
