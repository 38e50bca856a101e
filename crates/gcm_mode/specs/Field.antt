-- GF(2^128) in the bit order of GCM: NIST SP 800-38D, section 6.3.
-- A block is here a number of 128 bits, and stands for a polynomial in u: its first (highest) bit is
-- the coefficient of 1, its last the coefficient of u^127. A sum is `bit_xor`, and products are modulo
-- 1 + u + u^2 + u^7 + u^128.
use Rattle.std.specs.Prelude.{ℕ, zero, suc, ◌-◌, ◌*◌, ◌/◌, ◌%◌, ◌^◌, bit_xor}

-- the block R: the bits 11100001, then 120 zeros. It is u^128
abbrev pub reduction : ℕ
reduction = 0xe1 * 2 ^ 120

-- the coefficient of u^i in x: bit i of the block, counted from the left
unfoldable pub coefficient : ℕ → ℕ → ℕ
coefficient x i = x / 2 ^ (127 - i) % 2

-- u · v
unfoldable pub times_u : ℕ → ℕ
times_u v = bit_xor (v / 2) (v % 2 * reduction)

-- u^i · v
unfoldable pub times_power : ℕ → ℕ → ℕ
times_power zero v = v
times_power (suc i) v = times_u (times_power i v)

-- the sum of the first n terms of x, each times y
unfoldable pub terms : ℕ → ℕ → ℕ → ℕ
terms zero x y = 0
terms (suc i) x y = bit_xor (terms i x y) (coefficient x i * times_power i y)

-- the product x • y
unfoldable pub product : ℕ → ℕ → ℕ
product x y = terms 128 x y
