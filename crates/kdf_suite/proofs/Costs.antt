-- The costs of scrypt, from the tests that they pass.
use Rattle.std.proofs.Common.{ℕ, ◌*◌, ◌^◌, ◌<◌, ◌≤◌, ◌⊎◌, inl, inr, arith}
use Rattle.std.proofs.Math.Nat.{mul-le-mul_left}
use Rattle.std.proofs.Math.Pow.{pow_mono}
use Rattle.std.specs.Int.{IsPowerOfTwo}
use Rattle.kdf_suite.specs.ScryptCost.{IsCost}

-- from r = 2 on the table's limit is below the other limit on n
below_limit : (n r : ℕ) → 1 ≤ r → n * r ≤ 4194304 → (2 ≤ r) ⊎ (n < 65536) → n < 2 ^ (16 * r)
below_limit n r some fits (inl two) =
    let low : 32 ≤ 16 * r = omega arith in
    omega (arith, pow_mono low, mul-le-mul_left {m = 1} {n = r} n some)
below_limit n r some fits (inr short) =
    let low : 16 ≤ 16 * r = omega arith in
    omega (arith, pow_mono low)

-- numbers that pass the tests are a cost
pub IsCost-from_tests : (n r p : ℕ) → IsPowerOfTwo n → 2 ≤ n → 1 ≤ r → 1 ≤ p → p ≤ 16 → (2 ≤ r) ⊎ (n < 65536) → n * r ≤ 4194304 → r * p ≤ 131072 → IsCost (record { n = n; r = r; p = p })
IsCost-from_tests n r p power two block part few below table parts = record {
  power_of_two = power;
  above_one = two;
  below_limit = below_limit n r block table below;
  some_block = block;
  table_fits = omega arith;
  some_part = part;
  few_parts = few;
  parts_fit = omega arith;
}
