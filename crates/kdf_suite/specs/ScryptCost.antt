-- The costs at which scrypt works here.
use Rattle.std.specs.Prelude.{ℕ, ◌*◌, ◌^◌, ◌<◌, ◌≤◌}
use Rattle.std.specs.Int.{IsPowerOfTwo}

-- the cost parameter N, the block size parameter r and the parallelization parameter p (RFC 7914,
-- section 2)
pub record Cost : Type 0 where
  pub n : ℕ
  pub r : ℕ
  pub p : ℕ

-- N is a power of two above 1 and below 2 ^ (128 r / 8), as the standard asks; the table has at most
-- 512 MiB, and there are at most 16 parts, of 16 MiB together
pub record IsCost (cost : Cost) : Type 0 where
  pub power_of_two : IsPowerOfTwo cost.n
  pub above_one : 2 ≤ cost.n
  pub below_limit : cost.n < 2 ^ (16 * cost.r)
  pub some_block : 1 ≤ cost.r
  pub table_fits : 128 * cost.n * cost.r ≤ 2 ^ 29
  pub some_part : 1 ≤ cost.p
  pub few_parts : cost.p ≤ 16
  pub parts_fit : 128 * cost.r * cost.p ≤ 2 ^ 24
