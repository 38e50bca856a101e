-- The cost of scrypt in new vaults.
use Rattle.std.proofs.Common.{refl, arith}
use Rattle.kdf_suite.specs.ScryptCost.{IsCost}

pub go_cost_is_cost : IsCost (record { n = 65536; r = 8; p = 1 })
go_cost_is_cost = record { power_of_two = (16, refl); above_one = omega arith; below_limit = omega arith; some_block = omega arith; table_fits = omega arith; some_part = omega arith; few_parts = omega arith; parts_fit = omega arith }

pub cm_cost_is_cost : IsCost (record { n = 32768; r = 8; p = 1 })
cm_cost_is_cost = record { power_of_two = (15, refl); above_one = omega arith; below_limit = omega arith; some_block = omega arith; table_fits = omega arith; some_part = omega arith; few_parts = omega arith; parts_fit = omega arith }
