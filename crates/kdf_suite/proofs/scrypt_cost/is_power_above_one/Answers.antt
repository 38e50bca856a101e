use Rattle.std.proofs.Common.{◌∙◌, sym, arith}
use Rattle.std.proofs.lemmas.Bool.Decides.{nat_tests}
use Rattle.kdf_suite.proofs.PowerOfTwo.{power_from_test, test_from_power}
use Rattle.kdf_suite.proofs.scrypt_cost.is_power_above_one.Goals as goal

pub returns-then-is_power_of_two : goal.returns-then-is_power_of_two
returns-then-is_power_of_two c =
    let power = power_from_test c.args.n (sym c.is_power_of_two.ensures ∙ c.if-is_power_of_two.true) in
    (λ above. (power, grind (arith, nat_tests)), λ both. grind (arith, nat_tests))

pub returns-else-is_power_of_two : goal.returns-else-is_power_of_two
returns-else-is_power_of_two c =
    (λ test. grind (arith, nat_tests), λ both. c.is_power_of_two.ensures ∙ test_from_power c.args.n both.0)
