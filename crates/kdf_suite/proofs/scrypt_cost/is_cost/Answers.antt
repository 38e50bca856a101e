use Rattle.std.proofs.Common.{◌⊎◌, ◌*◌, ◌<◌, ◌≤◌, inl, inr, refl, arith}
use Rattle.std.proofs.lemmas.Bool.Decides.{nat_tests}
use Rattle.kdf_suite.proofs.Costs.{IsCost-from_tests}
use Rattle.kdf_suite.proofs.scrypt_cost.is_cost.Goals as goal
use Rattle.kdf_suite.proofs.scrypt_cost.is_cost.Goals.{else-r-lt2-via-else-r-lt2, else-r-lt2-via-then-r-lt2+else-n}

pub returns : goal.returns
returns c =
    let below : (2 ≤ c.args.r) ⊎ (c.args.n < 65536) =
    elim c.else-r-lt2.branch [
      | else-r-lt2-via-then-r-lt2+else-n w ↦ inr (omega arith)
      | else-r-lt2-via-else-r-lt2 w ↦ inl (omega arith)
    ] in
    let power = c.if-not-is_power_above_one.ensures.0 refl in (
      λ test.
          let parts : c.args.r * c.args.p ≤ 131072 = grind (arith, nat_tests) in
          IsCost-from_tests c.args.n c.args.r c.args.p power.0 power.1 (omega arith) (omega arith) (omega arith) below (omega arith) parts,
      λ cost.
          let parts : c.args.r * c.args.p ≤ 131072 = omega (arith, cost.parts_fit) in
          grind (arith, nat_tests),
    )
