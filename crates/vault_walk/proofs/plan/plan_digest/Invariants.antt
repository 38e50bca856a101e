use Rattle.std.proofs.Common.{take}
use Rattle.sha2.specs.Hashers.{Holds256}
use Rattle.vault_walk.specs.Digest.{plan_text}
use Rattle.vault_walk.proofs.plan.plan_digest.Given as goal

abbrev pub invariant-loop-item : goal.invariant-loop-item
invariant-loop-item l = Holds256 l.hasher (plan_text (take l.item-index l.item-items))
