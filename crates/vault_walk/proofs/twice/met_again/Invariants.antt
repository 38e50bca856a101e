use Rattle.std.proofs.Common.{take}
use Rattle.vault_walk.specs.Apart.{IsMet, IsMetAgain}
use Rattle.vault_walk.proofs.Shared.{Holds}
use Rattle.vault_walk.proofs.twice.met_again.Given as goal

-- these were met among the items so far, and these again
abbrev pub invariant-loop-target : goal.invariant-loop-target
invariant-loop-target l = record {
  met : Holds l.once (IsMet (take l.target-index l.targets));
  again : Holds l.again (IsMetAgain (take l.target-index l.targets));
}
