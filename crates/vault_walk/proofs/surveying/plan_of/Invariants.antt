use Rattle.std.proofs.Common.{◌≡◌, map}
use Rattle.vault_walk.specs.Surveyed.{placed}
use Rattle.vault_walk.proofs.surveying.plan_of.Given as goal

-- the items so far are placed
abbrev pub invariant-loop-item : goal.invariant-loop-item
invariant-loop-item l = l.placed.items ≡ map (placed l.root) l.yielded
