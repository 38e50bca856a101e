use Rattle.std.proofs.Common.{◌≡◌, take}
use Rattle.std.specs.List.{flat_map}
use Rattle.vault_walk.specs.Apart.{shared_in}
use Rattle.vault_walk.proofs.twice.shared.Given as goal

-- these are found of the items so far
abbrev pub invariant-loop-target : goal.invariant-loop-target
invariant-loop-target l = l.found.items ≡ flat_map (shared_in l.again) (take l.target-index l.targets)
