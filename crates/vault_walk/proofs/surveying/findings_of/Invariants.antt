use Rattle.std.proofs.Common.{◌≡◌, take}
use Rattle.vault_walk.specs.Surveyed.{findings_behind}
use Rattle.vault_walk.proofs.surveying.findings_of.Given as goal

-- these are the findings of those so far
abbrev pub invariant-loop-one : goal.invariant-loop-one
invariant-loop-one l = l.findings.items ≡ findings_behind l.root (take l.one-index l.found)
