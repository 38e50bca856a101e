use Rattle.std.proofs.Common.{◌≡◌, drop}
use Rattle.vault_walk.specs.Survey.{IsOrdered}
use Rattle.tree_match.specs.Matching.{first_further}
use Rattle.tree_match.proofs.Merging.{Merges}
use Rattle.tree_match.proofs.matching.further.Given as goal

-- what was gone through is among the items
abbrev pub invariant-loop-other : goal.invariant-loop-other
invariant-loop-other l = IsOrdered l.items → IsOrdered l.others → record {
  merges : Merges (drop l.other-index l.others) l.items l.rest;
  same : first_further l.items l.others ≡ first_further l.items (drop l.other-index l.others);
}
