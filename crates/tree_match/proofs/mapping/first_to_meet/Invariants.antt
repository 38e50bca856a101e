use Rattle.std.specs.BTreeMap.{get}
use Rattle.plain_tree.specs.Order.{path_cmp}
use Rattle.tree_match.proofs.MappedPlans.{Places}
use Rattle.tree_match.proofs.mapping.first_to_meet.Given as goal

-- each path so far stands at one place, which is kept
abbrev pub invariant-loop-place : goal.invariant-loop-place
invariant-loop-place l = Places l.items l.place (get path_cmp l.places)
