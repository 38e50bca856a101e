use Rattle.std.proofs.Common.{◌≡◌}
use Rattle.std.specs.List.{AllAdjacentBelow}
use Rattle.std.specs.declared.cmp.Ordering.TheVariants.{Less}
use Rattle.plain_tree.specs.Order.{path_cmp}
use Rattle.vault_spec.specs.Plan.{Planned}
use Rattle.tree_match.proofs.mapping.are_ascending.Given as goal

abbrev pub invariant-pairs : goal.invariant-pairs
invariant-pairs l = AllAdjacentBelow (λ (x y : Planned). path_cmp x.path y.path ≡ Less) l.items l.i
