use Rattle.std.specs.Cmp.Lexicographic.{lists_equiv, lists_ties, lists_total, nat_list_cmp_total, nat_list_eq_equiv, texts_ties}
use Rattle.std.proofs.lemmas.Map.Keys.{Less-from_sorted}
use Rattle.folder_model.specs.Order.{part_cmp, path_cmp}
use Rattle.folder_spec.proofs.Paths.{path_eq-Decides}
use Rattle.vault_walk.proofs.InOrder.{rising, same}
use Rattle.vault_check.proofs.order.paths_in_order.Goals as goal

pub returns-clause-ordered : goal.returns-clause-ordered
returns-clause-ordered c = λ i j d less within.
    Less-from_sorted path_cmp _ i j d (rising (lists_total nat_list_cmp_total) (lists_ties part_cmp texts_ties) _ _ c.sort_unstable.ensures.sorted c.dedup.ensures.filtered) less within

pub returns-clause-same : goal.returns-clause-same
returns-clause-same c =
    same (lists_equiv nat_list_eq_equiv) (λ x y is. (path_eq-Decides x y).0 is) _ _ _ c.sort_unstable.ensures.permutation c.dedup.ensures.filtered
