use Rattle.std.proofs.Common.{rules}
use Rattle.std.proofs.lemmas.List.Sorted.{answers_always}
use Rattle.std.specs.Ordering.{is_lt}
use Rattle.vault_check.specs.Orders.{finding_cmp}
use Rattle.vault_check.proofs.FindingOrders.{finding_weak, sorted_findings}
use Rattle.vault_check.proofs.order.findings_in_order.Goals as goal

pub returns-clause-ordered : goal.returns-clause-ordered
returns-clause-ordered c = λ different.
    sorted_findings _ _ c.sort_unstable_by.ensures.permutation
    (c.sort_unstable_by.ensures.sorted (λ x y. is_lt (finding_cmp x y)) finding_weak (answers_always _ _ _ (λ f a r g h. search rules))) different
