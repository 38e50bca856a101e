use Rattle.std.proofs.Common.{sym, ap, ◌∙◌, subst, List}
use Rattle.std.specs.List.{flat_map}
use Rattle.vault_walk.specs.Apart.{AreShared, IsMetAgain, shared_in}
use Rattle.vault_walk.specs.declared.twice.Target.{Target}
use Rattle.vault_walk.proofs.Shared.{Holds, are_shared, are_twice, one_target, sorted_apart}
use Rattle.vault_walk.proofs.twice.found_twice.Goals as goal

pub in_order-targets-requires : goal.in_order-targets-requires
in_order-targets-requires c = record { exact = one_target }

pub returns-clause-shared : goal.returns-clause-shared
returns-clause-shared c =
    let sorted : List Target = c.in_order-targets.result.items in
    let again = c.in_ok-again.again in
    let holds : Holds again (IsMetAgain sorted) = subst (λ ts. Holds again (IsMetAgain ts)) c.as_slice.ensures.value c.in_ok-again.ensures in
    subst (AreShared c.args.targets.items) (sym (c.in_ok-found.ensures ∙ ap (flat_map (shared_in again)) c.as_slice-2.ensures.value))
    (are_shared c.args.targets.items sorted c.in_order-targets.ensures.same (sorted_apart sorted c.in_order-targets.ensures.ordered) again holds)

pub returns-clause-twice : goal.returns-clause-twice
returns-clause-twice c f v are = are_twice f v c.args.targets.items c.in_ok-found.found.items are (returns-clause-shared c)
