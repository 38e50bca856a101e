use Rattle.tree_match.proofs.MappedPlans.{refuses_first}
use Rattle.std.proofs.lemmas.Result.{err_from_is_err_and}
use Rattle.tree_match.proofs.mapping.mapped_items.Goals as goal

pub returns-in_err-new-clause-refused : goal.returns-in_err-new-clause-refused
returns-in_err-new-clause-refused c =
    let p = err_from_is_err_and c.from_residual.result c.from_residual.ensures.1 in
    rw (p.1, p.2)
    (refuses_first c.args.names c.args.items.now c.loop-item.item-index c.item-item.result c.loop-item-test.true c.item-item.is c.loop-item.invariant.named c.in_err-new.field-0.0 c.in_err-new.ensures.refused)
