use Rattle.std.proofs.lemmas.Result.{err_from_is_err_and}
use Rattle.vault_read.proofs.ListedOrder.{not_of_path}
use Rattle.vault_read.proofs.listing.items_in.Goals as goal

pub returns-in_err-found-clause-fault : goal.returns-in_err-found-clause-fault
returns-in_err-found-clause-fault g c =
    let p = err_from_is_err_and c.from_residual-in_err-found.result c.from_residual-in_err-found.ensures.1 in
    rw (p.1, p.2) (not_of_path c.in_err-found.field-0.0)
