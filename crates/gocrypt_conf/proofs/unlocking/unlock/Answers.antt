use Rattle.std.proofs.Common.{◌≡◌, Err, sym, ap, ◌∙◌}
use Rattle.std.proofs.lemmas.Result.{err_from_is_err_and}
use Rattle.gocrypt_conf.specs.declared.fault.UnlockFault.TheVariants.{WrongPass}
use Rattle.gocrypt_conf.proofs.unlocking.unlock.Goals as goal

pub returns-in_err-master-clause-wrong_pass : goal.returns-in_err-master-clause-wrong_pass
returns-in_err-master-clause-wrong_pass c =
    let p = err_from_is_err_and c.from_residual.result c.from_residual.ensures.1 in
    λ wrong keys unlocks.
    let is : p.0 ≡ WrongPass = cc (sym p.1 ∙ wrong) in
    c.in_err-master.ensures.wrong_pass (ap Err (sym p.2 ∙ is)) unlocks.master unlocks.seals
