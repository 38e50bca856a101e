use Rattle.std.proofs.Common.{◌≡◌, Err, sym, ap, ◌∙◌}
use Rattle.std.proofs.lemmas.Result.{err_from_is_err_and}
use Rattle.cryptomator_conf.specs.declared.fault.UnlockFault.TheVariants.{WrongPass}
use Rattle.cryptomator_conf.proofs.making.rewrap.Goals as goal

pub returns-in_err-keys-clause-wrong_pass : goal.returns-in_err-keys-clause-wrong_pass
returns-in_err-keys-clause-wrong_pass c =
    let p = err_from_is_err_and c.from_residual.result c.from_residual.ensures.1 in
    λ wrong.
    let is : p.0 ≡ WrongPass = cc (sym p.1 ∙ wrong) in
    c.in_err-keys.ensures.wrong_pass (ap Err (sym p.2 ∙ is))
