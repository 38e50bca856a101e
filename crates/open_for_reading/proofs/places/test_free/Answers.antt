use Rattle.std.proofs.Common.{sym, ◌∙◌}
use Rattle.std.proofs.lemmas.Result.{err_from_is_err_and}
use Rattle.open_for_reading.proofs.Looks.{kind_failed}
use Rattle.open_for_reading.proofs.places.test_free.Goals as goal

pub returns-in_err-kind-clause-failed : goal.returns-in_err-kind-clause-failed
returns-in_err-kind-clause-failed g c = λ is.
    let p = err_from_is_err_and c.from_residual-in_err-kind.result c.from_residual-in_err-kind.ensures.1 in
    let same = sym p.1 ∙ is in
    kind_failed (g.F.Folder.told c.args.folder.now) (g.F.Folder.faults c.args.folder.now) (g.F.Folder.faults c.kind.new.self) c.in_ok-above.above c.in_err-kind.field-0.0 p.0
    c.in_err-kind.ensures.answer c.in_err-kind.ensures.counts p.2 cc
