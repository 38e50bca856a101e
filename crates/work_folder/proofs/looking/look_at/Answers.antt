use Rattle.std.proofs.lemmas.Result.{err_from_is_err_and}
use Rattle.work_folder.specs.Looking.{TestsKind}
use Rattle.work_folder.proofs.Looks.{kind_fell}
use Rattle.work_folder.proofs.looking.look_at.Goals as goal

pub returns-in_err-kind : goal.returns-in_err-kind
returns-in_err-kind g c =
    let p = err_from_is_err_and c.from_residual.result c.from_residual.ensures.1 in
    rw (p.1, p.2)
    (kind_fell (λ v answer. TestsKind (v c.args.at.now) v c.args.at.now answer) c.args.at.now (g.F.Folder.told c.args.folder.now) (g.F.Folder.told c.kind.new.self)
    (g.F.Folder.faults c.args.folder.now) (g.F.Folder.faults c.kind.new.self) c.in_err-kind.field-0.0 c.in_err-kind.ensures.told c.in_err-kind.ensures.answer
    c.in_err-kind.ensures.counts)
