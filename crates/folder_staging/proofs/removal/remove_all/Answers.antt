use Rattle.std.proofs.lemmas.Result.{err_from_is_err_and}
use Rattle.folder_staging.specs.Removal.{from, deepest}
use Rattle.folder_staging.proofs.Removals.{kind_exit}
use Rattle.folder_staging.proofs.removal.remove_all.Goals as goal

pub returns-in_err-kind : goal.returns-in_err-kind
returns-in_err-kind g c =
    let p = err_from_is_err_and c.from_residual.result c.from_residual.ensures.1 in
    rw (p.1, p.2)
    (kind_exit (from c.args.at.now deepest) c.args.at.now (g.F.Folder.told c.args.folder.now) (g.F.Folder.told c.kind.new.self) (g.F.Folder.faults c.args.folder.now)
    (g.F.Folder.faults c.kind.new.self) c.in_err-kind.field-0.0 c.in_err-kind.ensures.told c.in_err-kind.ensures.answer c.in_err-kind.ensures.counts)
