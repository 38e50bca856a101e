use Rattle.std.proofs.lemmas.Result.{err_from_is_err_and}
use Rattle.std.proofs.Common.{List, ℕ}
use Rattle.work_folder.proofs.Restaged.{no_memory_restaged}
use Rattle.work_folder.proofs.work.Work.again.Goals as goal

pub returns-in_err-copy-clause-restages : goal.returns-in_err-copy-clause-restages
returns-in_err-copy-clause-restages g c =
    let p = err_from_is_err_and c.from_residual.result c.from_residual.ensures.1 in
    rw (p.1, p.2) (no_memory_restaged c.args.at.now (List (List ℕ)) (g.F.Folder.told c.args.folder.now) (g.F.Folder.faults c.args.folder.now))
