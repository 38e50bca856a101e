use Rattle.std.proofs.Common.{Err, sym, ap, ◌∙◌, subst}
use Rattle.folder_staging.specs.Pieces.{Begins}
use Rattle.std.proofs.lemmas.Result.{err_from_is_err_and}
use Rattle.folder_spec.specs.Event.{Create}
use Rattle.folder_model.proofs.Counting.{counts_after}
use Rattle.folder_staging.proofs.Pieces.{begins_nothing, begins_from, free_allowed}
use Rattle.folder_staging.proofs.staging.begin_file.Goals as goal

pub returns-in_err-clear-clause-begun : goal.returns-in_err-clear-clause-begun
returns-in_err-clear-clause-begun g c =
    let p = err_from_is_err_and c.from_residual.result c.from_residual.ensures.1 in
    let t0 = g.F.Folder.told c.args.folder.now in
    let t1 = g.F.Folder.told c.clear.new.folder in
    subst (Begins c.args.at.now t0 t1) (sym (p.1 ∙ ap Err p.2)) (begins_nothing c.args.at.now t0 t1 c.in_err-clear.field-0.0 c.in_err-clear.ensures.moments)

pub returns-clause-begun : goal.returns-clause-begun
returns-clause-begun g c =
    begins_from c.args.at.now (g.F.Folder.told c.args.folder.now) (g.F.Folder.told c.clear.new.folder) (g.F.Folder.told c.create.new.self) c.create.result
    c.in_ok-clear.ensures.moments c.create.ensures.changes

pub returns-clause-counts : goal.returns-clause-counts
returns-clause-counts g c =
    let t0 = g.F.Folder.told c.args.folder.now in
    let t1 = g.F.Folder.told c.clear.new.folder in
    counts_after (Create c.args.at.now) t1 (g.F.Folder.told c.create.new.self) (g.F.Folder.faults c.args.folder.now) (g.F.Folder.faults c.clear.new.folder)
    (g.F.Folder.faults c.create.new.self) c.create.result c.in_ok-clear.ensures.counts (free_allowed c.args.at.now t0 t1 c.in_ok-clear.ensures.free)
    c.create.ensures.changes c.create.ensures.counts
