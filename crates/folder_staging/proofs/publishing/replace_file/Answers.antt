use Rattle.std.proofs.Common.{Err, sym, ap, ◌∙◌, subst}
use Rattle.std.proofs.lemmas.Result.{err_from_is_err_and}
use Rattle.folder_spec.specs.Event.{Rename}
use Rattle.folder_spec.proofs.Stages.{replacing_from, settling_from, settled_from}
use Rattle.folder_model.specs.Answers.{CountsAbove}
use Rattle.folder_model.proofs.Counting.{counts_after}
use Rattle.folder_staging.proofs.Exits.{staged_allowed, staged_renames, staged_renamed}
use Rattle.folder_staging.proofs.publishing.replace_file.Goals as goal

pub returns-in_err-stage_file-clause-moments : goal.returns-in_err-stage_file-clause-moments
returns-in_err-stage_file-clause-moments g c =
    replacing_from c.args.staged.now c.args.at.now c.args.bytes.now c.requires.apart.apart (g.F.Folder.told c.args.folder.now) (g.F.Folder.told c.stage_file.new.folder)
    (g.met.F.Folder.sound c.args.folder.now) c.stage_file.ensures.moments

pub returns-in_err-rename-clause-moments : goal.returns-in_err-rename-clause-moments
returns-in_err-rename-clause-moments g c =
    staged_renames c.args.staged.now c.args.at.now c.args.bytes.now (g.F.Folder.told c.args.folder.now) (g.F.Folder.told c.stage_file.new.folder) c.requires
    (g.met.F.Folder.sound c.args.folder.now) (g.met.F.Folder.sound c.stage_file.new.folder) c.in_ok-stage_file.ensures.moments c.in_ok-stage_file.ensures.written
    (g.F.Folder.told c.rename.new.self) (Err c.in_err-rename.field-0.0) c.in_err-rename.ensures.changes

pub returns-in_err-rename-clause-counts : goal.returns-in_err-rename-clause-counts
returns-in_err-rename-clause-counts g c =
    let p = err_from_is_err_and c.from_residual-in_err-rename.result c.from_residual-in_err-rename.ensures.1 in
    let n0 = g.F.Folder.faults c.args.folder.now in
    let n2 = g.F.Folder.faults c.rename.new.self in
    subst (CountsAbove {T = Unit {0}} n0 n2) (sym (p.1 ∙ ap Err p.2))
    (counts_after (Rename c.args.staged.now c.args.at.now) (g.F.Folder.told c.stage_file.new.folder) (g.F.Folder.told c.rename.new.self) n0
    (g.F.Folder.faults c.stage_file.new.folder) n2 (Err c.in_err-rename.field-0.0) c.in_ok-stage_file.ensures.counts
    (staged_allowed c.args.staged.now c.args.at.now c.args.bytes.now (g.F.Folder.told c.args.folder.now) (g.F.Folder.told c.stage_file.new.folder) c.requires
    (g.met.F.Folder.sound c.args.folder.now) (g.met.F.Folder.sound c.stage_file.new.folder) c.in_ok-stage_file.ensures.moments c.in_ok-stage_file.ensures.written)
    c.in_err-rename.ensures.changes c.in_err-rename.ensures.counts)

pub returns-clause-moments : goal.returns-clause-moments
returns-clause-moments g c =
    settling_from c.args.staged.now c.args.at.now c.args.bytes.now c.requires.apart.apart (g.F.Folder.told c.args.folder.now) (g.F.Folder.told c.rename.new.self)
    (g.F.Folder.told c.settle.new.self) c.settle.result
    (staged_renamed c.args.staged.now c.args.at.now c.args.bytes.now (g.F.Folder.told c.args.folder.now) (g.F.Folder.told c.stage_file.new.folder) c.requires
    (g.met.F.Folder.sound c.args.folder.now) (g.met.F.Folder.sound c.stage_file.new.folder) c.in_ok-stage_file.ensures.moments c.in_ok-stage_file.ensures.written
    (g.F.Folder.told c.rename.new.self) c.in_ok-rename.ensures.changes) c.settle.ensures.changes

pub returns-clause-replaced : goal.returns-clause-replaced
returns-clause-replaced g c =
    settled_from c.args.staged.now c.args.at.now c.args.bytes.now c.requires.apart.apart (g.F.Folder.told c.args.folder.now) (g.F.Folder.told c.rename.new.self)
    (g.F.Folder.told c.settle.new.self) c.settle.result
    (staged_renamed c.args.staged.now c.args.at.now c.args.bytes.now (g.F.Folder.told c.args.folder.now) (g.F.Folder.told c.stage_file.new.folder) c.requires
    (g.met.F.Folder.sound c.args.folder.now) (g.met.F.Folder.sound c.stage_file.new.folder) c.in_ok-stage_file.ensures.moments c.in_ok-stage_file.ensures.written
    (g.F.Folder.told c.rename.new.self) c.in_ok-rename.ensures.changes) c.settle.ensures.changes
