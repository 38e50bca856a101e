use Rattle.std.proofs.Common.{◌≡◌, ◌∙◌, ap, sym, Ok, Err, arith, subst}
use Rattle.std.proofs.lemmas.Result.{err_from_is_err_and}
use Rattle.folder_spec.specs.declared.Kind.{Kind}
use Rattle.folder_spec.specs.Event.{MakeDir, Changes}
use Rattle.folder_spec.specs.View.{kind_found}
use Rattle.folder_model.proofs.Counting.{never_falls, counts_at_fault}
use Rattle.folder_staging.specs.Removal.{Removes, below_only, deepest}
use Rattle.work_folder.specs.Entries.{stage_path}
use Rattle.work_folder.proofs.Restaged.{is_folder, is_free, nothing_restaged, no_memory_restaged, removal_fell, removal_done, make_fell, make_done}
use Rattle.work_folder.proofs.changing.restage.Goals as goal

pub returns-in_err-stage : goal.returns-in_err-stage
returns-in_err-stage g c =
    let p = err_from_is_err_and c.from_residual.result c.from_residual.ensures.1 in
    rw (p.1, p.2) (no_memory_restaged c.args.at.now (Unit {0}) (g.F.Folder.told c.args.folder.now) (g.F.Folder.faults c.args.folder.now))

pub returns-in_err-kind : goal.returns-in_err-kind
returns-in_err-kind g c =
    let t0 = g.F.Folder.told c.args.folder.now in
    let n0 = g.F.Folder.faults c.args.folder.now in
    let n1 = g.F.Folder.faults c.kind.new.self in
    let p = err_from_is_err_and c.from_residual-in_err-kind.result c.from_residual-in_err-kind.ensures.1 in
    let fault = c.in_err-kind.field-0.0 in
    rw (p.1, p.2)
    (nothing_restaged c.args.at.now t0 (g.F.Folder.told c.kind.new.self) n0 n1 fault c.in_err-kind.ensures.told
    (counts_at_fault Kind (Unit {0}) t0 n0 n0 n1 (λ v. Unit {0}) (λ v kind. kind ≡ kind_found (v c.in_ok-stage.stage)) fault (omega arith) (λ v is. tt)
    c.in_err-kind.ensures.answer c.in_err-kind.ensures.counts)
    (never_falls {T = Kind} t0 n0 n1 (Err fault) c.in_err-kind.ensures.counts))

pub returns-in_err-remove_below-in-Dir : goal.returns-in_err-remove_below-in-Dir
returns-in_err-remove_below-in-Dir g c =
    let t0 = g.F.Folder.told c.args.folder.now in
    let t1 = g.F.Folder.told c.kind.new.self in
    let t2 = g.F.Folder.told c.remove_below.new.folder in
    let n0 = g.F.Folder.faults c.args.folder.now in
    let n1 = g.F.Folder.faults c.kind.new.self in
    let n2 = g.F.Folder.faults c.remove_below.new.folder in
    let p = err_from_is_err_and c.from_residual-in_err-remove_below-in-Dir.result c.from_residual-in_err-remove_below-in-Dir.ensures.1 in
    let fault = c.in_err-remove_below-in-Dir.field-0.0 in
    rw (p.1, p.2)
    (removal_fell c.args.at.now t0 t1 t2 n0 n1 n2 c.in_ok-kind.ensures.told (never_falls t0 n0 n1 (Ok c.in_ok-kind.field-0) c.in_ok-kind.ensures.counts) fault
    (subst (λ q. Removes (below_only q deepest) t1 t2 n1 n2 (Err fault)) c.in_ok-stage.ensures c.in_err-remove_below-in-Dir.ensures))

pub returns-in-Dir : goal.returns-in-Dir
returns-in-Dir g c =
    let t0 = g.F.Folder.told c.args.folder.now in
    let t1 = g.F.Folder.told c.kind.new.self in
    let t2 = g.F.Folder.told c.remove_below.new.folder in
    let n0 = g.F.Folder.faults c.args.folder.now in
    let n1 = g.F.Folder.faults c.kind.new.self in
    let n2 = g.F.Folder.faults c.remove_below.new.folder in
    removal_done c.args.at.now t0 t1 t2 n0 n1 n2 c.in_ok-kind.ensures.told (never_falls t0 n0 n1 (Ok c.in_ok-kind.field-0) c.in_ok-kind.ensures.counts)
    c.requires.folder
    (λ v is. ap v (sym c.in_ok-stage.ensures) ∙ is_folder (v c.in_ok-stage.stage) c.in_ok-kind.field-0 c.in-Dir.is (c.in_ok-kind.ensures.answer v is).1)
    (subst (λ q. Removes (below_only q deepest) t1 t2 n1 n2 (Ok tt)) c.in_ok-stage.ensures c.in_ok-remove_below-in-Dir.ensures)

pub returns-in_err-make_dir-in_default : goal.returns-in_err-make_dir-in_default
returns-in_err-make_dir-in_default g c =
    let t0 = g.F.Folder.told c.args.folder.now in
    let t1 = g.F.Folder.told c.kind.new.self in
    let t2 = g.F.Folder.told c.make_dir.new.self in
    let n0 = g.F.Folder.faults c.args.folder.now in
    let n1 = g.F.Folder.faults c.kind.new.self in
    let n2 = g.F.Folder.faults c.make_dir.new.self in
    let p = err_from_is_err_and c.from_residual-in_err-make_dir-in_default.result c.from_residual-in_err-make_dir-in_default.ensures.1 in
    let fault = c.in_err-make_dir-in_default.field-0.0 in
    rw (p.1, p.2)
    (make_fell c.args.at.now t0 t1 t2 n0 n1 n2 c.in_ok-kind.ensures.told (never_falls t0 n0 n1 (Ok c.in_ok-kind.field-0) c.in_ok-kind.ensures.counts) c.requires.folder
    (λ v is. is_free (v (stage_path c.args.at.now)) c.in_ok-kind.field-0 c.in_default.not-Dir
    ((c.in_ok-kind.ensures.answer v is).1 ∙ ap (λ q. kind_found (v q)) c.in_ok-stage.ensures) (c.requires.stage v is))
    (g.met.F.Folder.sound c.kind.new.self) fault
    (subst (λ q. Changes (MakeDir q) t1 t2 (Err fault)) c.in_ok-stage.ensures c.in_err-make_dir-in_default.ensures.changes)
    c.in_err-make_dir-in_default.ensures.counts)

pub returns : goal.returns
returns g c =
    let t0 = g.F.Folder.told c.args.folder.now in
    let t1 = g.F.Folder.told c.kind.new.self in
    let t2 = g.F.Folder.told c.make_dir.new.self in
    let n0 = g.F.Folder.faults c.args.folder.now in
    let n1 = g.F.Folder.faults c.kind.new.self in
    let n2 = g.F.Folder.faults c.make_dir.new.self in
    make_done c.args.at.now t0 t1 t2 n0 n1 n2 c.in_ok-kind.ensures.told (never_falls t0 n0 n1 (Ok c.in_ok-kind.field-0) c.in_ok-kind.ensures.counts) c.requires.folder
    (λ v is. is_free (v (stage_path c.args.at.now)) c.in_ok-kind.field-0 c.in_default.not-Dir
    ((c.in_ok-kind.ensures.answer v is).1 ∙ ap (λ q. kind_found (v q)) c.in_ok-stage.ensures) (c.requires.stage v is))
    (g.met.F.Folder.sound c.kind.new.self)
    (subst (λ q. Changes (MakeDir q) t1 t2 (Ok tt)) c.in_ok-stage.ensures c.in_ok-make_dir-in_default.ensures.changes)
    c.in_ok-make_dir-in_default.ensures.counts
