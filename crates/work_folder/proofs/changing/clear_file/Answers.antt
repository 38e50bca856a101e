use Rattle.std.proofs.Common.{◌≡◌, ◌≤◌, Ok, arith, refl, subst}
use Rattle.std.proofs.lemmas.Result.{err_from_is_err_and}
use Rattle.folder_spec.specs.declared.Kind.{Kind}
use Rattle.folder_spec.specs.Event.{RemoveFile}
use Rattle.folder_spec.specs.View.{NoEntry, kind_found}
use Rattle.folder_model.proofs.Counting.{never_falls, counts_after, counts_at_fault}
use Rattle.work_folder.specs.Changing.{Alters}
use Rattle.work_folder.proofs.Changed.{alters_call}
use Rattle.work_folder.proofs.Steps.{put_there, found_there, file_there}
use Rattle.work_folder.proofs.changing.clear_file.Goals as goal

pub returns-in_err-kind-clause-counts : goal.returns-in_err-kind-clause-counts
returns-in_err-kind-clause-counts g c =
    let n0 = g.F.Folder.faults c.args.folder.now in
    let p = err_from_is_err_and c.from_residual.result c.from_residual.ensures.1 in
    rw (p.1, p.2)
    (counts_at_fault Kind (Unit {0}) (g.F.Folder.told c.args.folder.now) n0 n0 (g.F.Folder.faults c.kind.new.self) (λ v. Unit {0}) (λ v kind. kind ≡ kind_found (v c.args.at.now))
    c.in_err-kind.field-0.0 (omega arith) (λ v is. tt) c.in_err-kind.ensures.answer c.in_err-kind.ensures.counts)

pub returns-in-File-clause-moments : goal.returns-in-File-clause-moments
returns-in-File-clause-moments g c =
    subst (λ t. Alters (λ q. ⊥) (λ q. q ≡ c.args.at.now) t (g.F.Folder.told c.remove_file.new.self)) c.in_ok-kind.ensures.told
    (alters_call (λ q. ⊥) (λ q. q ≡ c.args.at.now) (RemoveFile c.args.at.now) (g.F.Folder.told c.kind.new.self) (g.F.Folder.told c.remove_file.new.self) c.remove_file.result refl
    c.remove_file.ensures.changes)

pub returns-in-File-clause-gone : goal.returns-in-File-clause-gone
returns-in-File-clause-gone g c =
    put_there (RemoveFile c.args.at.now) c.args.at.now NoEntry (g.F.Folder.told c.kind.new.self) (g.F.Folder.told c.remove_file.new.self) c.remove_file.result
    (g.met.F.Folder.sound c.kind.new.self) (found_there c.args.at.now NoEntry) c.remove_file.ensures.changes

pub returns-in-File-clause-counts : goal.returns-in-File-clause-counts
returns-in-File-clause-counts g c =
    let t0 = g.F.Folder.told c.args.folder.now in
    let t1 = g.F.Folder.told c.kind.new.self in
    let n0 = g.F.Folder.faults c.args.folder.now in
    let n1 = g.F.Folder.faults c.kind.new.self in
    let first : n0 ≤ n1 = never_falls t0 n0 n1 (Ok c.in_ok-kind.field-0) c.in_ok-kind.ensures.counts in
    counts_after (RemoveFile c.args.at.now) t1 (g.F.Folder.told c.remove_file.new.self) n0 n1 (g.F.Folder.faults c.remove_file.new.self) c.remove_file.result first
    (file_there t0 t1 c.args.at.now c.in_ok-kind.field-0 c.in-File.is c.in_ok-kind.ensures.told c.in_ok-kind.ensures.answer) c.remove_file.ensures.changes
    c.remove_file.ensures.counts
