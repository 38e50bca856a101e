use Rattle.std.proofs.Common.{◌≡◌, ◌≤◌, Ok, arith, refl, subst}
use Rattle.std.proofs.lemmas.Result.{err_from_is_err_and}
use Rattle.folder_spec.specs.declared.Kind.{Kind}
use Rattle.folder_spec.specs.Event.{MakeDir}
use Rattle.folder_spec.specs.View.{Folder, kind_found}
use Rattle.folder_model.proofs.Counting.{never_falls, counts_after, counts_at_fault}
use Rattle.work_folder.specs.Changing.{Alters}
use Rattle.work_folder.proofs.Changed.{alters_call}
use Rattle.work_folder.proofs.Steps.{put_there, found_there, missing_free}
use Rattle.work_folder.proofs.changing.make_folder.Goals as goal

pub returns-in_err-kind-clause-counts : goal.returns-in_err-kind-clause-counts
returns-in_err-kind-clause-counts g c =
    let n0 = g.F.Folder.faults c.args.folder.now in
    let p = err_from_is_err_and c.from_residual.result c.from_residual.ensures.1 in
    rw (p.1, p.2)
    (counts_at_fault Kind (Unit {0}) (g.F.Folder.told c.args.folder.now) n0 n0 (g.F.Folder.faults c.kind.new.self) (λ v. Unit {0}) (λ v kind. kind ≡ kind_found (v c.args.at.now))
    c.in_err-kind.field-0.0 (omega arith) (λ v is. tt) c.in_err-kind.ensures.answer c.in_err-kind.ensures.counts)

pub returns-in-Missing-clause-moments : goal.returns-in-Missing-clause-moments
returns-in-Missing-clause-moments g c =
    subst (λ t. Alters (λ q. q ≡ c.args.at.now) (λ q. ⊥) t (g.F.Folder.told c.make_dir.new.self)) c.in_ok-kind.ensures.told
    (alters_call (λ q. q ≡ c.args.at.now) (λ q. ⊥) (MakeDir c.args.at.now) (g.F.Folder.told c.kind.new.self) (g.F.Folder.told c.make_dir.new.self) c.make_dir.result refl
    c.make_dir.ensures.changes)

pub returns-in-Missing-clause-there : goal.returns-in-Missing-clause-there
returns-in-Missing-clause-there g c =
    put_there (MakeDir c.args.at.now) c.args.at.now Folder (g.F.Folder.told c.kind.new.self) (g.F.Folder.told c.make_dir.new.self) c.make_dir.result
    (g.met.F.Folder.sound c.kind.new.self) (found_there c.args.at.now Folder) c.make_dir.ensures.changes

pub returns-in-Missing-clause-counts : goal.returns-in-Missing-clause-counts
returns-in-Missing-clause-counts g c =
    let t0 = g.F.Folder.told c.args.folder.now in
    let t1 = g.F.Folder.told c.kind.new.self in
    let n0 = g.F.Folder.faults c.args.folder.now in
    let n1 = g.F.Folder.faults c.kind.new.self in
    let first : n0 ≤ n1 = never_falls t0 n0 n1 (Ok c.in_ok-kind.field-0) c.in_ok-kind.ensures.counts in
    counts_after (MakeDir c.args.at.now) t1 (g.F.Folder.told c.make_dir.new.self) n0 n1 (g.F.Folder.faults c.make_dir.new.self) c.make_dir.result first
    (missing_free t0 t1 c.args.at.now c.in_ok-kind.field-0 c.in-Missing.is c.in_ok-kind.ensures.told c.in_ok-kind.ensures.answer c.requires) c.make_dir.ensures.changes
    c.make_dir.ensures.counts
