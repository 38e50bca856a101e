use Rattle.std.proofs.Common.{◌≡◌, ◌≤◌, [], Ok, arith}
use Rattle.std.proofs.lemmas.Result.{err_from_is_err_and}
use Rattle.folder_spec.specs.declared.Kind.{Kind}
use Rattle.folder_spec.specs.Event.{RemoveFile}
use Rattle.folder_spec.specs.View.{kind_found}
use Rattle.folder_spec.proofs.Tellings.{from_to_same}
use Rattle.folder_model.proofs.Counting.{never_falls, counts_after, counts_at_fault}
use Rattle.folder_staging.proofs.Exits.{found_file, found_free}
use Rattle.folder_spec.proofs.Stages.{Staging, staging_none, removing_from, freed_from}
use Rattle.folder_staging.proofs.staging.clear.Goals as goal

pub returns-in-File-clause-moments : goal.returns-in-File-clause-moments
returns-in-File-clause-moments g c =
    removing_from [] c.args.at.now (g.F.Folder.told c.args.folder.now) (g.F.Folder.told c.kind.new.self) (g.F.Folder.told c.remove_file.new.self)
    c.remove_file.result c.in_ok-kind.ensures.told c.remove_file.ensures.changes

pub returns-in-File-clause-free : goal.returns-in-File-clause-free
returns-in-File-clause-free g c =
    freed_from [] c.args.at.now (g.F.Folder.told c.args.folder.now) (g.F.Folder.told c.kind.new.self) (g.F.Folder.told c.remove_file.new.self)
    c.remove_file.result c.requires.below_base (g.met.F.Folder.sound c.args.folder.now) c.in_ok-kind.ensures.told c.remove_file.ensures.changes

pub returns-in_err-kind-clause-moments : goal.returns-in_err-kind-clause-moments
returns-in_err-kind-clause-moments g c =
    from_to_same (Staging [] c.args.at.now) (g.F.Folder.told c.args.folder.now) (g.F.Folder.told c.kind.new.self) c.in_err-kind.ensures.told
    (staging_none [] c.args.at.now)

pub returns-in_default-clause-moments : goal.returns-in_default-clause-moments
returns-in_default-clause-moments g c =
    from_to_same (Staging [] c.args.at.now) (g.F.Folder.told c.args.folder.now) (g.F.Folder.told c.kind.new.self) c.in_ok-kind.ensures.told
    (staging_none [] c.args.at.now)

pub returns-in_err-kind-clause-counts : goal.returns-in_err-kind-clause-counts
returns-in_err-kind-clause-counts g c =
    let n0 = g.F.Folder.faults c.args.folder.now in
    let p = err_from_is_err_and c.from_residual.result c.from_residual.ensures.1 in
    rw (p.1, p.2)
    (counts_at_fault Kind (Unit {0}) (g.F.Folder.told c.args.folder.now) n0 n0 (g.F.Folder.faults c.kind.new.self) (λ v. Unit {0}) (λ v kind. kind ≡ kind_found (v c.args.at.now))
    c.in_err-kind.field-0.0 (omega arith) (λ v is. tt) c.in_err-kind.ensures.answer c.in_err-kind.ensures.counts)

pub returns-in-File-clause-counts : goal.returns-in-File-clause-counts
returns-in-File-clause-counts g c =
    let t0 = g.F.Folder.told c.args.folder.now in
    let t1 = g.F.Folder.told c.kind.new.self in
    let n0 = g.F.Folder.faults c.args.folder.now in
    let n1 = g.F.Folder.faults c.kind.new.self in
    let first : n0 ≤ n1 = never_falls t0 n0 n1 (Ok c.in_ok-kind.field-0) c.in_ok-kind.ensures.counts in
    counts_after (RemoveFile c.args.at.now) t1 (g.F.Folder.told c.remove_file.new.self) n0 n1 (g.F.Folder.faults c.remove_file.new.self) c.remove_file.result first
    (found_file t0 t1 c.args.at.now c.in_ok-kind.field-0 c.in-File.is c.in_ok-kind.ensures.told c.in_ok-kind.ensures.answer) c.remove_file.ensures.changes
    c.remove_file.ensures.counts

pub returns-in_default-clause-free : goal.returns-in_default-clause-free
returns-in_default-clause-free g c =
    found_free (g.F.Folder.told c.args.folder.now) (g.F.Folder.told c.kind.new.self) c.args.at.now c.in_ok-kind.field-0 c.in_default.not-File
    c.in_ok-kind.ensures.told c.in_ok-kind.ensures.answer c.requires.place
