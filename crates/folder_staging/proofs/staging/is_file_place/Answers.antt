use Rattle.std.proofs.Common.{◌≡◌, ◌≤◌, arith, Ok, Bool}
use Rattle.std.proofs.lemmas.Result.{err_from_is_err_and}
use Rattle.folder_spec.specs.declared.Kind.{Kind}
use Rattle.folder_spec.specs.View.{kind_found}
use Rattle.folder_model.proofs.Counting.{never_falls, counts_at_fault}
use Rattle.folder_staging.proofs.staging.is_file_place.Goals as goal

pub returns-in_err-kind-clause-counts : goal.returns-in_err-kind-clause-counts
returns-in_err-kind-clause-counts g c =
    let n0 = g.F.Folder.faults c.args.folder.now in
    let p = err_from_is_err_and c.from_residual.result c.from_residual.ensures.1 in
    rw (p.1, p.2)
    (counts_at_fault Kind Bool (g.F.Folder.told c.args.folder.now) n0 n0 (g.F.Folder.faults c.kind.new.self) (λ v. Unit {0}) (λ v kind. kind ≡ kind_found (v c.args.at.now))
    c.in_err-kind.field-0.0 (omega arith) (λ v is. tt) c.in_err-kind.ensures.answer c.in_err-kind.ensures.counts)

pub returns-in_err-kind-in-Missing-clause-counts : goal.returns-in_err-kind-in-Missing-clause-counts
returns-in_err-kind-in-Missing-clause-counts g c =
    let n0 = g.F.Folder.faults c.args.folder.now in
    let n1 = g.F.Folder.faults c.kind.new.self in
    let p = err_from_is_err_and c.from_residual-in_err-kind-in-Missing.result c.from_residual-in_err-kind-in-Missing.ensures.1 in
    let first : n0 ≤ n1 = never_falls (g.F.Folder.told c.args.folder.now) n0 n1 (Ok c.in_ok-kind.field-0) c.in_ok-kind.ensures.counts in
    rw (p.1, p.2)
    (counts_at_fault Kind Bool (g.F.Folder.told c.kind.new.self) n0 n1 (g.F.Folder.faults c.kind-in-Missing.new.self) (λ v. Unit {0})
    (λ v kind. kind ≡ kind_found (v c.in_ok-above-in-Missing.above))
    c.in_err-kind-in-Missing.field-0.0 first (λ v is. tt) c.in_err-kind-in-Missing.ensures.answer c.in_err-kind-in-Missing.ensures.counts)
