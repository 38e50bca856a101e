use Rattle.std.proofs.Common.{◌≡◌, Bool, arith}
use Rattle.std.proofs.lemmas.Result.{err_from_is_err_and}
use Rattle.folder_spec.specs.declared.Kind.{Kind}
use Rattle.folder_spec.specs.View.{kind_found}
use Rattle.folder_model.proofs.Counting.{counts_at_fault}
use Rattle.vault_read.proofs.loading.is_file_below.Goals as goal

pub returns-in_err-kind-clause-counts : goal.returns-in_err-kind-clause-counts
returns-in_err-kind-clause-counts g c =
    let n0 = g.F.Folder.faults c.args.folder.now in
    let p = err_from_is_err_and c.from_residual-in_err-kind.result c.from_residual-in_err-kind.ensures.1 in
    rw (p.1, p.2)
    (counts_at_fault Kind Bool (g.F.Folder.told c.args.folder.now) n0 n0 (g.F.Folder.faults c.kind.new.self) (λ v. Unit {0}) (λ v kind. kind ≡ kind_found (v c.in_ok-path.path))
    c.in_err-kind.field-0.0 (omega arith) (λ v is. tt) c.in_err-kind.ensures.answer c.in_err-kind.ensures.counts)
