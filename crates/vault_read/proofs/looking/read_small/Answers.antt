use Rattle.std.proofs.Common.{◌≡◌, arith}
use Rattle.std.proofs.lemmas.Result.{err_from_is_err_and}
use Rattle.folder_spec.specs.declared.Kind.{Kind}
use Rattle.folder_spec.specs.View.{kind_found}
use Rattle.folder_model.proofs.Counting.{counts_at_fault}
use Rattle.vault_read.specs.declared.looking.SmallFile.{SmallFile}
use Rattle.vault_read.proofs.looking.read_small.Goals as goal

pub returns-in_err-kind-clause-counts : goal.returns-in_err-kind-clause-counts
returns-in_err-kind-clause-counts g c =
    let n0 = g.F.Folder.faults c.args.folder.now in
    let p = err_from_is_err_and c.from_residual.result c.from_residual.ensures.1 in
    rw (p.1, p.2)
    (counts_at_fault Kind SmallFile (g.F.Folder.told c.args.folder.now) n0 n0 (g.F.Folder.faults c.kind.new.self) (λ v. Unit {0}) (λ v kind. kind ≡ kind_found (v c.args.at.now))
    c.in_err-kind.field-0.0 (omega arith) (λ v is. tt) c.in_err-kind.ensures.answer c.in_err-kind.ensures.counts)
