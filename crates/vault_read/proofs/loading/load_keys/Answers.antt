use Rattle.std.proofs.Common.{◌≡◌, Err, arith}
use Rattle.std.proofs.lemmas.Result.{err_from_is_err_and}
use Rattle.folder_spec.specs.declared.Kind.{Kind}
use Rattle.folder_spec.specs.View.{kind_found}
use Rattle.folder_model.proofs.Counting.{counts_at_fault, never_falls}
use Rattle.vault_read.specs.declared.fault.LoadFault.TheVariants.{Failed}
use Rattle.vault_read.proofs.LoadingLemmas.{above_failed}
use Rattle.vault_read.specs.Loading.{of_folder}
use Rattle.vault_read.proofs.loading.load_keys.Goals as goal

pub returns-in_err-kind-clause-looks : goal.returns-in_err-kind-clause-looks
returns-in_err-kind-clause-looks g c =
    let p = err_from_is_err_and c.from_residual.result c.from_residual.ensures.1 in
    let t = g.F.Folder.told c.args.folder.now in
    let n0 = g.F.Folder.faults c.args.folder.now in
    let n1 = g.F.Folder.faults c.kind.new.self in
    let fault = c.in_err-kind.field-0.0 in
    record {
      told = c.in_err-kind.ensures.told;
      blames = record {
        grows = never_falls {T = Kind} t n0 n1 (Err fault) c.in_err-kind.ensures.counts;
        rose = rw (p.1, p.2)
            (λ is. above_failed Kind n0 n1 fault
            (counts_at_fault Kind Kind t n0 n0 n1 (λ v. Unit {0}) (λ v kind. kind ≡ kind_found (v c.args.root.now))
            fault (omega arith) (λ v is. tt) c.in_err-kind.ensures.answer c.in_err-kind.ensures.counts) (let same : of_folder fault ≡ Failed = cc is in same));
      };
    }
