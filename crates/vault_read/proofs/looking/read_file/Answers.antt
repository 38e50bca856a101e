use Rattle.std.proofs.Common.{ℕ, arith}
use Rattle.std.proofs.lemmas.Result.{err_from_is_err_and}
use Rattle.folder_spec.specs.Seen.{ShowsFile}
use Rattle.folder_model.specs.Answers.{Reads}
use Rattle.folder_model.proofs.Counting.{counts_at_fault}
use Rattle.vault_read.specs.declared.looking.SmallFile.{SmallFile}
use Rattle.vault_read.proofs.looking.read_file.Goals as goal

pub returns-in_err-length-clause-counts : goal.returns-in_err-length-clause-counts
returns-in_err-length-clause-counts g c =
    let n0 = g.F.Folder.faults c.args.folder.now in
    let at = c.args.at.now in
    let p = err_from_is_err_and c.from_residual-in_err-length.result c.from_residual-in_err-length.ensures.1 in
    rw (p.1, p.2)
    (counts_at_fault ℕ SmallFile (g.F.Folder.told c.args.folder.now) n0 n0 (g.F.Folder.faults c.read.new.self) (λ v. ShowsFile v at)
    (λ v n. Reads (v at) 0 c.as_mut_slice.result.now c.read.new.out n) c.in_err-length.field-0.0 (omega arith) c.requires.file
    c.in_err-length.ensures.answer c.in_err-length.ensures.counts)
