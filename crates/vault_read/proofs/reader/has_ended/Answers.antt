use Rattle.std.proofs.Common.{◌≤◌, ◌+◌, ℕ, Bool, [], ◌∷◌, length, arith}
use Rattle.std.proofs.lemmas.Result.{err_from_is_err_and}
use Rattle.folder_spec.specs.Seen.{ShowsFile}
use Rattle.folder_model.specs.Answers.{Reads}
use Rattle.folder_model.proofs.Counting.{counts_at_fault}
use Rattle.vault_read.proofs.StillToCome.{read_short, feeds_end}
use Rattle.vault_read.proofs.reader.has_ended.Goals as goal

pub returns-in_err-read-clause-counts : goal.returns-in_err-read-clause-counts
returns-in_err-read-clause-counts g c =
    let n0 = g.F.Folder.faults c.args.folder.now in
    let at = c.args.at.now in
    let p = err_from_is_err_and c.from_residual.result c.from_residual.ensures.1 in
    rw (p.1, p.2)
    (counts_at_fault ℕ Bool (g.F.Folder.told c.args.folder.now) n0 n0 (g.F.Folder.faults c.read.new.self) (λ v. ShowsFile v at)
    (λ v n. Reads (v at) c.args.taken (0 ∷ []) c.read.new.out n) c.in_err-read.field-0.0 (omega arith) c.requires.file
    c.in_err-read.ensures.answer c.in_err-read.ensures.counts)

pub returns-clause-reads : goal.returns-clause-reads
returns-clause-reads g c = λ v seen bytes file s.
    let n = c.in_ok-read.field-0 in
    let none : length bytes ≤ c.args.taken + n =
    read_short (v c.args.at.now) bytes (0 ∷ []) c.read.new.out c.args.taken n file (c.in_ok-read.ensures.answer v seen).1 (omega (arith, c.if-branch-gt0.false)) in
    feeds_end bytes c.args.decoder.now c.end.new.self c.end.ensures.told s (omega (arith, none, c.if-branch-gt0.false, c.requires.taken))
