use Rattle.std.proofs.Common.{ℕ, arith}
use Rattle.std.proofs.lemmas.Result.{err_from_is_err_and}
use Rattle.folder_spec.specs.Seen.{ShowsFile}
use Rattle.folder_model.specs.Answers.{Reads}
use Rattle.folder_model.proofs.Counting.{counts_at_fault}
use Rattle.vault_read.proofs.StillToCome.{feeds_read, feeds_rest, read_short}
use Rattle.vault_read.proofs.reader.read_piece.Goals as goal

pub returns-in_err-count-clause-counts : goal.returns-in_err-count-clause-counts
returns-in_err-count-clause-counts g c =
    let n0 = g.F.Folder.faults c.args.folder.now in
    let at = c.args.at.now in
    let p = err_from_is_err_and c.from_residual.result c.from_residual.ensures.1 in
    rw (p.1, p.2)
    (counts_at_fault ℕ (Unit {0}) (g.F.Folder.told c.args.folder.now) n0 n0 (g.F.Folder.faults c.read.new.self) (λ v. ShowsFile v at)
    (λ v n. Reads (v at) c.args.taken.now c.args.piece.now c.read.new.out n) c.in_err-count.field-0.0 (omega arith) c.requires.file
    c.in_err-count.ensures.answer c.in_err-count.ensures.counts)

pub returns-then-count-piece-clause-reads : goal.returns-then-count-piece-clause-reads
returns-then-count-piece-clause-reads g c = λ v seen bytes file s.
    let n = c.in_ok-count.count in
    let reads = (c.in_ok-count.ensures.answer v seen).1 in
    let fed = feeds_read (v c.args.at.now) bytes c.args.piece.now c.read.new.out c.args.decoder.now c.feed.new.self c.args.taken.now n c.feed.result file reads s c.requires.taken c.requires.open
    (omega (arith, c.in_ok-count.ensures.within, c.read.auto.out)) c.requires.room c.requires.within c.feed.ensures.count c.feed.ensures.held in
    let short = read_short (v c.args.at.now) bytes c.args.piece.now c.read.new.out c.args.taken.now n file reads (omega (arith, c.if-count-piece.true, c.read.auto.out)) in
    feeds_rest bytes c.args.decoder.now c.feed.new.self c.end.new.self fed.0 c.end.ensures.told (omega (arith, short, fed.1))

pub returns-else-count-piece-clause-reads : goal.returns-else-count-piece-clause-reads
returns-else-count-piece-clause-reads g c = λ v seen bytes file s.
    (feeds_read (v c.args.at.now) bytes c.args.piece.now c.read.new.out c.args.decoder.now c.feed.new.self c.args.taken.now c.in_ok-count.count c.feed.result file (c.in_ok-count.ensures.answer v seen).1 s c.requires.taken c.requires.open
    (omega (arith, c.in_ok-count.ensures.within, c.read.auto.out)) c.requires.room c.requires.within c.feed.ensures.count c.feed.ensures.held).0
