use Rattle.std.proofs.Common.{◌≡◌, ℕ, Ok, length, sym, subst, arith}
use Rattle.std.proofs.lemmas.Result.{err_from_is_err_and}
use Rattle.move_journal.specs.declared.journal.JournalFault.TheVariants.{Failed}
use Rattle.folder_spec.specs.declared.Kind.{Kind}
use Rattle.folder_spec.specs.View.{kind_found}
use Rattle.folder_spec.specs.Seen.{IsSeen, ShowsFile}
use Rattle.folder_model.specs.Answers.{Reads}
use Rattle.folder_model.proofs.Counting.{never_falls, counts_at_fault}
use Rattle.move_journal.specs.Reading.{journal_bytes, fault_of}
use Rattle.move_journal.proofs.Readings.{fell_at, file_there, read_whole, read_too_large, grows_twice, parses_journals}
use Rattle.folder_staging.proofs.Blame.{risen_by}
use Rattle.move_journal.proofs.reading.read.Goals as goal

pub returns-in_err-length-clause-answer : goal.returns-in_err-length-clause-answer
returns-in_err-length-clause-answer g c v is =
    let p = err_from_is_err_and c.from_residual-in_err-length.result c.from_residual-in_err-length.ensures.1 in
    rw (p.1, p.2) (fell_at (journal_bytes v c.args.work.now) c.in_err-length.field-0.0)

pub returns-in_err-kind-clause-failed : goal.returns-in_err-kind-clause-failed
returns-in_err-kind-clause-failed g c is =
    let n0 = g.F.Folder.faults c.args.folder.now in
    let n1 = g.F.Folder.faults c.kind.new.self in
    let p = err_from_is_err_and c.from_residual-in_err-kind.result c.from_residual-in_err-kind.ensures.1 in
    let fault : fault_of c.in_err-kind.field-0.0 ≡ Failed = cc (p.1, p.2, is) in
    risen_by fault_of Failed (λ none. cc none) n0 n1 c.in_err-kind.field-0.0
    (counts_at_fault Kind (Unit {0}) (g.F.Folder.told c.args.folder.now) n0 n0 n1 (λ v. Unit {0}) (λ v kind. kind ≡ kind_found (v c.in_ok-at.at)) c.in_err-kind.field-0.0
    (omega arith) (λ v seen_. tt) c.in_err-kind.ensures.answer c.in_err-kind.ensures.counts) fault

pub returns-in_err-length-clause-failed : goal.returns-in_err-length-clause-failed
returns-in_err-length-clause-failed g c is =
    let t0 = g.F.Folder.told c.args.folder.now in
    let t1 = g.F.Folder.told c.kind.new.self in
    let n0 = g.F.Folder.faults c.args.folder.now in
    let n1 = g.F.Folder.faults c.kind.new.self in
    let n2 = g.F.Folder.faults c.read.new.self in
    let at = c.in_ok-at.at in
    let p = err_from_is_err_and c.from_residual-in_err-length.result c.from_residual-in_err-length.ensures.1 in
    let fault : fault_of c.in_err-length.field-0.0 ≡ Failed = cc (p.1, p.2, is) in
    risen_by fault_of Failed (λ none. cc none) n0 n2 c.in_err-length.field-0.0
    (counts_at_fault ℕ (Unit {0}) t1 n0 n1 n2 (λ v. ShowsFile v at) (λ v n. Reads (v at) 0 c.as_mut_slice-bytes.result.now c.read.new.out n) c.in_err-length.field-0.0
    (never_falls t0 n0 n1 (Ok c.in_ok-kind.field-0) c.in_ok-kind.ensures.counts)
    (λ v shown. file_there (v at) c.in_ok-kind.field-0 c.in-File.is (c.in_ok-kind.ensures.answer v (subst (λ t. IsSeen t v) c.in_ok-kind.ensures.told shown)).1)
    c.in_err-length.ensures.answer c.in_err-length.ensures.counts) fault

pub returns-then-length-gt65536-clause-answer : goal.returns-then-length-gt65536-clause-answer
returns-then-length-gt65536-clause-answer g c v is =
    let reads = c.in_ok-length.ensures.answer v (subst (λ t. IsSeen t v) (sym c.in_ok-kind.ensures.told) is) in
    rw (sym c.in_ok-at.ensures)
    (read_too_large (v c.in_ok-at.at) c.as_mut_slice-bytes.result.now c.read.new.out c.in_ok-length.length c.if-length-gt65536.true reads.1)

pub returns-clause-answer : goal.returns-clause-answer
returns-clause-answer g c v is =
    let size : length c.as_mut_slice-bytes.result.now ≡ 65537 = omega (arith, c.as_mut_slice-bytes.ensures.len, c.in_ok-buffer.ensures.len) in
    let reads = c.in_ok-length.ensures.answer v (subst (λ t. IsSeen t v) (sym c.in_ok-kind.ensures.told) is) in
    rw (sym c.in_ok-at.ensures)
    (read_whole (v c.in_ok-at.at) c.as_mut_slice-bytes.result.now c.read.new.out c.in_ok-length.length c.parse.result size c.if-length-gt65536.false reads.1 c.parse.ensures)

pub returns-in_err-length-clause-grows : goal.returns-in_err-length-clause-grows
returns-in_err-length-clause-grows g c =
    grows_twice (g.F.Folder.told c.args.folder.now) (g.F.Folder.told c.kind.new.self) (g.F.Folder.faults c.args.folder.now)
    (g.F.Folder.faults c.kind.new.self) (g.F.Folder.faults c.read.new.self) c.kind.result c.read.result c.kind.ensures.counts c.read.ensures.counts

pub returns-then-length-gt65536-clause-grows : goal.returns-then-length-gt65536-clause-grows
returns-then-length-gt65536-clause-grows g c =
    grows_twice (g.F.Folder.told c.args.folder.now) (g.F.Folder.told c.kind.new.self) (g.F.Folder.faults c.args.folder.now)
    (g.F.Folder.faults c.kind.new.self) (g.F.Folder.faults c.read.new.self) c.kind.result c.read.result c.kind.ensures.counts c.read.ensures.counts

pub returns-clause-grows : goal.returns-clause-grows
returns-clause-grows g c =
    grows_twice (g.F.Folder.told c.args.folder.now) (g.F.Folder.told c.kind.new.self) (g.F.Folder.faults c.args.folder.now)
    (g.F.Folder.faults c.kind.new.self) (g.F.Folder.faults c.read.new.self) c.kind.result c.read.result c.kind.ensures.counts c.read.ensures.counts

pub returns-clause-journal : goal.returns-clause-journal
returns-clause-journal g c = parses_journals _ c.parse.result c.parse.ensures
