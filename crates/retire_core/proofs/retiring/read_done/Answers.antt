use Rattle.migration_sides.proofs.Chains.{refused_as, then_passes, then_refused}
use Rattle.retire_core.specs.Causes.{ReadsDone, TestsPhase, Unless}
use Rattle.retire_core.specs.Faults.{of_journal}
use Rattle.std.proofs.Common.{Err, Ok, inr, refl, subst, sym}
use Rattle.move_journal.specs.Reading.{ReadsAs, journal_bytes}
use Rattle.move_journal.specs.declared.journal.Journal.{Journal}
use Rattle.move_journal.proofs.Standing.{read_stands}
use Rattle.retire_core.specs.declared.fault.RetireFault.TheVariants.{Failed, NoMemory, Unfinished}
use Rattle.retire_core.proofs.retiring.read_done.Goals as goal

pub returns-in_err-journal-clause-cause : goal.returns-in_err-journal-clause-cause
returns-in_err-journal-clause-cause g c v seen =
    refused_as (λ answer. Unless answer (ReadsDone c.args.work.now v answer)) c.from_residual.result c.from_residual.ensures.1
    (then_refused Failed NoMemory of_journal (ReadsAs (journal_bytes v c.args.work.now)) (λ (journal : Journal). TestsPhase journal journal.phase) c.in_err-journal.field-0.0 (c.in_err-journal.ensures.answer v seen))

pub returns-in-Building-clause-cause : goal.returns-in-Building-clause-cause
returns-in-Building-clause-cause g c v seen =
    let read = c.in_ok-journal.journal in
    then_passes Failed NoMemory of_journal (ReadsAs (journal_bytes v c.args.work.now)) (λ (journal : Journal). TestsPhase journal journal.phase) (Err Unfinished) read (c.in_ok-journal.ensures.answer v seen)
    (inr (inr (subst (λ p. TestsPhase read p (Err Unfinished)) (sym c.in-Building.is) refl)))

pub returns-in-Done-clause-cause : goal.returns-in-Done-clause-cause
returns-in-Done-clause-cause g c v seen =
    let read = c.in_ok-journal.journal in
    then_passes Failed NoMemory of_journal (ReadsAs (journal_bytes v c.args.work.now)) (λ (journal : Journal). TestsPhase journal journal.phase) (Ok read) read (c.in_ok-journal.ensures.answer v seen)
    (inr (inr (subst (λ p. TestsPhase read p (Ok read)) (sym c.in-Done.is) refl)))

pub returns-in-Done-clause-stands : goal.returns-in-Done-clause-stands
returns-in-Done-clause-stands g c v seen = read_stands c.args.work.now v c.in_ok-journal.journal (c.in_ok-journal.ensures.answer v seen)
