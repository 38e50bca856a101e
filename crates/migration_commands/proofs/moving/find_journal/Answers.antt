use Rattle.std.proofs.Common.{Err, subst}
use Rattle.move_journal.specs.Reading.{ReadsAs, journal_bytes}
use Rattle.move_journal.specs.declared.journal.JournalFault.TheVariants.{NoJournal, BadJournal, TooLarge}
use Rattle.migration_commands.proofs.Migrations.{journal_found, journal_missing}
use Rattle.migration_commands.proofs.moving.find_journal.Goals as goal

pub returns-in-Ok-clause-found : goal.returns-in-Ok-clause-found
returns-in-Ok-clause-found g c = λ v is. journal_found c.args.work.now v c.in-Ok.journal (c.in-Ok.ensures.answer v is)

pub returns-in-Err-NoJournal-clause-found : goal.returns-in-Err-NoJournal-clause-found
returns-in-Err-NoJournal-clause-found g c = λ v is. journal_missing c.journals_are_read_back.ensures.found c.args.work.now v (Err NoJournal) (λ j none. none) (subst (λ f. ReadsAs (journal_bytes v c.args.work.now) (Err f)) c.in-Err-NoJournal.field-0-is (c.in-Err-NoJournal.ensures.answer v is))

pub returns-in-Err-BadJournal-clause-found : goal.returns-in-Err-BadJournal-clause-found
returns-in-Err-BadJournal-clause-found g c = λ v is. journal_missing c.journals_are_read_back.ensures.found c.args.work.now v (Err (BadJournal c.in-Err-BadJournal.field-0-0)) (λ j none. none) (subst (λ f. ReadsAs (journal_bytes v c.args.work.now) (Err f)) c.in-Err-BadJournal.field-0-is (c.in-Err-BadJournal.ensures.answer v is))

pub returns-in-Err-TooLarge-clause-found : goal.returns-in-Err-TooLarge-clause-found
returns-in-Err-TooLarge-clause-found g c = λ v is. journal_missing c.journals_are_read_back.ensures.found c.args.work.now v (Err TooLarge) (λ j none. none) (subst (λ f. ReadsAs (journal_bytes v c.args.work.now) (Err f)) c.in-Err-TooLarge.field-0-is (c.in-Err-TooLarge.ensures.answer v is))
