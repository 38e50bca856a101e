-- What `migrate`, `resume` and `retire` did tells an answer of their rows.
use Rattle.std.proofs.Common.{IsTrue, Some, None, inl, inr, refl, sym, subst}
use Rattle.std.specs.Prelude.{MatchOption, Option}
use Rattle.command_answers.specs.Rows.{Ends}
use Rattle.command_answers.specs.declared.answer.Answer.{Answer}
use Rattle.command_answers.specs.declared.answer.Answer.TheVariants.{Done}
use Rattle.open_for_reading.specs.Places.{RefusesOverlap}
use Rattle.open_for_reading.specs.World.{World}
use Rattle.command_words.specs.declared.commands.Command.TheVariants.{Migrate, Resume, Retire}
use Rattle.command_words.specs.declared.commands.Moving.{Moving}
use Rattle.command_words.specs.declared.commands.Resuming.{Resuming}
use Rattle.migration_commands.specs.Migrate.{MigratesApart, MigratesTree, Pair, first_overlap}
use Rattle.migration_commands.specs.Moving.{is_of_migration, is_of_told_migration}
use Rattle.migration_commands.specs.Resume.{ResumesTree}
use Rattle.migration_commands.specs.Retire.{RetiresSource, is_of_retiring}

-- by the answer: the first clause takes one, and the last each of the others
migration_row : (moving : Moving) (answer : Answer) → IsTrue (is_of_migration answer) → Ends (Some (Migrate moving)) answer
migration_row moving Done own = cc
migration_row moving answer own = cc

resuming_row : (resuming : Resuming) (answer : Answer) → IsTrue (is_of_told_migration answer) → Ends (Some (Resume resuming)) answer
resuming_row resuming Done own = cc
resuming_row resuming answer own = cc

retiring_row : (resuming : Resuming) (answer : Answer) → IsTrue (is_of_retiring answer) → Ends (Some (Retire resuming)) answer
retiring_row resuming Done own = cc
retiring_row resuming answer own = cc

pub migrate_row : (moving : Moving) (answer : Answer) (before after : World) → MigratesTree moving answer before after → Ends (Some (Migrate moving)) answer
migrate_row moving answer before after did = by (first_overlap moving) did.apart
  where
    by : (o : Option Pair) → MatchOption o (MigratesApart moving answer before.told after.told before.taken after.taken before.random after.random)
        (λ two. RefusesOverlap two.first two.second answer before after) → Ends (Some (Migrate moving)) answer
    by None migrates = migration_row moving answer migrates.own
    by (Some two) refuses = elim refuses.answers [ inl overlaps ↦ subst (Ends (Some (Migrate moving))) (sym overlaps) refl | inr memory ↦ subst (Ends (Some (Migrate moving))) (sym memory) refl ]

pub resume_row : (resuming : Resuming) (answer : Answer) (before after : World) → ResumesTree resuming answer before after → Ends (Some (Resume resuming)) answer
resume_row resuming answer before after did = resuming_row resuming answer did.resumes.own

pub retire_row : (resuming : Resuming) (answer : Answer) (before after : World) → RetiresSource resuming answer before after → Ends (Some (Retire resuming)) answer
retire_row resuming answer before after did = retiring_row resuming answer did.retires.own
