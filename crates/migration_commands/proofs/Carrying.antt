-- How `migrate`, `resume` and `retire` carry out what they do.
use Rattle.std.proofs.Common.{◌≡◌, ◌⊎◌, Some, refl}
use Rattle.std.specs.Prelude.{⊤}
use Rattle.command_answers.specs.Rows.{Ends}
use Rattle.command_answers.specs.declared.answer.Answer.{Answer}
use Rattle.command_answers.specs.declared.answer.Answer.TheVariants.{OutOfMemory, FolderFault, InputFault, OutputFault, RandomFault, Overlap}
use Rattle.command_words.specs.declared.commands.Command.TheVariants.{Migrate, Resume, Retire}
use Rattle.command_words.specs.declared.commands.Moving.{Moving}
use Rattle.command_words.specs.declared.commands.Resuming.{Resuming}
use Rattle.open_for_reading.proofs.Carrying.{blamed, by_overlap, unnamed}
use Rattle.open_for_reading.specs.Carrying.{CarriesOut}
use Rattle.open_for_reading.specs.World.{World}
use Rattle.migration_commands.specs.Migrate.{MigratesTree, Pair, SidesHaveOwnFolders, first_overlap}
use Rattle.migration_commands.specs.Resume.{ResumesTree}
use Rattle.migration_commands.specs.Retire.{RetiresSource}
use Rattle.migration_commands.proofs.Migrations.{two_refused}
use Rattle.migration_commands.proofs.Rows.{migrate_row, resume_row, retire_row}
use Rattle.migration_commands.proofs.ToldRows.{migrate_told, resume_told, retire_told}

pub migrate_carried : (moving : Moving) (answer : Answer) (before after : World) (folder input output random : Type 0) → MigratesTree moving answer before after → (answer ≡ FolderFault → folder) → (answer ≡ OutputFault → output) → (answer ≡ RandomFault → random)
    → CarriesOut (Migrate moving) (MigratesTree moving) (λ v. SidesHaveOwnFolders moving v) answer before after folder input output random
migrate_carried moving answer before after folder input output random did failed unwritten undrawn =
    let ends : Ends (Some (Migrate moving)) answer = migrate_row moving answer before after did in
    record { does = did; row = ends; told_row = λ v seen folders. migrate_told moving answer before after v seen folders did; blame = blamed answer folder input output random failed (unnamed (Migrate moving) answer InputFault input ends refl) unwritten undrawn }

-- two of its folders overlap
pub two_carried : (moving : Moving) (two : Pair) (answer : Answer) (w : World) (folder input output random : Type 0) → first_overlap moving ≡ Some two → (answer ≡ Overlap two.first two.second) ⊎ (answer ≡ OutOfMemory)
    → CarriesOut (Migrate moving) (MigratesTree moving) (λ v. SidesHaveOwnFolders moving v) answer w w folder input output random
two_carried moving two answer w folder input output random is answers =
    migrate_carried moving answer w w folder input output random (two_refused moving two answer w is answers) (by_overlap answer FolderFault two.first two.second folder answers refl)
    (by_overlap answer OutputFault two.first two.second output answers refl) (by_overlap answer RandomFault two.first two.second random answers refl)

pub resume_carried : (resuming : Resuming) (answer : Answer) (before after : World) (folder input output random : Type 0) → ResumesTree resuming answer before after → (answer ≡ FolderFault → folder) → (answer ≡ OutputFault → output) → (answer ≡ RandomFault → random)
    → CarriesOut (Resume resuming) (ResumesTree resuming) (λ v. ⊤) answer before after folder input output random
resume_carried resuming answer before after folder input output random did failed unwritten undrawn =
    let ends : Ends (Some (Resume resuming)) answer = resume_row resuming answer before after did in
    record { does = did; row = ends; told_row = λ v seen any. resume_told resuming answer before after v seen did; blame = blamed answer folder input output random failed (unnamed (Resume resuming) answer InputFault input ends refl) unwritten undrawn }

pub retire_carried : (resuming : Resuming) (answer : Answer) (before after : World) (folder input output random : Type 0) → RetiresSource resuming answer before after → (answer ≡ FolderFault → folder) → (answer ≡ OutputFault → output)
    → CarriesOut (Retire resuming) (RetiresSource resuming) (λ v. ⊤) answer before after folder input output random
retire_carried resuming answer before after folder input output random did failed unwritten =
    let ends : Ends (Some (Retire resuming)) answer = retire_row resuming answer before after did in
    record { does = did; row = ends; told_row = λ v seen any. retire_told resuming answer before after v seen did; blame = blamed answer folder input output random failed (unnamed (Retire resuming) answer InputFault input ends refl) unwritten (unnamed (Retire resuming) answer RandomFault random ends refl) }
