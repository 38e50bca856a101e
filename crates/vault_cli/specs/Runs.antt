-- What a run of the program makes of its words: each command is a case, with a definition of its own.
use Rattle.std.specs.Prelude.{◌≡◌, ◌⊎◌, Option, Some, None}
use Rattle.std.specs.Io.KnownBytes.{Keeps}
use Rattle.folder_spec.specs.View.{View}
use Rattle.reading_commands.specs.Cat.{WritesFile}
use Rattle.reading_commands.specs.DecryptFile.{DecryptsFile}
use Rattle.demonstration.specs.Demo.{Demonstrates}
use Rattle.checking_commands.specs.Fsck.{ChecksVault}
use Rattle.writing_commands.specs.Init.{MakesVault}
use Rattle.reading_commands.specs.Ls.{ListsItems}
use Rattle.migration_commands.specs.Migrate.{MigratesTree, SidesHaveOwnFolders}
use Rattle.writing_commands.specs.Mkdir.{MakesDirectoryIn}
use Rattle.writing_commands.specs.Put.{StoresFile}
use Rattle.writing_commands.specs.Passwd.{ChangesPassphrase}
use Rattle.checking_commands.specs.Repair.{RepairsVault}
use Rattle.migration_commands.specs.Resume.{ResumesTree}
use Rattle.migration_commands.specs.Retire.{RetiresSource}
use Rattle.open_for_reading.specs.World.{World}
use Rattle.command_answers.specs.declared.answer.Answer.{Answer}
use Rattle.command_answers.specs.declared.answer.Answer.TheVariants.{BadCommandLine, OutOfMemory}
use Rattle.command_words.specs.declared.commands.Command.{Command}
use Rattle.command_words.specs.declared.commands.Command.TheVariants.{DecryptFile, Init, Ls, Cat, Fsck, Mkdir, Put, Repair, Migrate, Resume, Retire, Passwd, Demo}

pub record DoesNothing (before after : World) : Type 0 where
  pub unchanged : after.told ≡ before.told
  pub untouched : Keeps before.left after.left
  pub unwritten : Keeps before.taken after.taken
  pub undrawn : after.random ≡ before.random

abbrev pub Executes : Option Command → Answer → World → World → Type 0
Executes None answer before after = (answer ≡ BadCommandLine) × DoesNothing before after
Executes (Some (DecryptFile key)) answer before after = DecryptsFile key answer before after
Executes (Some (Init new)) answer before after = MakesVault new answer before after
Executes (Some (Mkdir change)) answer before after = MakesDirectoryIn change answer before after
Executes (Some (Put change)) answer before after = StoresFile change answer before after
Executes (Some (Ls target)) answer before after = ListsItems target answer before after
Executes (Some (Cat target)) answer before after = WritesFile target answer before after
Executes (Some (Fsck target)) answer before after = ChecksVault target answer before after
Executes (Some (Repair target)) answer before after = RepairsVault target answer before after
Executes (Some (Migrate moving)) answer before after = MigratesTree moving answer before after
Executes (Some (Resume resuming)) answer before after = ResumesTree resuming answer before after
Executes (Some (Retire resuming)) answer before after = RetiresSource resuming answer before after
Executes (Some (Passwd new)) answer before after = ChangesPassphrase new answer before after
Executes (Some (Demo demonstration)) answer before after = Demonstrates demonstration answer before after

-- memory was refused while the words were read, and nothing was done; or they made a command or none, and it was executed
abbrev pub Runs : Option Command → Answer → World → World → Type 0
Runs command answer before after = ((answer ≡ OutOfMemory) × DoesNothing before after) ⊎ Executes command answer before after

-- No two directories of either vault share a folder, of the two vaults that `migrate` compares once all is placed.
abbrev pub OwnsFolders : Option Command → View → Type 0
OwnsFolders (Some (Migrate moving)) v = SidesHaveOwnFolders moving v
OwnsFolders command v = Unit {0}
