-- `mkdir`: a new directory at a plain path of a vault.
use Rattle.std.specs.Prelude.{Bool, true, false}
use Rattle.std.specs.Io.KnownBytes.{Keeps}
use Rattle.item_making.specs.Ending.{Whole}
use Rattle.vault_spec.specs.Making.{NewDirectory}
use Rattle.vault_write.specs.Calls.{New}
use Rattle.writing_commands.specs.Items.{ChangesVault, MakesIn}
use Rattle.open_for_reading.specs.World.{World}
use Rattle.command_answers.specs.declared.answer.Answer.{Answer}
use Rattle.command_answers.specs.declared.answer.Answer.TheVariants.{Done, OutOfMemory, FolderFault, RandomFault, NotFound, WrongKind, Damaged, NotAllowed, ZeroRandom, Taken}
use Rattle.command_words.specs.declared.commands.Change.{Change}

-- whether a directory that is to be made may be answered so
abbrev pub is_of_directory : Answer → Bool
is_of_directory Done = true
is_of_directory OutOfMemory = true
is_of_directory FolderFault = true
is_of_directory RandomFault = true
is_of_directory (NotFound what) = true
is_of_directory (WrongKind what) = true
is_of_directory (Damaged at how) = true
is_of_directory (NotAllowed path) = true
is_of_directory ZeroRandom = true
is_of_directory (Taken at) = true
is_of_directory answer = false

-- `mkdir`, which takes nothing of the input and writes nothing
pub record MakesDirectoryIn (change : Change) (answer : Answer) (before after : World) : Type 0 where
  pub changes : ChangesVault is_of_directory change (λ vault. MakesIn New change NewDirectory Whole vault answer before.told after.told before.random after.random) answer before after
  pub untouched : Keeps before.left after.left
