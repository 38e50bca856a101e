-- `put`: the input as a file at a plain path of a vault, new or in the place of the content of a file that stands there.
use Rattle.std.specs.Prelude.{◌≡◌, ◌+◌, ℕ, Bool, true, false, List, [], Option, Some, None, IfErr}
use Rattle.item_making.specs.Ending.{Ending}
use Rattle.content_writing.specs.Content.{FitsContent, TakesUpTo, within}
use Rattle.vault_faults.specs.Limits.{content_limit}
use Rattle.folder_spec.specs.Event.{Told}
use Rattle.port_model.specs.Draws.{ByteStream}
use Rattle.vault_spec.specs.Making.{NewFile}
use Rattle.vault_spec.specs.Vault.{Vault}
use Rattle.vault_write.specs.Calls.{InPlace, most_by}
use Rattle.writing_commands.specs.Items.{ChangesVault, MakesIn}
use Rattle.open_for_reading.specs.World.{World}
use Rattle.command_answers.specs.declared.answer.Answer.{Answer}
use Rattle.command_answers.specs.declared.answer.Answer.TheVariants.{Done, OutOfMemory, FolderFault, InputFault, RandomFault, NotFound, WrongKind, Damaged, NotAllowed, ZeroRandom, Taken, Limit}
use Rattle.command_words.specs.declared.commands.Change.{Change}

-- whether a file that is to be made may be answered so
abbrev pub is_of_file : Answer → Bool
is_of_file Done = true
is_of_file OutOfMemory = true
is_of_file FolderFault = true
is_of_file InputFault = true
is_of_file RandomFault = true
is_of_file (NotFound what) = true
is_of_file (WrongKind what) = true
is_of_file (Damaged at how) = true
is_of_file (NotAllowed path) = true
is_of_file ZeroRandom = true
is_of_file (Taken at) = true
is_of_file (Limit which) = true
is_of_file answer = false

-- The content is what the input had left, of which 2^40 bytes are the most. Where all is done it is all of that, and nothing is left.
pub record TakesInput (content : List ℕ) (ending : Ending) (answer : Answer) (left left' : Option (List ℕ)) : Type 0 where
  pub told : (bytes : List ℕ) → left ≡ Some bytes → within content_limit bytes ≡ record { bytes = content; ending = ending }
  pub whole : answer ≡ Done → (bytes : List ℕ) → left ≡ Some bytes → (content ≡ bytes) × (left' ≡ Some [])

-- A file of the input is made in this vault. The input is blamed only as an input: its source failed, or it passed the limit. Of its bytes
-- 2^40 and one are the most that are taken, and none where the directory, the name or the place is refused.
pub record StoresIn (change : Change) (vault : Vault) (answer : Answer) (told told' : Option Told) (stream stream' : Option ByteStream) (left left' : Option (List ℕ)) : Type 0 where
  pub content : List ℕ
  pub ending : Ending
  pub makes : MakesIn InPlace change (NewFile content) ending vault answer told told' stream stream'
  pub takes : TakesInput content ending answer left left'
  pub fits : IfErr makes.result (λ fault. FitsContent None fault)
  pub few : TakesUpTo (most_by makes.result (content_limit + 1)) left left'

-- `put`, which writes nothing
abbrev pub StoresFile : Change → Answer → World → World → Type 0
StoresFile change answer before after =
    ChangesVault is_of_file change (λ vault. StoresIn change vault answer before.told after.told before.random after.random before.left after.left) answer before after
