-- `cat`: the content of a file, chunk by chunk.
use Rattle.std.specs.Prelude.{◌≡◌, ℕ, Bool, true, false, IsTrue, List, ◌++◌, ◌⊎◌, Option, Some, None, Ok, MatchResult}
use Rattle.std.specs.Io.KnownBytes.{Keeps}
use Rattle.folder_spec.specs.Path.{Path}
use Rattle.folder_spec.specs.Seen.{IsSeen}
use Rattle.folder_spec.specs.View.{View}
use Rattle.chunk_files.specs.Keys.{Keys}
use Rattle.chunk_files.specs.Reading.{Ending, Whole, Wanting, Faulty, Reading}
use Rattle.vault_read.specs.Contents.{content_at, limited_reading}
use Rattle.vault_spec.specs.Format.{file_bytes}
use Rattle.vault_spec.specs.Vault.{Vault, format_of}
use Rattle.reading_commands.specs.Finding.{answer_to_finding}
use Rattle.open_for_reading.specs.Opening.{OfOpened, Opens}
use Rattle.open_for_reading.specs.Shown.{IsCutShort, Reads, Shown, refused}
use Rattle.open_for_reading.specs.World.{World}
use Rattle.command_answers.specs.declared.answer.Answer.{Answer}
use Rattle.command_answers.specs.declared.answer.Answer.TheVariants.{Done, Refused, WrongPass, NotFound, WrongKind, Damaged, Limit}
use Rattle.command_answers.specs.declared.answer.Damage.TheVariants as damage
use Rattle.command_answers.specs.declared.answer.Limit.TheVariants as limit
use Rattle.command_words.specs.declared.commands.Target.{Target}

-- how the reading of the file at a path ends
abbrev pub answer_to_ending : Path → Ending → Answer
answer_to_ending at Whole = Done
answer_to_ending at Wanting = Limit (limit.Length at)
answer_to_ending at (Faulty fault) = Damaged at (damage.Content fault)

abbrev pub shown_reading : Path → Reading → Shown
shown_reading at reading = record { pieces = reading.chunks; answer = answer_to_ending at reading.ending }

-- the chunks of the content file that is found, behind the root; a file always is where one stands
abbrev pub ShowsContentFile : Keys → Path → Option (List ℕ) → Shown → Type 0
ShowsContentFile keys at None shown = ⊥
ShowsContentFile keys at (Some bytes) shown = shown ≡ shown_reading at (limited_reading keys bytes)

-- what `cat` shows
abbrev pub ShowsContent : Target → View → Shown → Type 0
ShowsContent target v shown =
    OfOpened v target.vault target.pass shown (λ vault.
    MatchResult (content_at (format_of vault) target.vault v target.path)
    (λ at. ShowsContentFile (format_of vault).content (target.vault ++ at) (file_bytes (v (target.vault ++ at))) shown)
    (λ refusal. shown ≡ refused (answer_to_finding target.vault refusal)))

-- whether no vault was opened or no file found, which is known before anything is written
abbrev pub is_of_finding : Answer → Bool
is_of_finding (Refused at why) = true
is_of_finding (WrongPass root) = true
is_of_finding (NotFound what) = true
is_of_finding (WrongKind what) = true
is_of_finding answer = false

-- the root and the passphrase are a vault, and the file at the path is whole and within the limit
pub record OpensFile (target : Target) (v : View) : Type 0 where
  pub vault : Vault
  pub opens : Opens v target.vault target.pass vault
  pub at : Path
  pub found : content_at (format_of vault) target.vault v target.path ≡ Ok at
  pub bytes : List ℕ
  pub stored : file_bytes (v (target.vault ++ at)) ≡ Some bytes
  pub whole : (limited_reading (format_of vault).content bytes).ending ≡ Whole

-- `cat`, which takes nothing of the input and draws nothing. A whole file is written, unless the command is cut short.
pub record WritesFile (target : Target) (answer : Answer) (before after : World) : Type 0 where
  pub reads : Reads (ShowsContent target) answer before.told after.told before.taken after.taken
  pub complete : (v : View) → IsSeen before.told v → OpensFile target v → (answer ≡ Done) ⊎ IsCutShort answer
  pub quiet : IsTrue (is_of_finding answer) → Keeps before.taken after.taken
  pub untouched : Keeps before.left after.left
  pub undrawn : after.random ≡ before.random
