-- `retire`: removing the source of a finished migration, and its work folder.
use Rattle.std.specs.Prelude.{◌≡◌, ◌⊎◌, ◌++◌, ◌∷◌, [], ℕ, Bool, ◌||◌, List, codes, decimal, IfErr, IsTrue, Option, Some, None, Result}
use Rattle.std.specs.Io.KnownBytes.{Keeps}
use Rattle.folder_spec.specs.Event.{Told}
use Rattle.folder_spec.specs.Path.{Path}
use Rattle.folder_spec.specs.Seen.{IfSeen}
use Rattle.folder_spec.specs.View.{View}
use Rattle.move_journal.specs.Journal.{IsJournal}
use Rattle.move_journal.specs.declared.journal.Journal.{Journal}
use Rattle.move_journal.specs.Reading.{StandsIn}
use Rattle.retire_core.specs.Causes.{PassesTests, Unless}
use Rattle.retire_core.specs.Causes as causes
use Rattle.retire_core.specs.Completing.{CanRetire}
use Rattle.retire_core.specs.Faults.{IsOfRemoval}
use Rattle.retire_core.specs.Retiring.{HasRetired, KeepsInOrder, RemovesOnly, TouchesOnly, retiring_by}
use Rattle.retire_core.specs.declared.fault.RetireFault.{RetireFault}
use Rattle.retire_core.specs.declared.fault.RetireFault.TheVariants.{Load}
use Rattle.retire_core.specs.declared.retiring.Retired.{Retired}
use Rattle.migration_sides.specs.Lasting.{Lasts}
use Rattle.migration_sides.specs.Unchanged.{ChangesNothing}
use Rattle.migration_sides.specs.declared.fault.Side.{Side}
use Rattle.migration_spec.specs.Guard.{Migration}
use Rattle.migration_answers.specs.Faults.{of_retire}
use Rattle.migration_answers.specs.Stops.{is_of_refusal}
use Rattle.migration_commands.specs.Moving.{AnswersBy, Comes, KeepsAll, RefusesPasses}
use Rattle.command_answers.specs.Printing.{PrintsDone}
use Rattle.open_for_reading.specs.Refusing as folder
use Rattle.migration_commands.specs.Resume.{IsResumedFor, IsRootOf}
use Rattle.open_for_reading.specs.Shown.{is_of_end}
use Rattle.open_for_reading.specs.World.{World}
use Rattle.command_answers.specs.declared.answer.Answer.{Answer}
use Rattle.command_words.specs.declared.commands.Resuming.{Resuming}

-- whether the command may end with this answer
abbrev pub is_of_retiring : Answer → Bool
is_of_retiring answer = is_of_refusal answer || is_of_end answer

-- what `retire` comes to
abbrev pub Outcome : Type 0
Outcome = Result Retired RetireFault

-- the vault that isn't opened
abbrev pub unopened : RetireFault → Option Side
unopened (Load side fault) = Some side
unopened fault = None

abbrev pub AnswersRetire : Path → View → Answer → Outcome → Type 0
AnswersRetire work v answer outcome = AnswersBy (λ fault. IsRootOf work v (unopened fault)) (λ fault root. of_retire work root fault) answer outcome

-- why `retire` comes to what it comes to under these passphrases, by what is seen at first
abbrev pub IsCaused : Resuming → View → List ℕ → List ℕ → Outcome → Type 0
IsCaused resuming v source_pass target_pass outcome = Unless outcome (causes.Retires resuming.work source_pass target_pass v outcome)

-- The source is touched only by moving it as a whole into the work folder, once the target holds all of it, and removed only then; all
-- else but the work folder stays as it was. Nothing is changed unless all tests before the removals pass, of which none is the answer then.
pub record TouchesNoMore (resuming : Resuming) (told told' : Option Told) (v : View) (source_pass target_pass : List ℕ) (outcome : Outcome) : Type 0 where
  pub touches : (journal : Journal) → IsJournal journal → StandsIn resuming.work journal v → TouchesOnly (retiring_by resuming.work source_pass target_pass journal) told told'
  pub removes : (journal : Journal) → IsJournal journal → StandsIn resuming.work journal v → RemovesOnly (retiring_by resuming.work source_pass target_pass journal) told told'
  pub tested : ChangesNothing told told' ⊎ (IfErr outcome IsOfRemoval × PassesTests resuming.work source_pass target_pass v)

abbrev pub ComesTo : Resuming → (Outcome → Type 0) → Option Told → Option Told → View → Type 0
ComesTo resuming IsAnswered told told' v = Comes resuming.passes (IsCaused resuming v) (TouchesNoMore resuming told told' v) IsAnswered v

-- or the passphrases aren't read, or the folder failed, or memory was refused
abbrev pub MayCome : Resuming → Answer → Option Told → Option Told → View → Type 0
MayCome resuming answer told told' v = RefusesPasses resuming.passes answer told told' v ⊎ ComesTo resuming (AnswersRetire resuming.work v answer) told told' v

-- `retired M`
abbrev pub retired_text : Retired → List ℕ
retired_text retired = codes "retired " ++ decimal retired.items ++ 10 ∷ []

-- the journal said that all is done, of so many items; the source is gone, and so is the work folder, and that lasts
pub record IsRetired (resuming : Resuming) (told told' : Option Told) (retired : Retired) : Type 0 where
  pub gone : IfSeen told (λ v. HasRetired resuming.work retired.items told' v)
  pub lasts : Lasts told'

-- it comes to its end, unless the folder failed or memory was refused
abbrev pub Completes : Answer → Type 0
Completes answer = folder.Unless answer (IsTrue (is_of_end answer))

-- Whatever the answer is, nothing is lost of any migration through the work folder, no more is touched, and the journal goes after `old`.
-- Where no test can fail, the source is retired.
pub record Retires (resuming : Resuming) (answer : Answer) (told told' : Option Told) (taken taken' : Option (List ℕ)) : Type 0 where
  pub own : IsTrue (is_of_retiring answer)
  pub comes : IfSeen told (λ v. MayCome resuming answer told told' v)
  pub keeps : (g : Migration) → g.work ≡ resuming.work → KeepsAll g told told'
  pub order : KeepsInOrder resuming.work told told'
  pub completes : (g : Migration) → IfSeen told (λ v. IsResumedFor g resuming v → CanRetire g v → Completes answer)
  pub prints : PrintsDone retired_text (IsRetired resuming told told') answer taken taken'

-- `retire`, which takes nothing of the input and draws nothing
pub record RetiresSource (resuming : Resuming) (answer : Answer) (before after : World) : Type 0 where
  pub retires : Retires resuming answer before.told after.told before.taken after.taken
  pub untouched : Keeps before.left after.left
  pub undrawn : after.random ≡ before.random
