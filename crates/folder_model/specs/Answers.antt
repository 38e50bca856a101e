-- How the calls of a folder answer.
use Rattle.std.specs.Prelude.{◌≡◌, ℕ, ◌≤◌, ◌-◌, List, ◌++◌, take, drop, length, min, Option, Some, None, Result, Ok, Err}
use Rattle.port_model.specs.Counts.{Blames, CountRose, IsCounted}
use Rattle.folder_spec.specs.declared.FolderFault.{FolderFault}
use Rattle.folder_spec.specs.declared.FolderFault.TheVariants.{Failed, Refused, NoMemory}
use Rattle.folder_spec.specs.Event.{Told}
use Rattle.folder_spec.specs.View.{Found, FileOf, View}
use Rattle.folder_spec.specs.Seen.{IfSeen}

-- By its answer, when a call raises the count of faults: `Failed` comes only where it rose. `Refused` comes only so from a
-- folder that tells nothing. Nothing else raises the count of one that tells its state.
abbrev pub Counts : {T : Type 0} → Option Told → ℕ → ℕ → Result T FolderFault → Type 0
Counts told before after (Err Failed) = IsCounted before after × CountRose before after
Counts (Some a) before after (Ok value) = after ≡ before
Counts (Some a) before after (Err Refused) = after ≡ before
Counts (Some a) before after (Err NoMemory) = after ≡ before
Counts None before after (Ok value) = IsCounted before after
Counts None before after (Err Refused) = IsCounted before after × CountRose before after
Counts None before after (Err NoMemory) = IsCounted before after

-- what a call that changes nothing answers, by its condition and by what it is to answer
abbrev pub AnswersBy : {T : Type 0} → Type 0 → (T → Type 0) → Result T FolderFault → Type 0
AnswersBy Condition IsRight (Ok value) = Condition × IsRight value
AnswersBy Condition IsRight (Err Failed) = Condition
AnswersBy Condition IsRight (Err Refused) = ¬ Condition
AnswersBy Condition IsRight (Err NoMemory) = Unit {0}

-- the same by what is seen, if the folder tells its state
abbrev pub Answers : {T : Type 0} → Option Told → (View → Type 0) → (View → T → Type 0) → Result T FolderFault → Type 0
Answers told Condition IsRight result = IfSeen told (λ v. AnswersBy (Condition v) (IsRight v) result)

-- n bytes of the file that is found, from start on, are read into the front of out: as many as there are and fit
abbrev pub Reads : Found → ℕ → List ℕ → List ℕ → ℕ → Type 0
Reads file start old new n = (bytes : List ℕ) × (file ≡ FileOf bytes)
    × (n ≡ min (length old) (length bytes - start)) × (new ≡ take n (drop start bytes) ++ drop n old)

-- a call that did not get to work left it alone
abbrev pub KeepsUnlessRun : {T : Type 0} → Result T FolderFault → Type 0 → Type 0
KeepsUnlessRun (Ok value) P = Unit {0}
KeepsUnlessRun (Err Failed) P = Unit {0}
KeepsUnlessRun (Err Refused) P = P
KeepsUnlessRun (Err NoMemory) P = P

-- By its answer, when a call above a folder raises the folder's count of faults: it names the folder as its cause only where
-- the count rose, and the count never falls.
abbrev pub CountsAbove : {T : Type 0} → ℕ → ℕ → Result T FolderFault → Type 0
CountsAbove before after (Ok value) = before ≤ after
CountsAbove before after (Err Failed) = (before ≤ after) × CountRose before after
CountsAbove before after (Err Refused) = (before ≤ after) × CountRose before after
CountsAbove before after (Err NoMemory) = before ≤ after

-- A call above a folder only looks: what the folder tells stays, and it may be blamed for that.
pub record OnlyLooks (before after : Option Told) (blamed : Type 0) (old new : ℕ) : Type 0 where
  pub told : after ≡ before
  pub blames : Blames blamed old new
