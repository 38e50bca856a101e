-- Making a work folder ready: what comes and goes there, when that is refused, and what stands there afterwards.
use Rattle.std.specs.Prelude.{◌≡◌, ◌≢◌, ℕ, ◌≤◌, ◌⊎◌, codes, Option, Result, Ok, Err, OnOk}
use Rattle.port_model.specs.Counts.{CountRose}
use Rattle.folder_spec.specs.Path.{Part, Path, child}
use Rattle.folder_spec.specs.Event.{Told}
use Rattle.folder_spec.specs.View.{NoEntry, Folder, View}
use Rattle.folder_spec.specs.Seen.{IfSeen}
use Rattle.folder_staging.specs.declared.removal.RemovalFault.TheVariants as removal
use Rattle.folder_staging.specs.Removal.{Reach, below_only, deepest, IsWithin, IsBare, RemovesAs}
use Rattle.work_folder.specs.declared.fault.WorkFault.{WorkFault}
use Rattle.work_folder.specs.declared.fault.WorkFault.TheVariants.{NoParent, WrongKind, Foreign, Begun, Depth, Failed, NoMemory}
use Rattle.work_folder.specs.Entries.{new_journal_path, stage_path}
use Rattle.work_folder.specs.Looking.{Looked, Tests, Gives}
use Rattle.work_folder.specs.Changing.{ChangesAt, Alters}

-- all below the stage
abbrev pub below_stage : Path → Reach
below_stage work = below_only (stage_path work) deepest

-- The stage comes, and what is below it goes.
abbrev pub IsStage : Path → Path → Type 0
IsStage work q = q ≡ stage_path work

abbrev pub IsBelowStage : Path → Path → Type 0
IsBelowStage work q = IsWithin (below_stage work) q

-- The work folder and its stage come, and what a stop may have left goes: `journal.new` and what is below the stage.
abbrev pub IsWorkOrStage : Path → Path → Type 0
IsWorkOrStage work q = (q ≡ work) ⊎ IsStage work q

abbrev pub IsLeftOver : Path → Path → Type 0
IsLeftOver work q = (q ≡ new_journal_path work) ⊎ IsBelowStage work q

-- the stage is a directory without entries
pub record IsReady (v : View) (work : Path) : Type 0 where
  pub folder : v work ≡ Folder
  pub stage : v (stage_path work) ≡ Folder
  pub bare : IsBare (below_stage work) v

-- and nothing else stands in the work folder
pub record IsFresh (v : View) (work : Path) : Type 0 where
  pub ready : IsReady v work
  pub alone : (name : Part) → name ≢ codes "stage" → v (child work name) ≡ NoEntry

-- What emptying the stage answers: `Depth` only where something stands more than 128 parts below it, `Foreign` only of what is
-- neither a file nor a directory there, and no refusal only where there is neither.
abbrev pub Empties : View → Path → Looked → Type 0
Empties v work (Ok done) = RemovesAs (below_stage work) v (Ok tt)
Empties v work (Err (NoParent p)) = ⊥
Empties v work (Err (WrongKind p)) = ⊥
Empties v work (Err (Foreign p)) = RemovesAs (below_stage work) v (Err (removal.Other p))
Empties v work (Err Begun) = ⊥
Empties v work (Err Depth) = RemovesAs (below_stage work) v (Err removal.Depth)
Empties v work (Err Failed) = Unit {0}
Empties v work (Err NoMemory) = Unit {0}

-- what entering answers: a test fails, or all pass and the stage is emptied
abbrev pub EntersAs : View → Path → Looked → Type 0
EntersAs v work answer = (Tests v work answer × (answer ≢ Ok tt)) ⊎ (Tests v work (Ok tt) × Empties v work answer)

-- A call makes a work folder ready, from what a folder told and its count of faults before to those afterwards.
pub record Enters {T : Type 0} (work : Path) (before after : Option Told) (old new : ℕ) (result : Result T WorkFault) : Type 0 where
  pub moments : ChangesAt work (IsWorkOrStage work) (IsLeftOver work) before after
  pub ready : OnOk result (IfSeen after (λ v. IsFresh v work))
  pub answer : IfSeen before (λ v. Gives (EntersAs v work) result)
  -- where a test fails nothing is changed
  pub kept : IfSeen before (λ v. ¬ Tests v work (Ok tt) → after ≡ before)
  pub grows : old ≤ new
  pub failed : result ≡ Err Failed → CountRose old new

-- A call makes the stage ready alone, in a work folder that is in use.
pub record Restages {T : Type 0} (work : Path) (before after : Option Told) (old new : ℕ) (result : Result T WorkFault) : Type 0 where
  pub moments : ChangesAt (stage_path work) (IsStage work) (IsBelowStage work) before after
  pub ready : OnOk result (IfSeen after (λ v. IsReady v work))
  pub answer : IfSeen before (λ v. Gives (Empties v work) result)
  pub grows : old ≤ new
  pub failed : result ≡ Err Failed → CountRose old new

-- Before the stage is made ready the work folder is made and `journal.new` removed (private contracts only).
pub record Prepares (work : Path) (before after : Option Told) (old new : ℕ) (result : Looked) : Type 0 where
  pub moments : Alters (λ q. q ≡ work) (λ q. q ≡ new_journal_path work) before after
  pub folder : OnOk result (IfSeen after (λ v. v work ≡ Folder))
  pub gone : OnOk result (IfSeen after (λ v. v (new_journal_path work) ≡ NoEntry))
  pub fault : (fault : WorkFault) → result ≡ Err fault → (fault ≡ Failed) ⊎ (fault ≡ NoMemory)
  pub grows : old ≤ new
  pub failed : result ≡ Err Failed → CountRose old new
