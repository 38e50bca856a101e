-- What a folder in memory tells.
use Rattle.std.specs.Prelude.{◌≡◌, ℕ, min, [], map, length, Result, Ok, Err}
use Rattle.folder_spec.specs.declared.FolderFault.{FolderFault}
use Rattle.folder_spec.specs.declared.FolderFault.TheVariants.{Failed, Refused, NoMemory}
use Rattle.folder_spec.specs.Path.{Path}
use Rattle.folder_spec.specs.declared.Spot.TheVariants.{Odd}
use Rattle.folder_spec.specs.State.{State, present, put, HasNothingPending}
use Rattle.folder_spec.specs.Event.{Call, Fell, Told, IsFree, piece_of, told_after}
use Rattle.folder_model.specs.declared.mem.MemFolder.{MemFolder}
use Rattle.folder_model.specs.Calls.{event_of}
use Rattle.folder_model.specs.Plan.{Plan, plan_in}
use Rattle.folder_model.specs.Steps.{base_table, state_from}
use Rattle.folder_model.specs.Tables.{names_of}

abbrev pub state_of : MemFolder → State
state_of m = state_from m.nodes.items (names_of m.base) m.steps.items m.kept

abbrev pub told_of : MemFolder → Told
told_of m = record { state = state_of m; log = map event_of m.log.items }

abbrev pub faults_of : MemFolder → ℕ
faults_of m = m.faults

abbrev pub plan_of : MemFolder → Plan
plan_of m = plan_in m.plan

-- no crash can change anything, and an entry may be made at the path
abbrev pub MayPlace : State → Path → Type 0
MayPlace s p = HasNothingPending s × IsFree (present s) p

-- with an entry there that is neither a file nor a directory, and that a crash can't take away
abbrev pub with_other : State → Path → State
with_other s p = record s { kept = put (present s) p Odd; later = [] }

-- of a changing call that failed, how much of its piece was added: so many first bytes, or all where it has fewer
abbrev pub FellBy : {T : Type 0} → ℕ → Call → Told → Told → Result T FolderFault → Type 0
FellBy added call a b (Ok value) = Unit {0}
FellBy added call a b (Err Failed) = b ≡ told_after a call (Fell (min added (length (piece_of call))))
FellBy added call a b (Err Refused) = Unit {0}
FellBy added call a b (Err NoMemory) = Unit {0}

-- all but the state stays
pub record KeepsRest (old new : MemFolder) : Type 0 where
  pub log : new.log ≡ old.log
  pub faults : new.faults ≡ old.faults
  pub plan : plan_of new ≡ plan_of old

-- an empty base, and no log
abbrev pub new_told : Told
new_told = record { state = state_from [] base_table [] 0; log = [] }
