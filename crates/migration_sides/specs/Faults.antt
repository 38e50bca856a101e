-- The faults of the calls below, as a step and a command tell them. That the folder failed or memory was refused is told as such, whichever
-- call met it.
use Rattle.std.specs.Prelude.{◌≡◌}
use Rattle.folder_spec.specs.Path.{Path}
use Rattle.folder_spec.specs.declared.FolderFault.{FolderFault}
use Rattle.folder_spec.specs.declared.FolderFault.TheVariants as folder
use Rattle.move_journal.specs.declared.journal.JournalFault.{JournalFault}
use Rattle.move_journal.specs.declared.journal.JournalFault.TheVariants as journal
use Rattle.vault_read.specs.declared.fault.LoadFault.{LoadFault}
use Rattle.vault_read.specs.declared.fault.LoadFault.TheVariants as load
use Rattle.vault_walk.specs.declared.fault.WalkFault.{WalkFault}
use Rattle.vault_walk.specs.declared.fault.WalkFault.TheVariants as walk
use Rattle.work_folder.specs.declared.fault.WorkFault.{WorkFault}
use Rattle.work_folder.specs.declared.fault.WorkFault.TheVariants as work
use Rattle.migration_sides.specs.declared.fault.Side.{Side}
use Rattle.migration_sides.specs.declared.fault.StepFault.{StepFault}
use Rattle.migration_sides.specs.declared.fault.StepFault.TheVariants.{Overlap, Load, Walk, Failed, NoMemory}

abbrev pub of_walk : WalkFault → StepFault
of_walk walk.Failed = Failed
of_walk walk.NoMemory = NoMemory
of_walk fault = Walk fault

-- The faults that opening and walking vaults may answer: the folder's failing and want of memory as such alone, and nothing of folders
-- that overlap.
abbrev pub IsStepFault : StepFault → Type 0
IsStepFault (Overlap first second) = ⊥
IsStepFault (Load side load.Failed) = ⊥
IsStepFault (Load side load.NoMemory) = ⊥
IsStepFault (Walk walk.Failed) = ⊥
IsStepFault (Walk walk.NoMemory) = ⊥
IsStepFault fault = Unit {0}

-- the faults that testing the folders may answer
abbrev pub IsApartFault : StepFault → Type 0
IsApartFault (Overlap first second) = Unit {0}
IsApartFault NoMemory = Unit {0}
IsApartFault fault = ⊥

-- of the first, and the folder is named as failing only for a reason
pub record IsBlamed (folder : Type 0) (fault : StepFault) : Type 0 where
  pub own : IsStepFault fault
  pub failed : fault ≡ Failed → folder

-- ---- by the faults of a command: that the folder failed, that memory was refused, and what others are told as

abbrev pub folder_as : {G : Type 0} → G → G → FolderFault → G
folder_as failed none folder.Failed = failed
folder_as failed none folder.Refused = failed
folder_as failed none folder.NoMemory = none

abbrev pub work_as : {G : Type 0} → G → G → (WorkFault → G) → WorkFault → G
work_as failed none told work.Failed = failed
work_as failed none told work.NoMemory = none
work_as failed none told fault = told fault

abbrev pub journal_as : {G : Type 0} → G → G → (JournalFault → G) → JournalFault → G
journal_as failed none told journal.Failed = failed
journal_as failed none told journal.NoMemory = none
journal_as failed none told fault = told fault

abbrev pub step_as : {G : Type 0} → G → G → (Path → Path → G) → (Side → LoadFault → G) → (WalkFault → G) → StepFault → G
step_as failed none overlap loaded walked (Overlap first second) = overlap first second
step_as failed none overlap loaded walked (Load side fault) = loaded side fault
step_as failed none overlap loaded walked (Walk fault) = walked fault
step_as failed none overlap loaded walked Failed = failed
step_as failed none overlap loaded walked NoMemory = none
