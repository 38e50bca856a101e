-- The faults of the calls below, as `retire` tells them. That the folder failed or memory was refused is told as such, whichever call
-- met it.
use Rattle.std.specs.Prelude.{◌≡◌}
use Rattle.folder_spec.specs.declared.FolderFault.{FolderFault}
use Rattle.folder_staging.specs.declared.removal.RemovalFault.{RemovalFault}
use Rattle.folder_staging.specs.declared.removal.RemovalFault.TheVariants as removal
use Rattle.move_journal.specs.declared.journal.JournalFault.{JournalFault}
use Rattle.move_journal.specs.declared.journal.JournalFault.TheVariants as journal
use Rattle.migration_sides.specs.declared.fault.StepFault.{StepFault}
use Rattle.tree_match.specs.declared.answer.MapFault.{MapFault}
use Rattle.tree_match.specs.declared.answer.MatchFault.{MatchFault}
use Rattle.tree_match.specs.declared.answer.MatchFault.TheVariants as match
use Rattle.vault_read.specs.declared.fault.LoadFault.TheVariants as load
use Rattle.vault_walk.specs.declared.fault.WalkFault.TheVariants as walk
use Rattle.work_folder.specs.declared.fault.WorkFault.{WorkFault}
use Rattle.work_folder.specs.declared.fault.WorkFault.TheVariants as work
use Rattle.retire_core.specs.declared.fault.RetireFault.{RetireFault}
use Rattle.retire_core.specs.declared.fault.RetireFault.TheVariants.{Work, Journal, Unfinished, Overlap, Load, Walk, NotAllowed, Meet, Match, Depth, Failed, NoMemory}
use Rattle.migration_sides.specs.Faults.{folder_as, journal_as, step_as, work_as}
use Rattle.tree_match.specs.Comparing.{match_as}
use Rattle.tree_match.specs.Mapping.{map_as}

abbrev pub of_folder : FolderFault → RetireFault
of_folder fault = folder_as Failed NoMemory fault

abbrev pub of_removal : RemovalFault → RetireFault
of_removal removal.Depth = Depth
of_removal (removal.Other at) = Work (work.Foreign at)
of_removal removal.Failed = Failed
of_removal removal.NoMemory = NoMemory

abbrev pub of_work : WorkFault → RetireFault
of_work fault = work_as Failed NoMemory Work fault

abbrev pub of_journal : JournalFault → RetireFault
of_journal fault = journal_as Failed NoMemory Journal fault

abbrev pub of_step : StepFault → RetireFault
of_step fault = step_as Failed NoMemory Overlap Load Walk fault

abbrev pub of_map : MapFault → RetireFault
of_map fault = map_as NoMemory NotAllowed Meet fault

abbrev pub of_match : MatchFault → RetireFault
of_match fault = match_as Failed NoMemory Match fault

-- The faults that `retire` may answer: the folder's failing and want of memory as such alone.
abbrev pub IsRetireFault : RetireFault → Type 0
IsRetireFault (Work work.Failed) = ⊥
IsRetireFault (Work work.NoMemory) = ⊥
IsRetireFault (Journal journal.Failed) = ⊥
IsRetireFault (Journal journal.NoMemory) = ⊥
IsRetireFault (Load side load.Failed) = ⊥
IsRetireFault (Load side load.NoMemory) = ⊥
IsRetireFault (Walk walk.Failed) = ⊥
IsRetireFault (Walk walk.NoMemory) = ⊥
IsRetireFault (Match match.Failed) = ⊥
IsRetireFault (Match match.NoMemory) = ⊥
IsRetireFault fault = Unit {0}

-- and once the journal is read, nothing more of it
abbrev pub IsLaterFault : RetireFault → Type 0
IsLaterFault (Journal fault) = ⊥
IsLaterFault Unfinished = ⊥
IsLaterFault fault = IsRetireFault fault

-- what may be answered once something is moved or removed
abbrev pub IsOfRemoval : RetireFault → Type 0
IsOfRemoval (Work (work.Foreign at)) = Unit {0}
IsOfRemoval Depth = Unit {0}
IsOfRemoval Failed = Unit {0}
IsOfRemoval NoMemory = Unit {0}
IsOfRemoval fault = ⊥

-- of these, and the folder is named as failing only for a reason
pub record Blamed (Own : RetireFault → Type 0) (folder : Type 0) (fault : RetireFault) : Type 0 where
  pub own : Own fault
  pub failed : fault ≡ Failed → folder
