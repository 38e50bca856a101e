-- The faults of the calls below, as a migration tells them. That the folder failed or memory was refused is told as such, whichever call
-- met it.
use Rattle.std.specs.Prelude.{◌≡◌, Bool, true, false, IsTrue}
use Rattle.item_making.specs.declared.fault.PutFault.{PutFault}
use Rattle.item_making.specs.declared.fault.PutFault.TheVariants as put
use Rattle.folder_spec.specs.declared.FolderFault.{FolderFault}
use Rattle.move_journal.specs.declared.journal.JournalFault.{JournalFault}
use Rattle.move_journal.specs.declared.journal.JournalFault.TheVariants as journal
use Rattle.migration_sides.specs.declared.fault.StepFault.{StepFault}
use Rattle.tree_match.specs.declared.answer.MapFault.{MapFault}
use Rattle.tree_match.specs.declared.answer.MatchFault.{MatchFault}
use Rattle.tree_match.specs.declared.answer.MatchFault.TheVariants as match
use Rattle.vault_read.specs.Contents.{IsOfPath}
use Rattle.vault_read.specs.declared.fault.LoadFault.TheVariants as load
use Rattle.vault_walk.specs.declared.fault.WalkFault.TheVariants as walk
use Rattle.work_folder.specs.declared.fault.WorkFault.{WorkFault}
use Rattle.work_folder.specs.declared.fault.WorkFault.TheVariants as work
use Rattle.migrate_core.specs.declared.fault.MoveFault.{MoveFault}
use Rattle.migrate_core.specs.declared.fault.MoveFault.TheVariants.{Work, Journal, Overlap, Load, Walk, NotAllowed, Meet, Changed, Match, Place, SourceGone, Failed, NoMemory}
use Rattle.migration_sides.specs.Faults.{folder_as, journal_as, step_as, work_as}
use Rattle.tree_match.specs.Comparing.{match_as}
use Rattle.tree_match.specs.Mapping.{map_as}

abbrev pub of_folder : FolderFault → MoveFault
of_folder fault = folder_as Failed NoMemory fault

abbrev pub of_work : WorkFault → MoveFault
of_work fault = work_as Failed NoMemory Work fault

abbrev pub of_journal : JournalFault → MoveFault
of_journal fault = journal_as Failed NoMemory Journal fault

abbrev pub of_step : StepFault → MoveFault
of_step fault = step_as Failed NoMemory Overlap Load Walk fault

abbrev pub of_map : MapFault → MoveFault
of_map fault = map_as NoMemory NotAllowed Meet fault

abbrev pub of_match : MatchFault → MoveFault
of_match fault = match_as Failed NoMemory Match fault

abbrev pub of_put : PutFault → MoveFault
of_put put.Failed = Failed
of_put put.NoMemory = NoMemory
of_put fault = Place fault

-- The faults that a migration may answer: the folder's failing and want of memory as such alone, and nothing of a source that isn't read.
abbrev pub IsMoveFault : MoveFault → Type 0
IsMoveFault (Work work.Failed) = ⊥
IsMoveFault (Work work.NoMemory) = ⊥
IsMoveFault (Journal journal.Failed) = ⊥
IsMoveFault (Journal journal.NoMemory) = ⊥
IsMoveFault (Load side load.Failed) = ⊥
IsMoveFault (Load side load.NoMemory) = ⊥
IsMoveFault (Walk walk.Failed) = ⊥
IsMoveFault (Walk walk.NoMemory) = ⊥
IsMoveFault (Match match.Failed) = ⊥
IsMoveFault (Match match.NoMemory) = ⊥
IsMoveFault (Place (put.Find fault)) = IsOfPath fault
IsMoveFault (Place put.Source) = ⊥
IsMoveFault (Place put.Failed) = ⊥
IsMoveFault (Place put.NoMemory) = ⊥
IsMoveFault fault = Unit {0}

-- Whether one that begins may answer so: it has read no journal, and tells nothing of one, nor that the source isn't the journal's or is gone.
abbrev pub is_of_begin : MoveFault → Bool
is_of_begin (Journal fault) = false
is_of_begin (Changed plan items plan' items') = false
is_of_begin SourceGone = false
is_of_begin fault = true

-- so it may where its folders don't overlap
abbrev pub is_of_apart : MoveFault → Bool
is_of_apart (Overlap first second) = false
is_of_apart fault = is_of_begin fault

-- and one that goes on
abbrev pub is_of_resume : MoveFault → Bool
is_of_resume fault = true

-- of these, and the folder and the random source are named as failing only for a reason
pub record Blamed (is_own : MoveFault → Bool) (folder random : Type 0) (fault : MoveFault) : Type 0 where
  pub own : IsMoveFault fault
  pub may : IsTrue (is_own fault)
  pub failed : fault ≡ Failed → folder
  pub drawn : fault ≡ Place put.Random → random

-- what a test may answer, before any item is placed
abbrev pub IsOfTest : MoveFault → Type 0
IsOfTest (Place fault) = ⊥
IsOfTest fault = Unit {0}
