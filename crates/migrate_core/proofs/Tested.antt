-- What a test refuses is none of comparing contents, and none of placing an item; and what is answered once the tests have passed.
use Rattle.std.proofs.Common.{refl, ◌≡◌, inl, inr, IfErr, List, Result, Ok, Err, subst, sym}
use Rattle.folder_spec.specs.declared.FolderFault.{FolderFault}
use Rattle.migration_sides.proofs.Told.{by_folder}
use Rattle.migration_sides.specs.declared.fault.StepFault.{StepFault}
use Rattle.migration_sides.specs.declared.fault.StepFault.TheVariants as steps
use Rattle.move_journal.specs.declared.journal.JournalFault.{JournalFault}
use Rattle.move_journal.specs.declared.journal.JournalFault.TheVariants as journals
use Rattle.tree_match.specs.declared.answer.MapFault.{MapFault}
use Rattle.tree_match.specs.declared.answer.MapFault.TheVariants as maps
use Rattle.work_folder.specs.declared.fault.WorkFault.{WorkFault}
use Rattle.work_folder.specs.declared.fault.WorkFault.TheVariants as works
use Rattle.migrate_core.specs.Faults.{IsOfTest, of_folder, of_journal, of_map, of_step, of_work}
use Rattle.migrate_core.specs.Limits.{StopsElsewhere}
use Rattle.migrate_core.specs.declared.fault.MoveFault.{MoveFault}
use Rattle.migrate_core.specs.declared.fault.MoveFault.TheVariants.{Work, Journal as Unread, Overlap, Load, Walk, NotEmpty, NotAllowed, Meet, Changed, Match as Matching, Differ, Place, SourceGone, Failed, NoMemory}
use Rattle.work_folder.specs.Looking as looking
use Rattle.folder_spec.specs.View.{View}
use Rattle.vault_spec.specs.Opened.{OpenedVault}
use Rattle.vault_spec.specs.Plan.{Planned}
use Rattle.item_making.specs.declared.fault.PutFault.{PutFault}
use Rattle.migrate_core.specs.Causes.{IsOfPlacing, IsStop, Moves, Unless}

abbrev pub IsTested : MoveFault → Type 0
IsTested fault = StopsElsewhere fault × IsOfTest fault

pub folder_tested : (fault : FolderFault) → IsTested (of_folder fault)
folder_tested = by_folder IsTested of_folder refl (tt, tt) (tt, tt)

pub work_tested : (fault : WorkFault) → IsTested (of_work fault)
work_tested (works.NoParent p) = (tt, tt)
work_tested (works.WrongKind p) = (tt, tt)
work_tested (works.Foreign p) = (tt, tt)
work_tested works.Begun = (tt, tt)
work_tested works.Depth = (tt, tt)
work_tested works.Failed = (tt, tt)
work_tested works.NoMemory = (tt, tt)

pub journal_tested : (fault : JournalFault) → IsTested (of_journal fault)
journal_tested journals.NoJournal = (tt, tt)
journal_tested (journals.BadJournal number) = (tt, tt)
journal_tested journals.TooLarge = (tt, tt)
journal_tested journals.Failed = (tt, tt)
journal_tested journals.NoMemory = (tt, tt)

pub step_tested : (fault : StepFault) → IsTested (of_step fault)
step_tested (steps.Overlap first second) = (tt, tt)
step_tested (steps.Load side fault) = (tt, tt)
step_tested (steps.Walk fault) = (tt, tt)
step_tested steps.Failed = (tt, tt)
step_tested steps.NoMemory = (tt, tt)

pub map_tested : (fault : MapFault) → IsTested (of_map fault)
map_tested (maps.NotAName path) = (tt, tt)
map_tested (maps.Meet one other) = (tt, tt)
map_tested maps.NoMemory = (tt, tt)

-- ---- where the tests have passed

stop_places : (fault : MoveFault) (Is : Type 0) (P : PutFault → Type 0) → IsStop Is P fault → IsOfPlacing fault
stop_places (Place why) Is P stops = tt
stop_places (Work why) Is P stops = tt
stop_places (Walk why) Is P stops = tt
stop_places (Matching why) Is P stops = tt
stop_places (Differ path how) Is P stops = tt
stop_places Failed Is P stops = tt
stop_places NoMemory Is P stops = tt
stop_places (Unread why) Is P stops = absurd stops
stop_places (Overlap p q) Is P stops = absurd stops
stop_places (Load side why) Is P stops = absurd stops
stop_places (NotEmpty at) Is P stops = absurd stops
stop_places (NotAllowed path) Is P stops = absurd stops
stop_places (Meet one other) Is P stops = absurd stops
stop_places (Changed plan items plan' items') Is P stops = absurd stops
stop_places SourceGone Is P stops = absurd stops

work_places : (fault : WorkFault) → IsOfPlacing (of_work fault)
work_places works.Failed = tt
work_places works.NoMemory = tt
work_places (works.NoParent at) = tt
work_places (works.WrongKind at) = tt
work_places (works.Foreign at) = tt
work_places works.Begun = tt
work_places works.Depth = tt

pub moves_places : {T : Type 0} (readies : looking.Looked → Type 0) (from to : OpenedVault) (v : View) (items : List Planned) (answer : Result T MoveFault) → Unless answer (Moves readies from to v items answer) → IfErr answer IsOfPlacing
moves_places readies from to v items (Ok value) h = tt
moves_places readies from to v items (Err fault) h = elim h [
  | inl failed ↦ let same : fault ≡ Failed = cc failed in subst IsOfPlacing (sym same) tt
  | inr (inl none) ↦ let same : fault ≡ NoMemory = cc none in subst IsOfPlacing (sym same) tt
  | inr (inr (Ok readied, tested, stops)) ↦ stop_places fault _ _ stops
  | inr (inr (Err why, tested, is)) ↦ let same : fault ≡ of_work why = cc is in subst IsOfPlacing (sym same) (work_places why)
]
