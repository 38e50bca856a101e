-- Why `retire` refuses: its tests in order, by what is seen at first. The first test that fails is the answer, and where none does, the
-- source is retired.
use Rattle.std.specs.Prelude.{◌≡◌, ◌≢◌, ◌⊎◌, ℕ, List, true, Result, Ok, Err}
use Rattle.folder_spec.specs.Path.{Path}
use Rattle.folder_spec.specs.Seen.{moved_view}
use Rattle.folder_spec.specs.View.{Found, NoEntry, View}
use Rattle.folder_staging.specs.Removal.{RemovesAs, deepest, from}
use Rattle.migration_sides.specs.Causes.{Opens, TestsApart, WalksBoth}
use Rattle.migration_sides.specs.Tests.{PassesOr, Then, UnlessBy, own}
use Rattle.plain_tree.specs.declared.name_map.NameMap.{NameMap}
use Rattle.tree_match.specs.Mapping.{MapsTo}
use Rattle.tree_match.specs.Matching.{where_of}
use Rattle.tree_match.specs.Trees.{Compares, HoldsOr}
use Rattle.move_journal.specs.Reading.{ReadsAs, journal_bytes}
use Rattle.move_journal.specs.declared.journal.Journal.{Journal}
use Rattle.move_journal.specs.declared.journal.Phase.{Phase}
use Rattle.move_journal.specs.declared.journal.Phase.TheVariants as phase
use Rattle.migration_spec.specs.Guard.{old_path}
use Rattle.tree_match.specs.declared.answer.Match.{Match}
use Rattle.vault_spec.specs.Opened.{OpenedVault}
use Rattle.vault_spec.specs.Plan.{Planned}
use Rattle.work_folder.specs.Entries.{new_journal_path, stage_path}
use Rattle.work_folder.specs.Looking.{TestsEntries}
use Rattle.work_folder.specs.declared.fault.WorkFault.TheVariants.{Foreign}
use Rattle.retire_core.specs.Faults.{of_journal, of_map, of_match, of_removal, of_step, of_work}
use Rattle.retire_core.specs.declared.fault.RetireFault.{RetireFault}
use Rattle.retire_core.specs.declared.fault.RetireFault.TheVariants.{Work, Unfinished, Differ, Failed, NoMemory}
use Rattle.retire_core.specs.declared.retiring.Retired.{Retired}

-- what a call may answer of which one test is a part
abbrev pub Answer : Type 0 → Type 0
Answer X = Result X RetireFault

-- the folder may always fail, and memory run out
abbrev pub Unless : {X : Type 0} → Answer X → Type 0 → Type 0
Unless answer P = UnlessBy Failed NoMemory answer P

-- the folder failed, or memory ran out
abbrev pub IsOfFolder : RetireFault → Type 0
IsOfFolder fault = (fault ≡ Failed) ⊎ (fault ≡ NoMemory)

-- it passes, with this value
abbrev pub Passes : {X : Type 0} → X → Answer X → Type 0
Passes value answer = answer ≡ Ok value

-- ---- the journal

-- it says that all is done
abbrev pub TestsPhase : Journal → Phase → Answer Journal → Type 0
TestsPhase journal phase.Building answer = answer ≡ Err Unfinished
TestsPhase journal phase.Done answer = answer ≡ Ok journal

-- the journal is there, and says that all is done
abbrev pub ReadsDone : Path → View → Answer Journal → Type 0
ReadsDone work v = Then of_journal (ReadsAs (journal_bytes v work)) (λ journal. TestsPhase journal journal.phase)

-- ---- whether the target holds the source

-- each item of the source is so in the target at its mapped path, which may have more
abbrev pub TestsMatch : Match → Answer (Unit {0}) → Type 0
TestsMatch = HoldsOr (λ path how. Differ path (where_of how))

-- so it is by comparing their items
abbrev pub TestsItems : OpenedVault → List Planned → OpenedVault → List Planned → View → Answer (Unit {0}) → Type 0
TestsItems source items target others v = Then of_match (Compares source items target others v) TestsMatch

-- each mapped name is a name, no two items come to one path, and so it is
abbrev pub TestsMapped : NameMap → OpenedVault → List Planned → OpenedVault → List Planned → View → Answer (Unit {0}) → Type 0
TestsMapped rule source items target others v = Then of_map (MapsTo rule items) (λ mapped. TestsItems source mapped.items target others v)

-- both are clean, and so it is
abbrev pub TestsVaults : NameMap → OpenedVault → OpenedVault → View → Answer (Unit {0}) → Type 0
TestsVaults rule source target v = WalksBoth of_step source target v (λ items others. TestsMapped rule source items target others v)

-- both open, and so it is
abbrev pub TestsHeld : NameMap → (from to : Path) (from_pass to_pass : List ℕ) → View → Answer (Unit {0}) → Type 0
TestsHeld rule from to from_pass to_pass v = Opens of_step v from to from_pass to_pass (λ source target. TestsVaults rule source target v)

-- ---- moving the source into the work folder

-- nothing is at `old`
abbrev pub TestsFree : Path → View → Answer (Unit {0}) → Type 0
TestsFree work v = PassesOr (v (old_path work) ≡ NoEntry) (v (old_path work) ≢ NoEntry) (Work (Foreign (old_path work)))

-- The source isn't there, and isn't moved; or it is there, nothing is at `old`, and the target holds it.
abbrev pub TestsAway : Path → (from_pass to_pass : List ℕ) → Journal → View → Answer (Unit {0}) → Type 0
TestsAway work from_pass to_pass journal v answer =
    ((v journal.source ≡ NoEntry) × (answer ≡ Ok tt))
    ⊎ ((v journal.source ≢ NoEntry) × Then own (TestsFree work v) (λ _. TestsHeld journal.names journal.source journal.target from_pass to_pass v) answer)

-- what is seen then, by what was at the source
abbrev pub moved_away : Found → Path → Path → View → View
moved_away NoEntry source work v = v
moved_away there source work v = moved_view v source (old_path work)

-- ---- removing what is in the work folder

-- what is at the path and below it: only files and directories, and none deeper than 128 parts below it
abbrev pub TestsRemoval : Path → View → Answer (Unit {0}) → Type 0
TestsRemoval at v = Then of_removal (RemovesAs (from at deepest) v) Passes

-- all but the journal, in this order
abbrev pub TestsRemovals : Path → View → Answer (Unit {0}) → Type 0
TestsRemovals work v =
    Then own (TestsRemoval (old_path work) v) (λ _.
    Then own (TestsRemoval (stage_path work) v) (λ _. TestsRemoval (new_journal_path work) v))

-- ---- the call

-- as many items as the journal says
abbrev pub retired_of : Journal → Retired
retired_of journal = record { items = journal.items }

-- behind the tests of the work folder: the source may be moved away, and then all but the journal is removed
abbrev pub RetiresTold : Path → (from_pass to_pass : List ℕ) → Journal → View → Answer Retired → Type 0
RetiresTold work from_pass to_pass journal v =
    Then own (TestsAway work from_pass to_pass journal v) (λ _.
    Then own (TestsRemovals work (moved_away (v journal.source) journal.source work v)) (λ _. Passes (retired_of journal)))

-- the journal is there and says that all is done; the three folders don't overlap; no entry of the work folder is foreign
abbrev pub Retires : Path → (from_pass to_pass : List ℕ) → View → Answer Retired → Type 0
Retires work from_pass to_pass v =
    Then own (ReadsDone work v) (λ journal.
    Then of_step (TestsApart journal.source journal.target work) (λ _.
    Then of_work (TestsEntries true v work) (λ _. RetiresTold work from_pass to_pass journal v)))

-- All tests before the removals pass: the journal says that all is done, the three folders don't overlap, no entry of the work folder is
-- foreign, and the source is gone or may be moved away.
pub record PassesTests (work : Path) (from_pass to_pass : List ℕ) (v : View) : Type 0 where
  pub journal : Journal
  pub done : ReadsDone work v (Ok journal)
  pub apart : TestsApart journal.source journal.target work (Ok tt)
  pub entries : TestsEntries true v work (Ok tt)
  pub away : TestsAway work from_pass to_pass journal v (Ok tt)

-- ---- refusals of a part (private contracts only)

-- the test fails by this fault
abbrev pub Refuses : {X : Type 0} → (Answer X → Type 0) → RetireFault → Type 0
Refuses {X = X} test fault = Unless {X = X} (Err fault) (test (Err fault))
