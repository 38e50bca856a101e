-- Why `begin` and `resume` refuse before they change anything: their tests in order, by what is seen at first. The first test that fails
-- is the answer.
use Rattle.std.specs.Prelude.{◌≡◌, ◌≢◌, ◌⊎◌, ◌∷◌, [], List, ℕ, length, ◌++◌, Bool, true, false, Result, Ok, Err, Contains, Option}
use Rattle.chunk_files.specs.Reading.{Ending, Faulty, Wanting}
use Rattle.item_making.specs.declared.fault.PutFault.{PutFault}
use Rattle.item_making.specs.declared.fault.PutFault.TheVariants as put
use Rattle.folder_spec.specs.Event.{Told}
use Rattle.folder_spec.specs.Path.{Path}
use Rattle.folder_spec.specs.Seen.{IfSeen}
use Rattle.folder_spec.specs.View.{NoEntry, View}
use Rattle.move_journal.specs.Reading.{ReadsAs, journal_bytes}
use Rattle.move_journal.specs.declared.journal.Journal.{Journal}
use Rattle.move_journal.specs.declared.journal.Phase.{Phase}
use Rattle.move_journal.specs.declared.journal.Phase.TheVariants as phase
use Rattle.plain_tree.specs.Names as plain
use Rattle.plain_tree.specs.declared.name_map.NameMap.{NameMap}
use Rattle.plain_tree.specs.declared.NodeKind.TheVariants.{File}
use Rattle.tree_match.specs.Comparing.{content_at}
use Rattle.migration_sides.specs.Causes.{Opens, TestsApart, WalksBoth}
use Rattle.migration_sides.specs.Tests.{PassesOr, Then, UnlessBy, all_pass, own}
use Rattle.migration_spec.specs.Guard.{old_path}
use Rattle.vault_spec.specs.Mapped.{AllowsMapped}
use Rattle.tree_match.specs.Mapping.{MapsTo}
use Rattle.tree_match.specs.Trees.{Compares, HoldsOr}
use Rattle.tree_match.specs.declared.answer.How.{How}
use Rattle.tree_match.specs.declared.answer.How.TheVariants as how
use Rattle.tree_match.specs.declared.answer.Match.{Match}
use Rattle.tree_match.specs.declared.answer.MatchFault.{MatchFault}
use Rattle.tree_match.specs.declared.answer.MatchFault.TheVariants as match
use Rattle.tree_match.specs.declared.answer.Where.{Where}
use Rattle.tree_match.specs.declared.answer.Where.TheVariants as place
use Rattle.vault_spec.specs.Opened.{OpenedVault}
use Rattle.vault_faults.specs.declared.fault.Limit.TheVariants as limit
use Rattle.vault_spec.specs.Format.{Format}
use Rattle.vault_spec.specs.Plan.{Planned}
use Rattle.vault_spec.specs.Vault.{format_of}
use Rattle.vault_walk.specs.Digest.{plan_digest}
use Rattle.work_folder.specs.Entering.{Empties, EntersAs}
use Rattle.work_folder.specs.Looking.{Tests, TestsEntries}
use Rattle.work_folder.specs.Looking as work
use Rattle.migrate_core.specs.Copying.{BothHaveOwnFolders}
use Rattle.migrate_core.specs.Faults.{of_journal, of_map, of_match, of_step, of_work}
use Rattle.migrate_core.specs.Sides.{AllowsMappedLast, AreTold}
use Rattle.migrate_core.specs.declared.fault.MoveFault.{MoveFault}
use Rattle.migrate_core.specs.declared.fault.MoveFault.TheVariants.{Work, Journal as Unread, Overlap, Load, Walk, NotEmpty, NotAllowed, Meet, Changed, Match as Matching, Differ, Place, SourceGone, Failed, NoMemory}

-- what a call may answer of which one test is a part
abbrev pub Answer : Type 0 → Type 0
Answer X = Result X MoveFault

-- the folder may always fail, and memory run out
abbrev pub Unless : {X : Type 0} → Answer X → Type 0 → Type 0
Unless answer P = UnlessBy Failed NoMemory answer P

-- ---- the source

abbrev pub IsGone : Path → Path → View → Type 0
IsGone work source v = (v (old_path work) ≢ NoEntry) ⊎ (v source ≡ NoEntry)

-- a source of which all is in the target is there still, and was not moved into the work folder
abbrev pub TestsSource : Phase → Path → Path → View → Answer (Unit {0}) → Type 0
TestsSource phase.Building work source v answer = answer ≡ Ok tt
TestsSource phase.Done work source v answer = PassesOr (¬ IsGone work source v) (IsGone work source v) SourceGone answer

-- ---- the items

-- the target is empty
abbrev pub TestsEmpty : List Planned → Answer (Unit {0}) → Type 0
TestsEmpty [] answer = answer ≡ Ok tt
TestsEmpty (item ∷ items) answer = answer ≡ Err (NotEmpty item.at)

-- the last name of a path, mapped, is no name or not allowed
pub record ForbidsMappedLast (rule : NameMap) (f : Format) (path : plain.Path) : Type 0 where
  pub front : plain.Path
  pub name : List ℕ
  pub is : path ≡ front ++ name ∷ []
  pub forbidden : ¬ AllowsMapped rule f name

-- each mapped name is a name and allowed
abbrev pub TestsNames : NameMap → Format → List Planned → Answer (Unit {0}) → Type 0
TestsNames rule f [] answer = answer ≡ Ok tt
TestsNames rule f (item ∷ items) answer =
    Then own (PassesOr (AllowsMappedLast rule f item.path) (ForbidsMappedLast rule f item.path) (NotAllowed item.path)) (λ _. TestsNames rule f items) answer

-- so it is, and no two of the items come to one path: then they are these at their mapped paths
abbrev pub TestsMapped : {Y : Type 0} → NameMap → Format → List Planned → (List Planned → Answer Y → Type 0) → Answer Y → Type 0
TestsMapped rule f items next = Then own (TestsNames rule f items) (λ _. Then of_map (MapsTo rule items) (λ plan. next plan.items))

-- the source has the items that the journal tells
abbrev pub TestsTold : Journal → List Planned → Answer (Unit {0}) → Type 0
TestsTold journal items = PassesOr (AreTold journal items) (¬ AreTold journal items) (Changed journal.plan journal.items (plan_digest items) (length items))

-- how an item of the target isn't so in the source
abbrev pub where_in : How → Where
where_in how.Missing = place.Extra
where_in how.Kind = place.Kind
where_in how.Content = place.Content

-- each item of the target is so in the source
abbrev pub TestsHeld : Match → Answer (Unit {0}) → Type 0
TestsHeld = HoldsOr (λ path how. Differ path (where_in how))

-- so it is by comparing them
abbrev pub TestsMatch : {Y : Type 0} → OpenedVault → List Planned → OpenedVault → List Planned → View → (Answer Y → Type 0) → Answer Y → Type 0
TestsMatch a items b others v next = Then of_match (Compares a items b others v) (λ match. Then own (TestsHeld match) (λ _. next))

-- ---- the calls

-- the content file of one of these items, at this path, is read so to its end
pub record EndsSo (from : OpenedVault) (v : View) (items : List Planned) (at : Path) (ending : Ending) : Type 0 where
  pub item : Planned
  pub among : Contains items item
  pub file : item.node ≡ File
  pub place : item.at ≡ at
  pub ends : (content_at (format_of from.vault).content v item.at).ending ≡ ending

-- Why one of these items isn't placed: of a content that is damaged or passes the limit, that it does. In vaults of which this is so,
-- the directory that is to have the item is always found.
abbrev pub StopsAt : Type 0 → OpenedVault → View → List Planned → PutFault → Type 0
StopsAt Is from v items (put.Damaged at fault) = EndsSo from v items at (Faulty fault)
StopsAt Is from v items (put.Limit (limit.Length at)) = EndsSo from v items at Wanting
StopsAt Is from v items (put.Limit limit.Items) = ⊥
StopsAt Is from v items (put.Limit limit.Depth) = ⊥
StopsAt Is from v items (put.Limit limit.Input) = ⊥
StopsAt Is from v items put.Source = ⊥
StopsAt Is from v items (put.Find fault) = ¬ Is
StopsAt Is from v items (put.NotAllowed path) = ⊥
StopsAt Is from v items fault = Unit {0}

-- of contents that are compared only the limit counts, where this is so
abbrev pub StopsMatch : Type 0 → MatchFault → Type 0
StopsMatch Is (match.Limit (limit.Length at)) = Unit {0}
StopsMatch Is (match.Limit limit.Items) = ¬ Is
StopsMatch Is (match.Limit limit.Depth) = ¬ Is
StopsMatch Is (match.Limit limit.Input) = ¬ Is
StopsMatch Is (match.Damaged at fault) = ¬ Is
StopsMatch Is match.Failed = ¬ Is
StopsMatch Is match.NoMemory = ¬ Is

-- What may be answered once all tests have passed and the stage is made ready: an item isn't placed, for such a reason. In vaults of
-- which this is so, both are walked again, and are the same, unless a content passes the limit where it is compared.
abbrev pub IsStop : Type 0 → (PutFault → Type 0) → MoveFault → Type 0
IsStop Is P (Place fault) = P fault
IsStop Is P (Walk fault) = ¬ Is
IsStop Is P (Matching fault) = StopsMatch Is fault
IsStop Is P (Differ path how) = ¬ Is
IsStop Is P Failed = Unit {0}
IsStop Is P NoMemory = Unit {0}
IsStop Is P (Work fault) = ⊥
IsStop Is P (Unread fault) = ⊥
IsStop Is P (Overlap p q) = ⊥
IsStop Is P (Load side fault) = ⊥
IsStop Is P (NotEmpty at) = ⊥
IsStop Is P (NotAllowed path) = ⊥
IsStop Is P (Meet one other) = ⊥
IsStop Is P (Changed plan items plan' items') = ⊥
IsStop Is P SourceGone = ⊥

abbrev pub IsOfMoving : {Y : Type 0} → Type 0 → (PutFault → Type 0) → Answer Y → Type 0
IsOfMoving Is P (Ok value) = Unit {0}
IsOfMoving Is P (Err fault) = IsStop Is P fault

-- the stage is made ready, as the work folder answers, and then items are moved between vaults of which no two directories share a folder
abbrev pub Moves : {Y : Type 0} → (work.Looked → Type 0) → OpenedVault → OpenedVault → View → List Planned → Answer Y → Type 0
Moves readies from to v items = Then of_work readies (λ _. IsOfMoving (BothHaveOwnFolders from to v) (StopsAt (BothHaveOwnFolders from to v) from v items))

-- the tests of `begin` of two opened vaults: both are clean, the target is empty and allows each mapped name, and no two items come to
-- one path
abbrev pub TestsToBegin : {Y : Type 0} → NameMap → OpenedVault → OpenedVault → View → (List Planned → Answer Y → Type 0) → Answer Y → Type 0
TestsToBegin rule from to v next = WalksBoth of_step from to v (λ items there. Then own (TestsEmpty there) (λ _. TestsMapped rule (format_of to.vault) items next))

abbrev pub BeginsWith : {Y : Type 0} → NameMap → OpenedVault → OpenedVault → Path → View → Answer Y → Type 0
BeginsWith rule from to work v = TestsToBegin rule from to v (λ mapped. Moves (EntersAs v work) from to v mapped)

-- behind the test that the folders don't overlap: the work folder can be made ready, and both vaults open
abbrev pub BeginsApart : {Y : Type 0} → NameMap → (from to work : Path) (from_pass to_pass : List ℕ) → View → Answer Y → Type 0
BeginsApart rule from to work from_pass to_pass v =
    Then of_work (Tests v work) (λ _.
    Opens of_step v from to from_pass to_pass (λ source target. BeginsWith rule source target work v))

abbrev pub Begins : {Y : Type 0} → NameMap → (from to work : Path) (from_pass to_pass : List ℕ) → View → Answer Y → Type 0
Begins rule from to work from_pass to_pass v = Then of_step (TestsApart from to work) (λ _. BeginsApart rule from to work from_pass to_pass v)

-- All of these tests pass, in this order.
pub record PassesBegin (rule : NameMap) (from to work : Path) (from_pass to_pass : List ℕ) (v : View) : Type 0 where
  pub apart : TestsApart from to work (Ok tt)
  pub folder : Tests v work (Ok tt)
  pub vaults : Opens of_step v from to from_pass to_pass (λ source target. TestsToBegin rule source target v all_pass) (Ok tt)

-- the tests of the items that the walks gave: the source has those of the journal, the target allows each mapped name, no two items come
-- to one path, and each item of the target is so among the mapped ones
abbrev pub TestsItems : {Y : Type 0} → OpenedVault → OpenedVault → Journal → View → List Planned → List Planned → (List Planned → Answer Y → Type 0) → Answer Y → Type 0
TestsItems from to journal v items there next =
    Then own (TestsTold journal items) (λ _.
    TestsMapped journal.names (format_of to.vault) items (λ mapped. TestsMatch to there from mapped v (next mapped)))

-- those of `resume` of two opened vaults: both are clean, and the items that the walks gave pass theirs
abbrev pub TestsToResume : {Y : Type 0} → OpenedVault → OpenedVault → Journal → View → (List Planned → Answer Y → Type 0) → Answer Y → Type 0
TestsToResume from to journal v next = WalksBoth of_step from to v (λ items there. TestsItems from to journal v items there next)

abbrev pub ResumesWith : {Y : Type 0} → OpenedVault → OpenedVault → Path → Journal → View → Answer Y → Type 0
ResumesWith from to work journal v = TestsToResume from to journal v (λ mapped. Moves (Empties v work) from to v mapped)

-- behind the tests of the work folder: the source is there still, and both vaults open
abbrev pub ResumesTold : {Y : Type 0} → Path → (from_pass to_pass : List ℕ) → View → Journal → Answer Y → Type 0
ResumesTold work from_pass to_pass v journal =
    Then own (TestsSource journal.phase work journal.source v) (λ _.
    Opens of_step v journal.source journal.target from_pass to_pass (λ source target. ResumesWith source target work journal v))

abbrev pub is_done : Phase → Bool
is_done phase.Building = false
is_done phase.Done = true

-- the journal is there; the three folders don't overlap; no entry of the work folder is foreign
abbrev pub Resumes : {Y : Type 0} → Path → (from_pass to_pass : List ℕ) → View → Answer Y → Type 0
Resumes work from_pass to_pass v =
    Then of_journal (ReadsAs (journal_bytes v work)) (λ journal.
    Then of_step (TestsApart journal.source journal.target work) (λ _.
    Then of_work (TestsEntries (is_done journal.phase) v work) (λ _. ResumesTold work from_pass to_pass v journal)))

-- those behind the tests of the work folder pass
pub record PassesTold (work : Path) (from_pass to_pass : List ℕ) (journal : Journal) (v : View) : Type 0 where
  pub source : TestsSource journal.phase work journal.source v (Ok tt)
  pub vaults : Opens of_step v journal.source journal.target from_pass to_pass (λ source target. TestsToResume source target journal v all_pass) (Ok tt)

-- All of these tests pass, in this order.
pub record PassesResume (work : Path) (from_pass to_pass : List ℕ) (v : View) : Type 0 where
  pub journal : Journal
  pub reads : ReadsAs (journal_bytes v work) (Ok journal)
  pub apart : TestsApart journal.source journal.target work (Ok tt)
  pub entries : TestsEntries (is_done journal.phase) v work (Ok tt)
  pub told : PassesTold work from_pass to_pass journal v

-- what may be answered once the tests have passed
abbrev pub IsOfPlacing : MoveFault → Type 0
IsOfPlacing (Unread fault) = ⊥
IsOfPlacing (Overlap p q) = ⊥
IsOfPlacing (Load side fault) = ⊥
IsOfPlacing (NotEmpty at) = ⊥
IsOfPlacing (NotAllowed path) = ⊥
IsOfPlacing (Meet one other) = ⊥
IsOfPlacing (Changed plan items plan' items') = ⊥
IsOfPlacing SourceGone = ⊥
IsOfPlacing fault = Unit {0}

-- ---- refusals of a part (private contracts only)

-- so it would be if nothing may follow
abbrev pub Refuses : (Answer (Unit {0}) → Type 0) → MoveFault → Type 0
Refuses test fault = Unless {X = Unit {0}} (Err fault) (test (Err fault))

-- no item isn't placed
abbrev pub nothing_stops : PutFault → Type 0
nothing_stops fault = ⊥

-- by all that is seen at first, where this is so of it
abbrev pub StopsSeen : (View → Type 0) → Option Told → OpenedVault → List Planned → MoveFault → Type 0
StopsSeen Is told from items fault = IfSeen told (λ v. IsStop (Is v) (StopsAt (Is v) from v items) fault)

-- where no item is placed
abbrev pub StopsLater : (View → Type 0) → Option Told → MoveFault → Type 0
StopsLater Is told fault = IfSeen told (λ v. IsStop (Is v) nothing_stops fault)
