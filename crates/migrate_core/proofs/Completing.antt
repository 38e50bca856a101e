-- Where a migration can begin, no test of `begin` fails, and no content stops it.
use Rattle.std.proofs.Common.{◌≡◌, ◌≢◌, inl, inr, List, [], ◌∷◌, ◌++◌, ℕ, zero, suc, Bool, false, length, ◌≤◌, Result, Ok, Err, MatchResult, IfErr, Contains, refl, sym, ap, ◌∙◌, subst, arith}
use Rattle.std.proofs.Math.Path.{fun_ext}
use Rattle.chunk_files.specs.Reading as reading
use Rattle.item_making.specs.declared.fault.PutFault.{PutFault}
use Rattle.item_making.specs.declared.fault.PutFault.TheVariants as put
use Rattle.folder_spec.proofs.Paths.{below-append}
use Rattle.folder_spec.specs.Path.{Path, parent}
use Rattle.folder_spec.specs.Seen.{under}
use Rattle.folder_spec.specs.View.{FileOf, Folder, Found, NoEntry, Special, View, kind_found}
use Rattle.folder_spec.specs.declared.FolderFault.{FolderFault}
use Rattle.folder_spec.specs.declared.Kind.{Kind}
use Rattle.folder_spec.specs.declared.Kind.TheVariants as kind
use Rattle.item_making.specs.Making.{is_inside}
use Rattle.migrate_core.proofs.Writings.{in_second}
use Rattle.migrate_core.specs.Causes.{Answer, Begins, BeginsApart, BeginsWith, EndsSo, ForbidsMappedLast, IsOfMoving, IsStop, Moves, StopsAt, StopsMatch, TestsEmpty, TestsMapped, TestsNames, Unless}
use Rattle.migrate_core.specs.Completing.{CanBegin, IsIntact, IsOfChance}
use Rattle.migrate_core.specs.Copying.{BothHaveOwnFolders}
use Rattle.migrate_core.specs.Faults.{Blamed, IsMoveFault, of_folder, of_map, of_step, of_work}
use Rattle.migrate_core.specs.Sides.{AllowsMappedLast, IsAsked}
use Rattle.migrate_core.specs.declared.fault.MoveFault.{MoveFault}
use Rattle.migrate_core.specs.declared.fault.MoveFault.TheVariants.{Work, Journal as Unread, Overlap, Load, Walk, NotEmpty, NotAllowed, Meet, Changed, Match as Matching, Differ, Place, SourceGone, Failed, NoMemory}
use Rattle.plain_tree.specs.Names as plain
use Rattle.plain_tree.specs.declared.NodeKind.TheVariants.{File}
use Rattle.tree_match.proofs.Passing.{NoneMeet, TellsTree, each_mapped_file, walk_maps}
use Rattle.tree_match.specs.Comparing.{content_at}
use Rattle.migration_sides.proofs.Passing.{Any, apart_met, both_open, both_walked, given, met, only_or, own_folders, OnlyBy, if_only}
use Rattle.migration_sides.specs.Causes.{Opens, TestsApart}
use Rattle.migration_sides.specs.Sides.{IsShallow}
use Rattle.migration_sides.specs.Tests.{PassesOr, Then, own}
use Rattle.migration_spec.specs.Guard as guard
use Rattle.migration_spec.specs.Guard.{AreOpenedBy, HoldsSource, IsWork, Migration, kinds_in, tree_at}
use Rattle.vault_spec.specs.PlanOf.{IsPlanOf}
use Rattle.vault_spec.specs.Mapped.{AllowsTree, StaysApart}
use Rattle.plain_tree.specs.declared.name_map.NameMap.{NameMap}
use Rattle.tree_match.specs.Mapping.{IsMappedPlan, MapsTo}
use Rattle.tree_match.specs.Trees.{IsWalkOf, side_of}
use Rattle.tree_match.specs.declared.answer.MapFault.{MapFault}
use Rattle.tree_match.specs.declared.answer.MatchFault.{MatchFault}
use Rattle.tree_match.specs.declared.answer.MatchFault.TheVariants as match
use Rattle.vault_read.specs.Laws.{HaveOneAnswer}
use Rattle.vault_spec.specs.Opened.{OpenedVault}
use Rattle.vault_faults.specs.declared.fault.Limit.TheVariants as limit
use Rattle.vault_spec.proofs.Mapped.{contains_mapped}
use Rattle.vault_spec.specs.Format.{Format}
use Rattle.vault_spec.specs.Opens.{NoItem, Tree}
use Rattle.vault_spec.specs.Plan.{Planned}
use Rattle.vault_spec.specs.Vault.{format_of}
use Rattle.vault_walk.specs.declared.plan.Plan.{Plan}
use Rattle.work_folder.specs.Entering.{Empties, EntersAs}
use Rattle.work_folder.specs.Entries.{HasNoForeign, journal_path, stage_path}
use Rattle.work_folder.specs.Looking.{Tests, TestsJournal, TestsKind, TestsParent}
use Rattle.work_folder.specs.Looking as looking
use Rattle.work_folder.specs.declared.fault.WorkFault.TheVariants as works
use Rattle.migration_sides.proofs.Chains.{unless_met}
use Rattle.migration_sides.proofs.Told.{by_folder}
use Rattle.vault_spec.specs.Alike.{IsOrderly}

-- ---- tests that can only pass

-- such a value, unless chance has it otherwise
abbrev pub Only : {X : Type 0} → (X → Type 0) → Answer X → Type 0
Only = OnlyBy IsOfChance

-- ---- the folders

-- its stage is emptied
pub staged_met : (v : View) (work : Path) → IsWork false (kinds_in v) work → IsShallow (stage_path work) v → (t : looking.Looked) → Empties v work t → MatchResult t Any (λ why. IsOfChance (of_work why))
staged_met v work is shallow (Ok done) empties = tt
staged_met v work is shallow (Err (works.NoParent p)) empties = absurd empties
staged_met v work is shallow (Err (works.WrongKind p)) empties = absurd empties
staged_met v work is shallow (Err (works.Foreign p)) empties = absurd (by_rest empties.0.rest empties.0.is empties.0.least)
  where
    by_rest : (rest : Path) → p ≡ stage_path work ++ rest → 1 ≤ length rest → ⊥
    by_rest [] at some = omega (arith, some)
    by_rest (a ∷ more) at some = is.staged (stage_path work ++ a ∷ more) (ap is_inside (below-append (stage_path work) (a ∷ more))) (ap kind_found (ap v (sym at) ∙ empties.1))
staged_met v work is shallow (Err works.Begun) empties = absurd empties
staged_met v work is shallow (Err works.Depth) empties = absurd (empties.2 (shallow empties.0 empties.1))
staged_met v work is shallow (Err works.Failed) empties = tt
staged_met v work is shallow (Err works.NoMemory) empties = tt

-- a work folder that is Missing or without a journal and foreign entries, in a directory
module _ (v : View) (work : Path) (above : v (parent work) ≡ Folder) (is : IsWork false (kinds_in v) work) (none : v (journal_path work) ≡ NoEntry) where
  no_foreign : v work ≡ Folder → HasNoForeign false v work
  no_foreign folder = elim is.folder [
    | inl missing ↦ (let clash : kind.Dir ≡ kind.Missing = sym (ap kind_found folder) ∙ missing in cc clash)
    | inr there ↦ there.1
  ]

  nothing_else : (k : Kind) → kinds_in v work ≡ k → k ≢ kind.Missing → k ≢ kind.Dir → ⊥
  nothing_else k same not_missing not_dir = elim is.folder [
    | inl missing ↦ not_missing (sym same ∙ missing)
    | inr there ↦ not_dir (sym same ∙ there.0)
  ]

  tests_pass : (t : looking.Looked) → Tests v work t → t ≡ Ok tt
  tests_pass t tests = by_kind (v work) refl (subst (λ x. TestsParent x v work t) above tests)
    where
      by_kind : (x : Found) → v work ≡ x → TestsKind x v work t → t ≡ Ok tt
      by_kind NoEntry e tested = tested
      by_kind Folder e tested = elim (subst (λ x. TestsJournal x v work t) none tested) [
        | inl passed ↦ passed.1
        | inr failed ↦ absurd (no_foreign e failed.0 failed.1.foreign)
      ]
      by_kind (FileOf bytes) e tested = absurd (nothing_else kind.File (ap kind_found e) (λ c. cc c) (λ c. cc c))
      by_kind Special e tested = absurd (nothing_else kind.Other (ap kind_found e) (λ c. cc c) (λ c. cc c))

  looks_met : (t : looking.Looked) → Tests v work t → MatchResult t Any (λ why. IsOfChance (of_work why))
  looks_met t tests = subst (λ (x : looking.Looked). MatchResult x Any (λ why. IsOfChance (of_work why))) (sym (tests_pass t tests)) tt

  enters_met : IsShallow (stage_path work) v → (t : looking.Looked) → EntersAs v work t → MatchResult t Any (λ why. IsOfChance (of_work why))
  enters_met shallow t (inl refused) = absurd (refused.1 (tests_pass t refused.0))
  enters_met shallow t (inr emptied) = staged_met v work is shallow t emptied.1

-- ---- the items

-- no two directories of either vault share a folder where both are in good order
pub own_both : (from to : OpenedVault) (v : View) → IsOrderly (format_of from.vault) (under from.root v) → IsOrderly (format_of to.vault) (under to.root v) → BothHaveOwnFolders from to v
own_both from to v orderly orderly_too = record { source = own_folders from.vault (under from.root v) orderly; target = own_folders to.vault (under to.root v) orderly_too }

-- a tree of the root alone has no items
none_planned : (t : Tree) (items : List Planned) → guard.IsEmpty t → IsPlanOf t items → items ≡ []
none_planned t [] empty plan = refl
none_planned t (item ∷ items) empty plan = let there = (plan.items.items item.path).0 (zero, omega arith, refl) in absurd (there.1 (empty item.path there.0))

empty_met : (there : List Planned) (answer : Answer (Unit {0})) → there ≡ [] → TestsEmpty there answer → Only Any answer
empty_met [] answer none tested = given IsOfChance Any tt answer tt tested
empty_met (item ∷ there) answer none tested = cc none

pub names_met : (rule : NameMap) (f : Format) (items : List Planned) → ((item : Planned) → Contains items item → AllowsMappedLast rule f item.path) → (answer : Answer (Unit {0})) → TestsNames rule f items answer → Only Any answer
names_met rule f [] allowed answer tested = given IsOfChance Any tt answer tt tested
names_met rule f (item ∷ items) allowed answer tested =
    met IsOfChance own (PassesOr (AllowsMappedLast rule f item.path) (ForbidsMappedLast rule f item.path) (NotAllowed item.path)) (λ _. TestsNames rule f items) Any Any answer
    (λ t. only_or IsOfChance (AllowsMappedLast rule f item.path) (ForbidsMappedLast rule f item.path) (NotAllowed item.path) t (λ forbids. forbids.forbidden (allowed item (zero, omega arith, refl) forbids.front forbids.name forbids.is)))
    (λ _ _. names_met rule f items (λ other among. allowed other (suc among.0, omega (arith, among.1), among.2)) answer) tested

-- what a migration whose target allows each mapped name, and of which no two items come to one path, is to map
module _ (tells : TellsTree) (meet : NoneMeet) (g : Migration) (v : View) (source : HoldsSource g v) (allowed : AllowsTree g.names (format_of g.target.vault) g.held) (apart : StaysApart g.names g.held)
    (items : List Planned) (walk : IsWalkOf v (side_of g.source items)) where
  is_held : (item : Planned) → Contains items item → g.held item.path ≢ NoItem
  is_held item among none =
      let plan = tells v (side_of g.source items) walk in
      let there = (plan.items.items item.path).0 (contains_mapped (λ (x : Planned). x.path) items item among) in
      there.1 (source.held item.path ∙ none)

  last_allowed : (item : Planned) → Contains items item → AllowsMappedLast g.names (format_of g.target.vault) item.path
  last_allowed item among front name is =
      allowed item.path name (is_held item among) (subst (λ (p : plain.Path). Contains p name) (sym is) (in_second front (name ∷ []) name (zero, omega arith, refl)))

  maps_met : (t : Result Plan MapFault) → MapsTo g.names items t → MatchResult t (λ plan. IsMappedPlan g.names items plan.items) (λ why. IsOfChance (of_map why))
  maps_met =
      let same = sym (fun_ext source.held) in
      walk_maps tells meet (λ why. IsOfChance (of_map why)) tt g.names (format_of g.target.vault) v (side_of g.source items) walk
      (subst (AllowsTree g.names (format_of g.target.vault)) same allowed) (subst (StaysApart g.names) same apart)

  pub mapped_met : {Y : Type 0} (next : List Planned → Answer Y → Type 0) (answer : Answer Y)
      → ((mapped : List Planned) → IsMappedPlan g.names items mapped → next mapped answer → Only Any answer)
      → TestsMapped g.names (format_of g.target.vault) items next answer → Only Any answer
  mapped_met next answer goes =
      met IsOfChance own (TestsNames g.names (format_of g.target.vault) items) (λ _. Then of_map (MapsTo g.names items) (λ plan. next plan.items)) Any Any answer (names_met g.names (format_of g.target.vault) items last_allowed)
      (λ _ _. met IsOfChance of_map (MapsTo g.names items) (λ plan. next plan.items) (λ plan. IsMappedPlan g.names items plan.items) Any answer maps_met (λ plan same. goes plan.items same))

-- ---- moving

-- the contents of a vault that is intact end whole, also at the mapped paths
pub mapped_whole : (rule : NameMap) (a : OpenedVault) (v : View) → IsIntact a v → (items mapped : List Planned) → IsWalkOf v (side_of a items) → IsMappedPlan rule items mapped → (x : Planned) → Contains mapped x → x.node ≡ File
    → (content_at (format_of a.vault).content v x.at).ending ≡ reading.Whole
mapped_whole rule a v intact items mapped walk same = each_mapped_file (λ ending. ending ≡ reading.Whole) a v intact.contents items walk rule mapped same

module _ (from to : OpenedVault) (v : View) (items : List Planned) (folders : BothHaveOwnFolders from to v)
    (whole : (x : Planned) → Contains items x → x.node ≡ File → (content_at (format_of from.vault).content v x.at).ending ≡ reading.Whole) where
  abbrev Given : Type 0
  Given = BothHaveOwnFolders from to v

  none_ends : (at : Path) (ending : reading.Ending) → reading.Whole ≢ ending → EndsSo from v items at ending → ⊥
  none_ends at ending other ends = other (sym (whole ends.item ends.among ends.file) ∙ ends.ends)

  place_met : (why : PutFault) → IsMoveFault (Place why) → StopsAt Given from v items why → IsOfChance (Place why)
  place_met (put.Damaged at fault) may stops = absurd (none_ends at (reading.Faulty fault) (λ e. cc e) stops)
  place_met (put.Limit (limit.Length at)) may stops = absurd (none_ends at reading.Wanting (λ e. cc e) stops)
  place_met (put.Limit limit.Items) may stops = absurd stops
  place_met (put.Limit limit.Depth) may stops = absurd stops
  place_met (put.Limit limit.Input) may stops = absurd stops
  place_met put.Source may stops = absurd stops
  place_met (put.Find fault) may stops = absurd (stops folders)
  place_met (put.NotAllowed path) may stops = absurd stops
  place_met (put.Taken at) may stops = tt
  place_met put.ZeroRandom may stops = tt
  place_met put.Random may stops = tt
  place_met put.Failed may stops = absurd may
  place_met put.NoMemory may stops = absurd may

  match_met : (why : MatchFault) → StopsMatch Given why → IsOfChance (Matching why)
  match_met (match.Limit (limit.Length at)) stops = tt
  match_met (match.Limit limit.Items) stops = absurd (stops folders)
  match_met (match.Limit limit.Depth) stops = absurd (stops folders)
  match_met (match.Limit limit.Input) stops = absurd (stops folders)
  match_met (match.Damaged at fault) stops = absurd (stops folders)
  match_met match.Failed stops = absurd (stops folders)
  match_met match.NoMemory stops = absurd (stops folders)

  stop_met : (fault : MoveFault) → IsMoveFault fault → IsStop Given (StopsAt Given from v items) fault → IsOfChance fault
  stop_met (Place why) may stops = place_met why may stops
  stop_met (Walk fault) may stops = absurd (stops folders)
  stop_met (Matching fault) may stops = match_met fault stops
  stop_met (Differ path how) may stops = absurd (stops folders)
  stop_met Failed may stops = tt
  stop_met NoMemory may stops = tt
  stop_met (Work fault) may stops = absurd stops
  stop_met (Unread fault) may stops = absurd stops
  stop_met (Overlap p q) may stops = absurd stops
  stop_met (Load which fault) may stops = absurd stops
  stop_met (NotEmpty at) may stops = absurd stops
  stop_met (NotAllowed path) may stops = absurd stops
  stop_met (Meet one other) may stops = absurd stops
  stop_met (Changed plan items plan' items') may stops = absurd stops
  stop_met SourceGone may stops = absurd stops

  pub moving_met : {Y : Type 0} (answer : Answer Y) → IfErr answer IsMoveFault → IsOfMoving Given (StopsAt Given from v items) answer → Only Any answer
  moving_met (Ok value) may moving = tt
  moving_met (Err fault) may moving = stop_met fault may moving

-- ---- the call

pub record AreCited : Type 0 where
  pub one : HaveOneAnswer
  pub tells : TellsTree
  pub meet : NoneMeet

module _ (laws : AreCited) (g : Migration) (v : View) (from_pass to_pass : List ℕ) (opened : AreOpenedBy g from_pass to_pass v) (can : CanBegin g v) where
  folders_own : BothHaveOwnFolders g.source g.target v
  folders_own = own_both g.source g.target v can.begun.source.there.good.orderly can.begun.target.good.orderly

  module _ {Y : Type 0} (answer : Answer Y) (may : IfErr answer IsMoveFault) where
    abbrev moved : List Planned → Answer Y → Type 0
    moved mapped = Moves (EntersAs v g.work) g.source g.target v mapped

    moves_met : (items mapped : List Planned) → IsWalkOf v (side_of g.source items) → IsMappedPlan g.names items mapped → moved mapped answer → Only Any answer
    moves_met items mapped walk same =
        met IsOfChance of_work (EntersAs v g.work) (λ _. IsOfMoving (BothHaveOwnFolders g.source g.target v) (StopsAt (BothHaveOwnFolders g.source g.target v) g.source v mapped)) Any Any answer
        (enters_met v g.work can.above can.work can.begun.journal can.stage)
        (λ _ _. moving_met g.source g.target v mapped folders_own (mapped_whole g.names g.source v can.source items mapped walk same) answer may)

    abbrev tested : List Planned → List Planned → Answer Y → Type 0
    tested items there = Then own (TestsEmpty there) (λ _. TestsMapped g.names (format_of g.target.vault) items moved)

    items_met : (items there : List Planned) → IsWalkOf v (side_of g.source items) → IsWalkOf v (side_of g.target there) → tested items there answer → Only Any answer
    items_met items there walk walk_there =
        met IsOfChance own (TestsEmpty there) (λ _. TestsMapped g.names (format_of g.target.vault) items moved) Any Any answer
        (λ t. empty_met there t (none_planned (tree_at g.target v) there can.begun.empty (laws.tells v (side_of g.target there) walk_there)))
        (λ _ _. mapped_met laws.tells laws.meet g v can.begun.source can.allowed can.apart items walk moved answer (λ mapped same. moves_met items mapped walk same))

    with_met : BeginsWith g.names g.source g.target g.work v answer → Only Any answer
    with_met = both_walked IsOfChance of_step g.source g.target v tested answer can.begun.source.there.good can.source.items can.begun.target.good can.target items_met

    apart_then : BeginsApart g.names g.source.root g.target.root g.work from_pass to_pass v answer → Only Any answer
    apart_then =
        met IsOfChance of_work (Tests v g.work) (λ _. Opens of_step v g.source.root g.target.root from_pass to_pass (λ from to. BeginsWith g.names from to g.work v)) Any Any answer
        (looks_met v g.work can.above can.work can.begun.journal)
        (λ _ _. both_open IsOfChance of_step laws.one g.source g.target v from_pass to_pass (λ from to. BeginsWith g.names from to g.work v) answer (opened.source can.begun.source.there) (opened.target can.begun.target) with_met)

    begins_met : Begins g.names g.source.root g.target.root g.work from_pass to_pass v answer → Only Any answer
    begins_met =
        met IsOfChance of_step (TestsApart g.source.root g.target.root g.work) (λ _. BeginsApart g.names g.source.root g.target.root g.work from_pass to_pass v) Any Any answer
        (apart_met (λ why. IsOfChance (of_step why)) g.source.root g.target.root g.work can.separate.vaults can.separate.source can.separate.target) (λ _ _. apart_then)

pub goes_through : AreCited → {Y : Type 0} (g : Migration) (from_pass to_pass : List ℕ) (v : View) (answer : Answer Y) → AreOpenedBy g from_pass to_pass v → CanBegin g v → IfErr answer IsMoveFault
    → Begins g.names g.source.root g.target.root g.work from_pass to_pass v answer → IfErr answer IsOfChance
goes_through laws g from_pass to_pass v answer opened can may begins = if_only IsOfChance answer (begins_met laws g v from_pass to_pass opened can answer may begins)

-- ---- by the answer

pub own_faults : {Y : Type 0} (is_own : MoveFault → Bool) (answer : Answer Y) (folder random : Type 0) → IfErr answer (Blamed is_own folder random) → IfErr answer IsMoveFault
own_faults is_own (Ok value) folder random blamed = tt
own_faults is_own (Err fault) folder random blamed = blamed.own

pub folder_chance : (fault : FolderFault) → IsOfChance (of_folder fault)
folder_chance = by_folder IsOfChance of_folder refl tt tt

-- as it is asked for
pub begin_completes : {Y : Type 0} (g : Migration) (v : View) (rule : NameMap) (from to work : Path) (from_pass to_pass : List ℕ) (answer : Answer Y) → IsAsked g rule from to work
    → (Begins g.names g.source.root g.target.root g.work from_pass to_pass v answer → IfErr answer IsOfChance) → Unless answer (Begins rule from to work from_pass to_pass v answer) → IfErr answer IsOfChance
begin_completes g v rule from to work from_pass to_pass answer asked completes =
    unless_met Failed NoMemory IsOfChance tt tt answer (Begins rule from to work from_pass to_pass v answer)
    (λ begins. completes
    (subst (λ n. Begins n g.source.root g.target.root g.work from_pass to_pass v answer) (sym asked.names)
    (subst (λ p. Begins rule g.source.root g.target.root p from_pass to_pass v answer) (sym asked.work)
    (subst (λ p. Begins rule g.source.root p work from_pass to_pass v answer) (sym asked.target)
    (subst (λ p. Begins rule p to work from_pass to_pass v answer) (sym asked.source) begins)))))
