-- Over a guarded migration that can be retired each test passes, unless the folder fails or memory runs out.
use Rattle.std.proofs.Math.Path.{fun_ext}
use Rattle.std.proofs.Common.{◌≡◌, ◌≢◌, ◌+◌, ◌<◌, ◌⊎◌, length, inl, inr, List, [], ◌∷◌, ◌++◌, ℕ, Bool, true, false, Option, None, Result, Ok, Err, MatchResult, IfErr, IsTrue, refl, sym, ap, ◌∙◌, subst, subst₂, append-nil, append_assoc, bytes_eq, codes, arith, Contains}
use Rattle.chunk_files.specs.Keys.{Keys}
use Rattle.chunk_files.specs.Reading.{Wanting}
use Rattle.folder_spec.proofs.Paths.{below-append, below-apart}
use Rattle.folder_spec.specs.Path.{Part, Path, below, child}
use Rattle.folder_spec.specs.Seen.{moved_found, moved_view, under}
use Rattle.folder_spec.specs.View.{Folder, Found, NoEntry, Special, View, kind_found}
use Rattle.folder_spec.specs.declared.Kind.TheVariants as kind
use Rattle.folder_staging.specs.Removal.{RemovesAs, deepest, from}
use Rattle.folder_staging.specs.declared.removal.RemovalFault.{RemovalFault}
use Rattle.folder_staging.specs.declared.removal.RemovalFault.TheVariants as removal
use Rattle.vault_spec.specs.Mapped.{AllowsTree, HasNoBroken, IsHeldIn, IsMapped, IsWhole, StaysApart}
use Rattle.migration_spec.proofs.Entries.{none_foreign, old_free, with_old}
use Rattle.migration_sides.proofs.Passing.{Any, OnlyBy, apart_met, both_open, both_walked, entries_met, given, if_only, met, only_or, read_back}
use Rattle.migration_sides.specs.Causes.{TestsApart}
use Rattle.migration_sides.specs.Sides.{IsShallow}
use Rattle.migration_sides.specs.Tests.{Then, own}
use Rattle.move_journal.specs.Journal.{IsJournal}
use Rattle.move_journal.specs.Reading.{ReadsAs, journal_bytes, StandsIn}
use Rattle.move_journal.specs.declared.journal.Journal.{Journal}
use Rattle.move_journal.specs.declared.journal.Phase.TheVariants as phase
use Rattle.move_journal.proofs.Standing.{ReadsBack, not_missing}
use Rattle.plain_tree.specs.declared.name_map.NameMap.{NameMap}
use Rattle.plain_tree.specs.declared.NodeKind.TheVariants.{File}
use Rattle.tree_match.proofs.CutItems.{cut_content, cut_item}
use Rattle.tree_match.proofs.HeldTrees.{IsNoDifference}
use Rattle.tree_match.proofs.Passing.{NoneMeet, TellsTree, compares_met, each_file, each_mapped_file, holds_met, walk_maps}
use Rattle.tree_match.specs.Comparing.{Stops, content_at}
use Rattle.migration_spec.specs.Guard as guard
use Rattle.migration_spec.specs.Guard.{AreOpenedBy, Case, HasJournal, IsDone, IsWork, LastJournal, Migration, Stands, Gone, has_old, has_old_by, kinds_in, old_path, tree_at}
use Rattle.folder_spec.specs.Apart.{AreApart}
use Rattle.tree_match.specs.Mapping.{IsMappedPlan, MapsTo}
use Rattle.tree_match.specs.Matching.{matched, where_of}
use Rattle.tree_match.specs.Trees.{Compares, HoldsAllOrTooLong, IsMappedWalkOf, IsWalkOf, match_of, side_of, tree_of}
use Rattle.tree_match.specs.Trees as trees
use Rattle.tree_match.specs.declared.answer.MapFault.{MapFault}
use Rattle.vault_read.specs.Laws.{HaveOneAnswer}
use Rattle.vault_spec.specs.Alike.{HasFolders, IsOrderly}
use Rattle.vault_spec.specs.Depth.{IsWithinSteps}
use Rattle.vault_spec.specs.Findings.{IsClean}
use Rattle.vault_spec.specs.Format.{Format}
use Rattle.vault_spec.specs.Opens.{Tree}
use Rattle.vault_spec.specs.Plan.{Planned}
use Rattle.vault_spec.specs.Vault.{Vault, format_of}
use Rattle.vault_walk.specs.Survey.{depth_limit}
use Rattle.vault_walk.specs.Surveyed as walks
use Rattle.vault_walk.specs.declared.plan.Plan.{Plan}
use Rattle.item_making.specs.Making.{is_inside}
use Rattle.work_folder.specs.Entries.{HasNoForeign, is_foreign, journal_path, new_journal_path, stage_path}
use Rattle.work_folder.specs.Looking.{TestsEntries}
use Rattle.work_folder.specs.declared.fault.WorkFault.TheVariants as works
use Rattle.retire_core.proofs.Causing.{away_there, beside, none_behind}
use Rattle.retire_core.proofs.Renamed.{HasNoSpecial}
use Rattle.retire_core.specs.Causes.{Answer, IsOfFolder, Passes, ReadsDone, Retires, RetiresTold, TestsAway, TestsFree, TestsHeld, TestsItems, TestsMapped, TestsMatch, TestsPhase, TestsRemoval, TestsRemovals, TestsVaults, moved_away, retired_of}
use Rattle.retire_core.specs.Completing.{CanRetire, IsAtEnd, PassesNoLimit}
use Rattle.retire_core.specs.Faults.{of_journal, of_map, of_match, of_removal, of_step, of_work}
use Rattle.retire_core.specs.declared.fault.RetireFault.TheVariants.{Differ, Work}
use Rattle.retire_core.specs.declared.retiring.Retired.{Retired}

-- ---- tests that can only pass

-- such a value, unless the folder failed or memory ran out
abbrev Only : {X : Type 0} → (X → Type 0) → Answer X → Type 0
Only = OnlyBy IsOfFolder

-- ---- the journal, and the folders

module _ (reads : ReadsBack) (work : Path) (v : View) (journal : Journal) (is : IsJournal journal) (done : journal.phase ≡ phase.Done) (stands : StandsIn work journal v) where
  in_phase : (answer : Answer Journal) (k : Journal) → k ≡ journal → TestsPhase k k.phase answer → Only (λ x. x ≡ journal) answer
  in_phase answer k same tested = given IsOfFolder (λ x. x ≡ journal) k answer same (subst (λ p. TestsPhase k p answer) (ap (λ (x : Journal). x.phase) same ∙ done) tested)

  read_met : (answer : Answer Journal) → ReadsDone work v answer → Only (λ x. x ≡ journal) answer
  read_met answer =
      met IsOfFolder of_journal (ReadsAs (journal_bytes v work)) (λ (k : Journal). TestsPhase k k.phase) (λ k. k ≡ journal) (λ x. x ≡ journal) answer
      (λ t tested. read_back (λ why. IsOfFolder (of_journal why)) (inl refl) (inr refl) journal t (reads work v journal t is stands tested)) (in_phase answer)

-- ---- no content that is compared passes the limit

-- no file among these passes it
abbrev AreShort : Keys → View → List Planned → Type 0
AreShort keys v items = (x : Planned) → Contains items x → x.node ≡ File → (content_at keys v x.at).ending ≢ Wanting

module _ (a b : Keys) (v : View) (items others : List Planned) (one : AreShort a v items) (two : AreShort b v others) where
  matched_short : (at : Path) → matched a items b others v ≢ Stops at Wanting
  matched_short at stops =
      let cut = cut_item a b v items others at Wanting stops in
      elim (cut_content (content_at a v cut.item.at) (content_at b v cut.other.at) at Wanting cut.stops) [
        | inl within ↦ one cut.item cut.among cut.file within.ends
        | inr within ↦ two cut.other cut.among_others cut.other_file within.ends
      ]

-- ---- the target holds the source

-- what is cited of mapped trees and of vaults that are compared
pub record AreHeldAlike : Type 0 where
  pub plan : TellsTree
  pub meet : NoneMeet
  pub held : (names : NameMap) (m t : Tree) → IsMapped names m t → HasNoBroken m → IsHeldIn names m t
  pub holds : (v : View) (names : NameMap) (a b : trees.PlannedVault) → IsMappedWalkOf names v a → IsWalkOf v b → IsHeldIn names (tree_of v a) (tree_of v b) → HoldsAllOrTooLong (match_of v a b)

module _ (one : HaveOneAnswer) (cited : AreHeldAlike) (g : Migration) (from_pass to_pass : List ℕ) (v : View) (opened : AreOpenedBy g from_pass to_pass v) (done : IsDone g v) (limits : PassesNoLimit g v) where
  held_in : IsHeldIn g.names (tree_at g.source v) (tree_at g.target v)
  held_in path named there =
      let same = done.source.held path in
      let held = cited.held g.names g.held (tree_at g.target v) done.target.all.held done.target.all.whole path named (λ none. there (same ∙ none)) in
      (held.0 ∙ sym same, subst IsWhole (sym same) held.1)

  maps_met : (items : List Planned) → IsWalkOf v (side_of g.source items) → (t : Result Plan MapFault) → MapsTo g.names items t → MatchResult t (λ plan. IsMappedPlan g.names items plan.items) (λ why. IsOfFolder (of_map why))
  maps_met items is =
      let same = sym (fun_ext done.source.held) in
      walk_maps cited.plan cited.meet (λ why. IsOfFolder (of_map why)) (inr refl) g.names (format_of g.target.vault) v (side_of g.source items) is
      (subst (AllowsTree g.names (format_of g.target.vault)) same done.allowed) (subst (StaysApart g.names) same done.target.all.apart)

  items_met : (items mapped others : List Planned) (answer : Answer (Unit {0})) → IsWalkOf v (side_of g.source items) → IsMappedPlan g.names items mapped → IsWalkOf v (side_of g.target others)
      → TestsItems g.source mapped g.target others v answer → Only Any answer
  items_met items mapped others answer is maps is_too =
      met IsOfFolder of_match (Compares g.source mapped g.target others v) TestsMatch IsNoDifference Any answer
      (compares_met (λ why. IsOfFolder (of_match why)) (inl refl) (inr refl) (match_of v (side_of g.source mapped) (side_of g.target others))
      (cited.holds v g.names (side_of g.source mapped) (side_of g.target others) (record { own = items; walk = is; mapped = maps }) is_too held_in)
      (λ at too_long. absurd (matched_short (format_of g.source.vault).content (format_of g.target.vault).content v mapped others
      (each_mapped_file (λ ending. ending ≢ Wanting) g.source v limits.source.contents items is g.names mapped maps) (each_file (λ ending. ending ≢ Wanting) g.target v limits.target.contents others is_too) at too_long)))
      (λ m held tested. holds_met IsOfFolder (λ path how. Differ path (where_of how)) m answer held tested)

  mapped_met : (items others : List Planned) (answer : Answer (Unit {0})) → IsWalkOf v (side_of g.source items) → IsWalkOf v (side_of g.target others) → TestsMapped g.names g.source items g.target others v answer → Only Any answer
  mapped_met items others answer is is_too =
      met IsOfFolder of_map (MapsTo g.names items) (λ (plan : Plan). TestsItems g.source plan.items g.target others v) (λ (plan : Plan). IsMappedPlan g.names items plan.items) Any answer (maps_met items is)
      (λ plan maps. items_met items plan.items others answer is maps is_too)

  vaults_met : (answer : Answer (Unit {0})) → TestsVaults g.names g.source g.target v answer → Only Any answer
  vaults_met answer =
      both_walked IsOfFolder of_step g.source g.target v (λ items others. TestsMapped g.names g.source items g.target others v) answer done.source.there.good limits.source.items done.target.there.good limits.target.items
      (λ items others is is_too tested. mapped_met items others answer is is_too tested)

  held_met : (answer : Answer (Unit {0})) → TestsHeld g.names g.source.root g.target.root from_pass to_pass v answer → Only Any answer
  held_met answer =
      both_open IsOfFolder of_step one g.source g.target v from_pass to_pass (λ a b. TestsVaults g.names a b v) answer (opened.source done.source.there) (opened.target done.target.there) (vaults_met answer)

-- ---- removals

-- of what stands at a path and below it nothing is in the way of a removal
pub record IsRemovable (at : Path) (v : View) : Type 0 where
  pub ordinary : (rest : Path) → v (at ++ rest) ≢ Special
  pub shallow : IsShallow at v

removal_met : (at : Path) (v : View) → IsRemovable at v → (answer : Answer (Unit {0})) → TestsRemoval at v answer → Only Any answer
removal_met at v may answer = met IsOfFolder of_removal (RemovesAs (from at deepest) v) Passes Any Any answer by_fault (λ done _ is. given IsOfFolder Any tt answer tt is)
  where
    by_fault : (t : Result (Unit {0}) RemovalFault) → RemovesAs (from at deepest) v t → MatchResult t Any (λ why. IsOfFolder (of_removal why))
    by_fault (Ok done) removes = tt
    by_fault (Err removal.Depth) removes = absurd (removes.2 (may.shallow removes.0 removes.1))
    by_fault (Err (removal.Other p)) removes = absurd (may.ordinary removes.0.rest (ap v (sym removes.0.is) ∙ removes.1))
    by_fault (Err removal.Failed) removes = inl refl
    by_fault (Err removal.NoMemory) removes = inr refl

removals_met : (work : Path) (v : View) → IsRemovable (old_path work) v → IsRemovable (stage_path work) v → IsRemovable (new_journal_path work) v → (answer : Answer (Unit {0})) → TestsRemovals work v answer → Only Any answer
removals_met work v old stage new answer =
    met IsOfFolder own (TestsRemoval (old_path work) v) (λ _. Then own (TestsRemoval (stage_path work) v) (λ _. TestsRemoval (new_journal_path work) v)) Any Any answer (removal_met (old_path work) v old)
    (λ _ _. met IsOfFolder own (TestsRemoval (stage_path work) v) (λ _. TestsRemoval (new_journal_path work) v) Any Any answer (removal_met (stage_path work) v stage)
    (λ _ _. removal_met (new_journal_path work) v new answer))

-- ---- what stands in the work folder

module _ (old : Bool) (work : Path) (v : View) (folders : HasFolders v) (stands : v (journal_path work) ≢ NoEntry) (is : IsWork old (kinds_in v) work) where
  entries : HasNoForeign old v work
  entries = none_foreign old v work folders is stands

  -- none is special
  entry_ordinary : (name : Part) → v (child work name) ≢ Special
  entry_ordinary name special = entries name (ap (λ x. is_foreign old name (kind_found x)) special)

  below_ordinary : (name : Part) → ((q : Path) → IsTrue (is_inside (below (child work name) q)) → kinds_in v q ≢ kind.Other) → (rest : Path) → v (child work name ++ rest) ≢ Special
  below_ordinary name others [] special = entry_ordinary name (ap v (sym (append-nil (child work name))) ∙ special)
  below_ordinary name others (a ∷ more) special = others (child work name ++ a ∷ more) (ap is_inside (below-append (child work name) (a ∷ more))) (ap kind_found special)

  -- the new journal isn't a directory, so nothing is below it
  no_folder : v (new_journal_path work) ≢ Folder
  no_folder folder = entries (codes "journal.new") (ap (λ x. is_foreign old (codes "journal.new") (kind_found x)) folder ∙ foreign old)
    where
      foreign : (b : Bool) → is_foreign b (codes "journal.new") kind.Dir ≡ true
      foreign true = refl
      foreign false = refl

  new_removable : IsRemovable (new_journal_path work) v
  new_removable = record { ordinary = not_special; shallow = not_deep }
    where
      clash : NoEntry ≡ Special → ⊥
      clash e = cc e

      not_special : (rest : Path) → v (new_journal_path work ++ rest) ≢ Special
      not_special [] special = entry_ordinary (codes "journal.new") (ap v (sym (append-nil (new_journal_path work))) ∙ special)
      not_special (a ∷ more) special = clash (sym (none_behind v folders (new_journal_path work) a more no_folder) ∙ special)

      not_deep : IsShallow (new_journal_path work) v
      not_deep [] deep = absurd (omega (arith, deep))
      not_deep (a ∷ more) deep = none_behind v folders (new_journal_path work) a more no_folder

  stage_removable : IsShallow (stage_path work) v → IsRemovable (stage_path work) v
  stage_removable shallow = record { ordinary = below_ordinary (codes "stage") is.staged; shallow = shallow }

  old_removable : IsShallow (old_path work) v → IsRemovable (old_path work) v
  old_removable shallow = record { ordinary = below_ordinary (codes "old") is.moved; shallow = shallow }

-- ---- once the source is moved

module _ (work root : Path) (v : View) (apart : AreApart root work) where
  abbrev w : View
  w = moved_view v root (old_path work)

  at_old : (rest : Path) → w (old_path work ++ rest) ≡ v (root ++ rest)
  at_old rest = ap (λ (o : Option Path). moved_found v root (old_path work ++ rest) o (below root (old_path work ++ rest))) (below-append (old_path work) rest)

  at_other : (name : Part) (rest : Path) → bytes_eq (codes "old") name ≡ false → w (child work name ++ rest) ≡ v (child work name ++ rest)
  at_other name rest other =
      let one : below (old_path work) (child work name ++ rest) ≡ None = beside work (codes "old") name rest other in
      let two : below root (child work name ++ rest) ≡ None = ap (below root) (append_assoc work (name ∷ []) rest) ∙ below-apart root work (name ∷ rest) apart.one apart.other in
      rw (one, two) refl

  moved_removable : ((rest : Path) → v (root ++ rest) ≢ Special) → IsShallow root v → IsRemovable (old_path work) w
  moved_removable ordinary shallow = record { ordinary = λ rest special. ordinary rest (sym (at_old rest) ∙ special); shallow = λ rest deep. at_old rest ∙ shallow rest deep }

  other_removable : (name : Part) → bytes_eq (codes "old") name ≡ false → IsRemovable (child work name) v → IsRemovable (child work name) w
  other_removable name other may = record {
    ordinary = λ rest special. may.ordinary rest (sym (at_other name rest other) ∙ special);
    shallow = λ rest deep. at_other name rest other ∙ may.shallow rest deep;
  }

-- ---- the call

abbrev AwayAt : Path → (from_pass to_pass : List ℕ) → View → NameMap → Path → Path → Answer (Unit {0}) → Type 0
AwayAt work from_pass to_pass v rule p q answer = ((v p ≡ NoEntry) × (answer ≡ Ok tt)) ⊎ ((v p ≢ NoEntry) × Then own (TestsFree work v) (λ _. TestsHeld rule p q from_pass to_pass v) answer)

abbrev pub CleanIsShallow : Type 0
CleanIsShallow = (vault : Vault) (v : View) (steps : ℕ) → IsOrderly (format_of vault) v → IsClean (format_of vault) v → IsWithinSteps (format_of vault) v steps → (at : Path) → steps + 5 < length at → v at ≡ NoEntry

-- the limit of a walk says so of its steps
within_steps : (f : Format) (v : View) → walks.IsWithin f v → IsWithinSteps f v depth_limit
within_steps f v within dir name node reached stands =
    within.depth (record { spot = record { dir = dir; name = name }; item = record { reached = (reached.path, reached.leads); node = node; stands = stands }; deep = reached })

-- what the laws say that are cited
pub record AreCited : Type 0 where
  pub reads : ReadsBack
  pub one : HaveOneAnswer
  pub alike : AreHeldAlike
  pub none_special : HasNoSpecial
  pub shallow : CleanIsShallow

module _ (laws : AreCited) (g : Migration) (from_pass to_pass : List ℕ) (v : View) (folders : HasFolders v) (opened : AreOpenedBy g from_pass to_pass v) (separate : guard.IsSeparate g) (limits : PassesNoLimit g v) where
  abbrev work : Path
  work = g.work

  -- behind the journal
  module _ (has : HasJournal g phase.Done v) (none : HasNoForeign true v work)
      (away : (answer : Answer (Unit {0})) → AwayAt work from_pass to_pass v g.names g.source.root g.target.root answer → Only Any answer)
      (removals : (answer : Answer (Unit {0})) → TestsRemovals work (moved_away (v g.source.root) g.source.root work v) answer → Only Any answer) where
    abbrev journal : Journal
    journal = has.journal

    told_met : (answer : Answer Retired) → RetiresTold work from_pass to_pass journal v answer → Only Any answer
    told_met answer =
        met IsOfFolder own (TestsAway work from_pass to_pass journal v) (λ _. Then own (TestsRemovals work (moved_away (v journal.source) journal.source work v)) (λ _. Passes (retired_of journal))) Any Any answer
        (λ t tested. away t (subst (λ (n : NameMap). AwayAt work from_pass to_pass v n g.source.root g.target.root t) has.tells.names
        (subst₂ (λ (p q : Path). AwayAt work from_pass to_pass v journal.names p q t) has.tells.source has.tells.target tested)))
        (λ _ _. met IsOfFolder own (TestsRemovals work (moved_away (v journal.source) journal.source work v)) (λ _. Passes (retired_of journal)) Any Any answer
        (λ t tested. removals t (subst (λ (p : Path). TestsRemovals work (moved_away (v p) p work v) t) has.tells.source tested)) (λ _ _ is. given IsOfFolder Any (retired_of journal) answer tt is))

    abbrev folders_next : Journal → Answer Retired → Type 0
    folders_next k = Then of_step (TestsApart k.source k.target work) (λ _. Then of_work (TestsEntries true v work) (λ _. RetiresTold work from_pass to_pass k v))

    folders_met : (answer : Answer Retired) → folders_next journal answer → Only Any answer
    folders_met answer =
        met IsOfFolder of_step (TestsApart journal.source journal.target work) (λ _. Then of_work (TestsEntries true v work) (λ _. RetiresTold work from_pass to_pass journal v)) Any Any answer
        (λ t tested. apart_met (λ why. IsOfFolder (of_step why)) g.source.root g.target.root work separate.vaults separate.source separate.target t (subst₂ (λ (p q : Path). TestsApart p q work t) has.tells.source has.tells.target tested))
        (λ _ _. met IsOfFolder of_work (TestsEntries true v work) (λ _. RetiresTold work from_pass to_pass journal v) Any Any answer (entries_met (λ why. IsOfFolder (of_work why)) true v work none) (λ _ _. told_met answer))

    all_met : (answer : Answer Retired) → Retires work from_pass to_pass v answer → Only Any answer
    all_met answer =
        met IsOfFolder own (ReadsDone work v) folders_next (λ k. k ≡ journal) Any answer (read_met laws.reads work v journal has.is has.in_phase has.stands)
        (λ k same tested. folders_met answer (subst (λ x. folders_next x answer) same tested))

  journal_there : HasJournal g phase.Done v → v (journal_path work) ≢ NoEntry
  journal_there has = not_missing work has.journal v has.stands

  -- done, with the source there
  by_done : IsDone g v → IsWork false (kinds_in v) work → (answer : Answer Retired) → Retires work from_pass to_pass v answer → Only Any answer
  by_done done is = all_met done.journal (with_old v work none) away removals
    where
      stands : v (journal_path work) ≢ NoEntry
      stands = journal_there done.journal

      none : HasNoForeign false v work
      none = none_foreign false v work folders is stands

      root_there : v g.source.root ≡ Folder
      root_there = ap v (sym (append-nil g.source.root)) ∙ done.source.there.good.orderly.root_there

      is_there : v g.source.root ≢ NoEntry
      is_there gone = clash (sym root_there ∙ gone)
        where
          clash : Folder ≡ NoEntry → ⊥
          clash e = cc e

      away : (answer : Answer (Unit {0})) → AwayAt work from_pass to_pass v g.names g.source.root g.target.root answer → Only Any answer
      away answer (inl gone) = absurd (is_there gone.0)
      away answer (inr there) =
          met IsOfFolder own (TestsFree work v) (λ _. TestsHeld g.names g.source.root g.target.root from_pass to_pass v) Any Any answer
          (λ t. only_or IsOfFolder (v (old_path work) ≡ NoEntry) (v (old_path work) ≢ NoEntry) (Work (works.Foreign (old_path work))) t (λ taken. taken (old_free v work none)))
          (λ _ _. held_met laws.one laws.alike g from_pass to_pass v opened done limits answer) there.1

      removed : IsShallow g.source.root v
      removed rest deep =
          laws.shallow g.source.vault (under g.source.root v) depth_limit done.source.there.good.orderly done.source.there.good.clean
          (within_steps (format_of g.source.vault) (under g.source.root v) limits.source.items) rest (omega (arith, deep))

      removals : (answer : Answer (Unit {0})) → TestsRemovals work (moved_away (v g.source.root) g.source.root work v) answer → Only Any answer
      removals answer tested =
          removals_met work (moved_view v g.source.root (old_path work))
          (moved_removable work g.source.root v separate.source (λ rest. laws.none_special g.source.vault (under g.source.root v) done.source.there.good.clean done.source.there.good.orderly rest) removed)
          (other_removable work g.source.root v separate.source (codes "stage") refl (stage_removable false work v folders stands is limits.stage))
          (other_removable work g.source.root v separate.source (codes "journal.new") refl (new_removable false work v folders stands is)) answer
          (subst (λ (x : View). TestsRemovals work x answer) (sym (away_there g.source.root work v (v g.source.root) is_there)) tested)

  -- retired, while the journal stands
  by_retired : v g.source.root ≡ NoEntry → HasJournal g phase.Done v → IsWork true (kinds_in v) work → (answer : Answer Retired) → Retires work from_pass to_pass v answer → Only Any answer
  by_retired gone has is = all_met has (none_foreign true v work folders is stands) away removals
    where
      stands : v (journal_path work) ≢ NoEntry
      stands = journal_there has

      away : (answer : Answer (Unit {0})) → AwayAt work from_pass to_pass v g.names g.source.root g.target.root answer → Only Any answer
      away answer (inl passed) = given IsOfFolder Any tt answer tt passed.1
      away answer (inr there) = absurd (there.0 gone)

      removals : (answer : Answer (Unit {0})) → TestsRemovals work (moved_away (v g.source.root) g.source.root work v) answer → Only Any answer
      removals answer tested =
          removals_met work v (old_removable true work v folders stands is limits.old) (stage_removable true work v folders stands is limits.stage) (new_removable true work v folders stands is) answer
          (subst (λ (x : Found). TestsRemovals work (moved_away x g.source.root work v) answer) gone tested)

  by_last : v g.source.root ≡ NoEntry → (last : LastJournal g v) → IsTrue (has_old_by g v last) → IsWork (has_old_by g v last) (kinds_in v) work → (answer : Answer Retired)
      → Retires work from_pass to_pass v answer → Only Any answer
  by_last gone (Stands has) stands is = by_retired gone has is
  by_last gone (Gone none) stands is = absurd (cc stands)

  by_case : (case : Case g v) → IsAtEnd g v case → IsWork (has_old g v case) (kinds_in v) work → (answer : Answer Retired) → Retires work from_pass to_pass v answer → Only Any answer
  by_case (guard.NotBegun x) end is = absurd end
  by_case (guard.Building x) end is = absurd end
  by_case (guard.Done x) end is = by_done x is
  by_case (guard.Retired x) end is = by_last x.gone x.journal end is

pub goes_through : AreCited → (g : Migration) (from_pass to_pass : List ℕ) (v : View) (answer : Answer Retired) → HasFolders v → AreOpenedBy g from_pass to_pass v → CanRetire g v → Retires g.work from_pass to_pass v answer
    → IfErr answer IsOfFolder
goes_through laws g from_pass to_pass v answer folders opened can tested =
    if_only IsOfFolder answer (by_case laws g from_pass to_pass v folders opened can.separate can.limits can.guarded.case can.end can.guarded.work answer tested)
