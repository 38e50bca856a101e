-- Where a migration can go on, no test of `resume` fails, and no content stops it.
use Rattle.std.proofs.Math.Path.{fun_ext}
use Rattle.sha2.specs.Sha256.{sha256}
use Rattle.std.specs.List.{flat_map}
use Rattle.std.specs.declared.cmp.Ordering.TheVariants.{Less}
use Rattle.std.proofs.Common.{◌≡◌, ◌≢◌, inl, inr, List, [], ◌∷◌, ◌++◌, ℕ, zero, suc, codes, length, map, Bool, true, false, Option, Some, None, IfErr, Contains, refl, sym, ap, ◌∙◌, subst, subst₂, arith, append-nil}
use Rattle.std.proofs.lemmas.List.{length-map}
use Rattle.folder_spec.specs.Path.{Path}
use Rattle.folder_spec.specs.View.{Folder, NoEntry, View}
use Rattle.migrate_core.proofs.Completing.{Only, own_both, mapped_met, mapped_whole, moving_met, staged_met}
use Rattle.migrate_core.specs.Causes.{Answer, IsGone, IsOfMoving, Moves, Resumes, ResumesTold, ResumesWith, StopsAt, TestsHeld, TestsItems, TestsMapped, TestsMatch, TestsSource, TestsTold, Unless, is_done, where_in}
use Rattle.migrate_core.specs.Completing.{CanResume, IsOfChance, IsToResume}
use Rattle.migrate_core.specs.Copying.{BothHaveOwnFolders}
use Rattle.migrate_core.specs.Faults.{IsMoveFault, of_journal, of_match, of_step, of_work}
use Rattle.migrate_core.specs.Sides.{AreTold}
use Rattle.migrate_core.specs.declared.fault.MoveFault.TheVariants.{Changed, Differ, SourceGone, Failed, NoMemory}
use Rattle.move_journal.specs.Reading.{ReadsAs, journal_bytes}
use Rattle.move_journal.specs.declared.journal.Journal.{Journal}
use Rattle.move_journal.specs.declared.journal.Phase.{Phase}
use Rattle.move_journal.specs.declared.journal.Phase.TheVariants as phase
use Rattle.move_journal.proofs.Standing.{ReadsBack, not_missing}
use Rattle.plain_tree.specs.Names as plain
use Rattle.plain_tree.specs.Order.{path_cmp}
use Rattle.plain_tree.specs.Shown.{shown_path}
use Rattle.plain_tree.specs.declared.NodeKind.{NodeKind}
use Rattle.migration_spec.proofs.Entries.{none_foreign, old_free, with_old}
use Rattle.migration_sides.proofs.Passing.{Any, apart_met, both_open, both_walked, entries_met, given, met, only_or, read_back, if_only}
use Rattle.migration_sides.specs.Causes.{Opens, TestsApart}
use Rattle.migration_sides.specs.Tests.{Then, own}
use Rattle.tree_match.proofs.HeldTrees.{IsNoDifference}
use Rattle.tree_match.proofs.Passing.{NoneMeet, TellsTree, compares_met, holds_met}
use Rattle.migration_spec.specs.Guard as guard
use Rattle.migration_spec.specs.Guard.{AreOpenedBy, Case, HasJournal, HoldsSource, IsThere, IsWork, Migration, kinds_in, tree_at}
use Rattle.vault_spec.proofs.MappedHeld as mapped
use Rattle.vault_spec.specs.PlanOf.{IsPlanOf, node_of}
use Rattle.vault_spec.specs.Mapped.{AllowsTree, IsPartOfMapped, StaysApart}
use Rattle.plain_tree.specs.declared.name_map.NameMap.{NameMap}
use Rattle.tree_match.specs.Mapping.{IsMappedPlan}
use Rattle.tree_match.specs.Trees.{Compares, HoldsAllOrTooLong, IsMappedWalkOf, IsWalkOf, PlannedVault, match_of, side_of, tree_of}
use Rattle.tree_match.proofs.InOrder.{same_lists, not_twice}
use Rattle.vault_read.specs.Laws.{HaveOneAnswer}
use Rattle.vault_spec.specs.Alike.{HasFolders}
use Rattle.vault_spec.specs.Opens.{Tree}
use Rattle.vault_spec.specs.Plan.{Planned}
use Rattle.vault_spec.specs.Vault.{format_of}
use Rattle.vault_walk.specs.Digest.{kind_letter, plan_digest, plan_text}
use Rattle.work_folder.specs.Entering.{Empties}
use Rattle.work_folder.specs.Entries.{HasNoForeign, journal_path}
use Rattle.work_folder.specs.Looking.{TestsEntries}
use Rattle.migration_sides.proofs.Chains.{unless_met}

-- ---- the items that a journal tells

abbrev letter : Option NodeKind → List ℕ
letter None = []
letter (Some node) = kind_letter node

abbrev line_at : Tree → plain.Path → List ℕ
line_at t path = letter (node_of (t path)) ++ shown_path path ++ codes "\n"

abbrev paths : List Planned → List plain.Path
paths items = map (λ (item : Planned). item.path) items

text_is : (t : Tree) (items : List Planned) → ((item : Planned) → Contains items item → node_of (t item.path) ≡ Some item.node) → plan_text items ≡ flat_map (line_at t) (paths items)
text_is t [] nodes = refl
text_is t (item ∷ items) nodes =
    ap (λ (node : Option NodeKind). (letter node ++ shown_path item.path ++ codes "\n") ++ plan_text items) (sym (nodes item (zero, omega arith, refl)))
    ∙ ap (λ (text : List ℕ). line_at t item.path ++ text) (text_is t items (λ other among. nodes other (suc among.0, omega (arith, among.1), among.2)))

module _ (t : Tree) (items others : List Planned) (one : IsPlanOf t items) (other : IsPlanOf t others) where
  one_list : paths items ≡ paths others
  one_list = same_lists (λ (p q : plain.Path). path_cmp p q ≡ Less) not_twice (paths items) (paths others) one.items.ordered other.items.ordered
      (λ x among. (other.items.items x).1 ((one.items.items x).0 among)) (λ x among. (one.items.items x).1 ((other.items.items x).0 among))

  one_digest : plan_digest items ≡ plan_digest others
  one_digest = ap sha256 (text_is t items one.nodes ∙ ap (flat_map (line_at t)) one_list ∙ sym (text_is t others other.nodes))

  one_count : length items ≡ length others
  one_count = sym (length-map items (λ (item : Planned). item.path)) ∙ ap length one_list ∙ length-map others (λ (item : Planned). item.path)

-- ---- what stands in the work folder

module _ (v : View) (work : Path) (folders : HasFolders v) (is : IsWork false (kinds_in v) work) (stands : v (journal_path work) ≢ NoEntry) where
  none_by : (old : Bool) → HasNoForeign old v work
  none_by false = none_foreign false v work folders is stands
  none_by true = with_old v work (none_foreign false v work folders is stands)

-- ---- the call

-- the migration goes on in this phase, with the source there
record GoesOn (g : Migration) (ph : Phase) (v : View) : Type 0 where
  source : HoldsSource g v
  journal : HasJournal g ph v
  target : IsThere g.target v
  apart : StaysApart g.names g.held
  part : IsPartOfMapped g.names (tree_at g.target v) g.held
  allowed : AllowsTree g.names (format_of g.target.vault) g.held

-- what is part of a mapped vault is held, where they are compared
abbrev pub PartIsHeld : Type 0
PartIsHeld = (v : View) (rule : NameMap) (a b : PlannedVault) → IsWalkOf v a → IsMappedWalkOf rule v b → IsPartOfMapped rule (tree_of v a) (tree_of v b) → HoldsAllOrTooLong (match_of v a b)

pub record AreCited : Type 0 where
  pub reads : ReadsBack
  pub one : HaveOneAnswer
  pub tells : TellsTree
  pub meet : NoneMeet
  pub part : PartIsHeld

module _ (laws : AreCited) (g : Migration) (v : View) (from_pass to_pass : List ℕ) (opened : AreOpenedBy g from_pass to_pass v) (folders : HasFolders v) (can : CanResume g v) (ph : Phase) (goes : GoesOn g ph v)
    (work_is : IsWork false (kinds_in v) g.work) where
  abbrev journal : Journal
  journal = goes.journal.journal

  stands : v (journal_path g.work) ≢ NoEntry
  stands = not_missing g.work journal v goes.journal.stands

  folders_own : BothHaveOwnFolders g.source g.target v
  folders_own = own_both g.source g.target v goes.source.there.good.orderly goes.target.good.orderly

  source_there : v g.source.root ≢ NoEntry
  source_there gone =
      let root : v g.source.root ≡ Folder = ap v (sym (append-nil g.source.root)) ∙ goes.source.there.good.orderly.root_there in
      let clash : Folder ≡ NoEntry = sym root ∙ gone in
      cc clash

  source_met : (p : Phase) (t : Answer (Unit {0})) → TestsSource p g.work g.source.root v t → Only Any t
  source_met phase.Building t tested = given IsOfChance Any tt t tt tested
  source_met phase.Done t tested = only_or IsOfChance (¬ IsGone g.work g.source.root v) (IsGone g.work g.source.root v) SourceGone t
      (λ gone. elim gone [ inl old ↦ old (old_free v g.work (none_foreign false v g.work folders work_is stands)) | inr none ↦ source_there none ]) tested

  are_told : (items : List Planned) → IsWalkOf v (side_of g.source items) → AreTold journal items
  are_told items walk =
      let plan = laws.tells v (side_of g.source items) walk in
      let held : IsPlanOf g.held items = subst (λ (t : Tree). IsPlanOf t items) (fun_ext goes.source.held) plan in
      let told = goes.journal.tells in
      (told.digest ∙ one_digest g.held told.plan items told.is_plan held, told.items ∙ one_count g.held told.plan items told.is_plan held)

  part_in : IsPartOfMapped g.names (tree_at g.target v) (tree_at g.source v)
  part_in = subst (λ (t : Tree). IsPartOfMapped g.names (tree_at g.target v) t) (sym (fun_ext goes.source.held)) goes.part

  module _ {Y : Type 0} (answer : Answer Y) (may : IfErr answer IsMoveFault) where
    abbrev moved : List Planned → Answer Y → Type 0
    moved mapped = Moves (Empties v g.work) g.source g.target v mapped

    moves_met : (items mapped : List Planned) → IsWalkOf v (side_of g.source items) → IsMappedPlan g.names items mapped → moved mapped answer → Only Any answer
    moves_met items mapped walk same =
        met IsOfChance of_work (Empties v g.work) (λ _. IsOfMoving (BothHaveOwnFolders g.source g.target v) (StopsAt (BothHaveOwnFolders g.source g.target v) g.source v mapped)) Any Any answer
        (staged_met v g.work work_is can.stage) (λ _ _. moving_met g.source g.target v mapped folders_own (mapped_whole g.names g.source v can.source items mapped walk same) answer may)

    match_then : (items mapped there : List Planned) → IsWalkOf v (side_of g.source items) → IsMappedPlan g.names items mapped → IsWalkOf v (side_of g.target there)
        → TestsMatch g.target there g.source mapped v (moved mapped) answer → Only Any answer
    match_then items mapped there walk same walk_there =
        met IsOfChance of_match (Compares g.target there g.source mapped v) (λ m. Then own (TestsHeld m) (λ _. moved mapped)) IsNoDifference Any answer
        (compares_met (λ why. IsOfChance (of_match why)) tt tt (match_of v (side_of g.target there) (side_of g.source mapped))
        (laws.part v g.names (side_of g.target there) (side_of g.source mapped) walk_there (record { own = items; walk = walk; mapped = same }) part_in) (λ at too_long. tt))
        (λ m none. met IsOfChance own (TestsHeld m) (λ _. moved mapped) Any Any answer (λ t. holds_met IsOfChance (λ path how. Differ path (where_in how)) m t none) (λ _ _. moves_met items mapped walk same))

    abbrev items_then : NameMap → List Planned → List Planned → Answer Y → Type 0
    items_then rule items there = Then own (TestsTold journal items) (λ _. TestsMapped rule (format_of g.target.vault) items (λ mapped. TestsMatch g.target there g.source mapped v (moved mapped)))

    items_met : (items there : List Planned) → IsWalkOf v (side_of g.source items) → IsWalkOf v (side_of g.target there) → TestsItems g.source g.target journal v items there moved answer → Only Any answer
    items_met items there walk walk_there tested =
        met IsOfChance own (TestsTold journal items) (λ _. TestsMapped g.names (format_of g.target.vault) items (λ mapped. TestsMatch g.target there g.source mapped v (moved mapped))) Any Any answer
        (λ t. only_or IsOfChance (AreTold journal items) (¬ AreTold journal items) (Changed journal.plan journal.items (plan_digest items) (length items)) t (λ not. not (are_told items walk)))
        (λ _ _. mapped_met laws.tells laws.meet g v goes.source goes.allowed goes.apart items walk (λ mapped. TestsMatch g.target there g.source mapped v (moved mapped)) answer
        (λ mapped same. match_then items mapped there walk same walk_there))
        (subst (λ (rule : NameMap). items_then rule items there answer) goes.journal.tells.names tested)

    with_met : ResumesWith g.source g.target g.work journal v answer → Only Any answer
    with_met = both_walked IsOfChance of_step g.source g.target v (λ items there. TestsItems g.source g.target journal v items there moved) answer goes.source.there.good can.source.items goes.target.good can.target items_met

    told_met : ResumesTold g.work from_pass to_pass v journal answer → Only Any answer
    told_met =
        met IsOfChance own (TestsSource journal.phase g.work journal.source v) (λ _. Opens of_step v journal.source journal.target from_pass to_pass (λ from to. ResumesWith from to g.work journal v)) Any Any answer
        (λ t tested. source_met journal.phase t (subst (λ (p : Path). TestsSource journal.phase g.work p v t) goes.journal.tells.source tested))
        (λ _ _ opens. both_open IsOfChance of_step laws.one g.source g.target v from_pass to_pass (λ from to. ResumesWith from to g.work journal v) answer (opened.source goes.source.there) (opened.target goes.target) with_met
        (subst₂ (λ (p q : Path). Opens of_step v p q from_pass to_pass (λ from to. ResumesWith from to g.work journal v) answer) goes.journal.tells.source goes.journal.tells.target opens))

    abbrev read_then : Journal → Answer Y → Type 0
    read_then k = Then of_step (TestsApart k.source k.target g.work) (λ _. Then of_work (TestsEntries (is_done k.phase) v g.work) (λ _. ResumesTold g.work from_pass to_pass v k))

    folders_met : read_then journal answer → Only Any answer
    folders_met =
        met IsOfChance of_step (TestsApart journal.source journal.target g.work) (λ _. Then of_work (TestsEntries (is_done journal.phase) v g.work) (λ _. ResumesTold g.work from_pass to_pass v journal)) Any Any answer
        (λ t tested. apart_met (λ why. IsOfChance (of_step why)) g.source.root g.target.root g.work can.separate.vaults can.separate.source can.separate.target t (subst₂ (λ (p q : Path). TestsApart p q g.work t) goes.journal.tells.source goes.journal.tells.target tested))
        (λ _ _. met IsOfChance of_work (TestsEntries (is_done journal.phase) v g.work) (λ _. ResumesTold g.work from_pass to_pass v journal) Any Any answer
        (entries_met (λ why. IsOfChance (of_work why)) (is_done journal.phase) v g.work (none_by v g.work folders work_is stands (is_done journal.phase))) (λ _ _. told_met))

    resumes_met : Resumes g.work from_pass to_pass v answer → Only Any answer
    resumes_met =
        met IsOfChance of_journal (ReadsAs (journal_bytes v g.work)) read_then (λ k. k ≡ journal) Any answer
        (λ t tested. read_back (λ why. IsOfChance (of_journal why)) tt tt journal t (laws.reads g.work v journal t goes.journal.is goes.journal.stands tested))
        (λ k same tested. folders_met (subst (λ x. read_then x answer) same tested))

module _ (laws : AreCited) (g : Migration) (v : View) (from_pass to_pass : List ℕ) (opened : AreOpenedBy g from_pass to_pass v) (folders : HasFolders v) (can : CanResume g v) where
  by_case : {Y : Type 0} (answer : Answer Y) (case : Case g v) → IsToResume g v case → IsWork (guard.has_old g v case) (kinds_in v) g.work → IfErr answer IsMoveFault → Resumes g.work from_pass to_pass v answer → Only Any answer
  by_case answer (guard.NotBegun x) is work may tested = absurd is
  by_case answer (guard.Retired x) is work may tested = absurd is
  by_case answer (guard.Building x) is work may tested =
      resumes_met laws g v from_pass to_pass opened folders can phase.Building
      (record { source = x.source; journal = x.journal; target = x.target; apart = x.apart; part = x.part; allowed = x.allowed }) work answer may tested
  by_case answer (guard.Done x) is work may tested =
      resumes_met laws g v from_pass to_pass opened folders can phase.Done
      (record {
        source = x.source;
        journal = x.journal;
        target = x.target.there;
        apart = x.target.all.apart;
        part = mapped.part g.names g.held (tree_at g.target v) x.target.all.held x.target.all.whole;
        allowed = x.allowed;
      }) work answer may tested

pub goes_through_again : AreCited → {Y : Type 0} (g : Migration) (from_pass to_pass : List ℕ) (v : View) (answer : Answer Y) → HasFolders v → AreOpenedBy g from_pass to_pass v → CanResume g v → IfErr answer IsMoveFault
    → Resumes g.work from_pass to_pass v answer → IfErr answer IsOfChance
goes_through_again laws g from_pass to_pass v answer folders opened can may tested = if_only IsOfChance answer (by_case laws g v from_pass to_pass opened folders can answer can.guarded.case can.going can.guarded.work may tested)

-- as it is asked for
pub resume_completes : {Y : Type 0} (g : Migration) (v : View) (work : Path) (from_pass to_pass : List ℕ) (answer : Answer Y) → g.work ≡ work
    → (Resumes g.work from_pass to_pass v answer → IfErr answer IsOfChance) → Unless answer (Resumes work from_pass to_pass v answer) → IfErr answer IsOfChance
resume_completes g v work from_pass to_pass answer asked completes =
    unless_met Failed NoMemory IsOfChance tt tt answer (Resumes work from_pass to_pass v answer) (λ resumes. completes (subst (λ p. Resumes p from_pass to_pass v answer) (sym asked) resumes))
