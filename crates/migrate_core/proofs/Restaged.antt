-- Going on with a migration whose stage is made ready anew.
use Rattle.std.proofs.Common.{◌≡◌, ◌≢◌, Bool, List, [], ◌∷◌, Option, Some, None, Result, refl, sym, ap, ◌∙◌, subst, codes}
use Rattle.std.proofs.Math.Path.{fun_ext}
use Rattle.folder_spec.proofs.Paths.{below-apart}
use Rattle.folder_spec.specs.Event.{Told, FromTo}
use Rattle.folder_spec.specs.Moments.{Went}
use Rattle.folder_spec.specs.Path.{Path}
use Rattle.folder_spec.specs.Region.{IsAsBefore, apart_from, apart_from_both}
use Rattle.folder_spec.specs.Seen.{IfSeen, IsSeen, seen}
use Rattle.folder_spec.specs.View.{View}
use Rattle.move_journal.specs.declared.journal.Journal.{Journal}
use Rattle.move_journal.specs.declared.journal.Phase.{Phase}
use Rattle.move_journal.specs.declared.journal.Phase.TheVariants as phase
use Rattle.migration_spec.proofs.Kept.{behind_none}
use Rattle.migration_spec.specs.Alone.{Progress, Begun, Finished, IsAlone, StaysAlone}
use Rattle.migration_spec.specs.Guard.{IsDone, Migration, Tells, tree_at}
use Rattle.folder_spec.specs.Apart.{AreApart, AreSeparate}
use Rattle.migration_sides.specs.Sides.{IsWalked}
use Rattle.vault_spec.specs.PlanOf.{IsPlanOf}
use Rattle.vault_spec.specs.Mapped.{IsMapped}
use Rattle.plain_tree.specs.Mapped.{mapped_path}
use Rattle.plain_tree.specs.Names as plain
use Rattle.plain_tree.specs.declared.name_map.NameMap.{NameMap}
use Rattle.tree_match.specs.Mapping.{IsMappedPlan}
use Rattle.tree_match.specs.Trees.{PlannedVault, IsWalkOf, side_of, tree_of}
use Rattle.vault_spec.specs.Opened.{OpenedVault}
use Rattle.vault_spec.proofs.Mapped.{contains_mapped, mapped_from}
use Rattle.vault_spec.specs.Opens.{Tree}
use Rattle.vault_spec.specs.Plan.{Planned}
use Rattle.work_folder.specs.Changing.{ChangesAt}
use Rattle.work_folder.specs.Entering.{IsStage, IsBelowStage}
use Rattle.work_folder.specs.Entries.{stage_path}
use Rattle.migrate_core.proofs.Leadings.{goes_given, goes_on}
use Rattle.migrate_core.proofs.MappedItems.{own_item}
use Rattle.migrate_core.proofs.Movings.{moves_to, moves_within}
use Rattle.migrate_core.proofs.Planned.{SeenAlone, seen_of, walk_of}
use Rattle.migrate_core.proofs.WorkFolders.{beside_stage, changing_moves}
use Rattle.migrate_core.specs.Leading.{Goes, Guards, Leads, LeadsTold, progress_of}
use Rattle.migrate_core.specs.Moving.{MovesBeside, OnlyBrings}
use Rattle.migrate_core.specs.Sides.{AreItemsToMove, AreSides, StandAll}
use Rattle.migrate_core.proofs.Readied.{IsReadied}
use Rattle.migration_spec.proofs.Tellings.{AreSound}

-- ---- the stage alone

pub stage_apart : (work root : Path) → AreApart root work → AreApart root (stage_path work)
stage_apart work root apart = record {
  one = below-apart root work (codes "stage" ∷ []) apart.one apart.other;
  other = behind_none work (codes "stage" ∷ []) root apart.other;
}

pub stage_moves : (work root : Path) (t u : Option Told) → AreApart root work → ChangesAt (stage_path work) (IsStage work) (IsBelowStage work) t u → MovesBeside (apart_from_both work root) work root t u
stage_moves work root t u apart changes =
    moves_within work (apart_from_both work root) (apart_from (stage_path work)) root t u
    (beside_stage work root) (changing_moves work (stage_path work) (IsStage work) (IsBelowStage work) root t u (stage_apart work root apart) changes)

pub stage_readied : (work from to : Path) (t u : Option Told) → AreSeparate from to work → AreSound t → ChangesAt (stage_path work) (IsStage work) (IsBelowStage work) t u → IsReadied from to work t u
stage_readied work from to t u separate sound changes =
    record { separate = separate; sound = sound; moves = stage_moves work to t u separate.target changes; away = stage_moves work from t u separate.source changes }

pub stage_stays : (work root : Path) (t u : Option Told) → AreApart root work → ChangesAt (stage_path work) (IsStage work) (IsBelowStage work) t u
    → FromTo (λ a b. IsAsBefore (apart_from (stage_path work)) a.state b.state) t u
stage_stays work root t u apart changes =
    moves_to work (apart_from (stage_path work)) root t u (changing_moves work (stage_path work) (IsStage work) (IsBelowStage work) root t u (stage_apart work root apart) changes)

-- what doesn't depend on what is seen
pub still_known : (work : Path) (X : Type 0) (region : Path → Bool) (root : Path) (t u : Option Told) → MovesBeside region work root t u → IfSeen t (λ v. X) → IfSeen u (λ v. X)
still_known work X region root (Some a) (Some b) went known v is = known (seen a.state) refl
still_known work X region root None None went known v is = absurd is
still_known work X region root None (Some b) went known v is = absurd went
still_known work X region root (Some a) None went known v is = absurd went

-- it leaves a migration as far as it has come
abbrev pub StagesAlone : Type 0
StagesAlone = (g : Migration) (p : Progress) (a b : Told) → IsAlone g p a.state → ChangesAt (stage_path g.work) (IsStage g.work) (IsBelowStage g.work) (Some a) (Some b) → StaysAlone g p a b

pub stage_alone : StagesAlone → (g : Migration) (p : Progress) (work : Path) (t u : Option Told) → work ≡ g.work → ChangesAt (stage_path work) (IsStage work) (IsBelowStage work) t u
    → FromTo (λ a b. IsAlone g p a.state → StaysAlone g p a b) t u
stage_alone stages g p work None None is changes = tt
stage_alone stages g p work (Some a) (Some b) is changes = λ at. stages g p a b at (subst (λ w. ChangesAt (stage_path w) (IsStage w) (IsBelowStage w) (Some a) (Some b)) is changes)
stage_alone stages g p work None (Some b) is changes = absurd changes
stage_alone stages g p work (Some a) None is changes = absurd changes

-- ---- once a migration has finished, each item of the source stands in the target

-- a walk tells the tree
abbrev pub PlansTell : Type 0
PlansTell = (v : View) (a : PlannedVault) → IsWalkOf v a → IsPlanOf (tree_of v a) a.items

not_root : (rule : NameMap) (path : plain.Path) → path ≢ [] → mapped_path rule path ≢ []
not_root rule [] named e = named refl
not_root rule (name ∷ path) named e = cc e

stands_in : (rule : NameMap) (t m : Tree) (own mapped there : List Planned) → IsPlanOf t own → IsMappedPlan rule own mapped → IsPlanOf m there → IsMapped rule t m → StandAll mapped there
stands_in rule t m own mapped there plan same other is item among =
    let o = own_item rule own mapped item same among in
    let path : plain.Path = mapped_path rule o.0.path in
    let here = (plan.items.items o.0.path).0 (contains_mapped (λ (x : Planned). x.path) own o.0 o.1) in
    let found = mapped_from (λ (x : Planned). x.path) there path ((other.items.items path).1 (not_root rule o.0.path here.0, λ none. here.1 (sym (is.each o.0.path here.1) ∙ none))) in
    (found.0, found.1, found.2 ∙ ap (λ (x : Planned). x.path) o.2)

pub all_stand : PlansTell → (g : Migration) (t : Option Told) (v : View) (own mapped there : List Planned) → IsSeen t v → IsDone g v → AreItemsToMove g.names t g.source own mapped → IsWalked t g.target there → StandAll mapped there
all_stand tell g t v own mapped there is done walked other =
    stands_in g.names (tree_at g.source v) (tree_at g.target v) own mapped there
    (tell v (side_of g.source own) (walk_of g.source own t v walked.walked is done.source.there.good.orderly)) walked.same
    (tell v (side_of g.target there) (walk_of g.target there t v other is done.target.there.good.orderly))
    (subst (λ (m : Tree). IsMapped g.names m (tree_at g.target v)) (sym (fun_ext done.source.held)) done.target.all.held)

-- ---- going on

pub rest_goes : {T E : Type 0} → (work : Path) → SeenAlone → PlansTell → (region : Path → Bool) (root : Path) (g : Migration) (from to : OpenedVault) (through : Path) (journal : Journal) (own mapped there : List Planned)
    → (t u w : Option Told) (result : Result T E) → MovesBeside region work root t w → AreSides g journal.names from to through → Tells g journal → AreItemsToMove journal.names t from own mapped → IsWalked t to there
    → ((p : Progress) → Guards g p t u × Leads g p p t u)
    → (journal.phase ≡ phase.Building → LeadsTold from to through journal Begun Finished u w result)
    → (journal.phase ≡ phase.Done → StandAll mapped there → LeadsTold from to through journal Finished Finished u w result)
    → Goes g (progress_of journal.phase) Finished t w result
rest_goes {T} {E} work shown tell region root g from to through journal own mapped there t u w result went sides tells walked other first building done = by_phase journal.phase refl
  where
    walked_here : AreItemsToMove g.names t g.source own mapped
    walked_here = subst (λ o. AreItemsToMove g.names t o own mapped) sides.source (subst (λ n. AreItemsToMove n t from own mapped) sides.names walked)

    stand : (a : Told) → t ≡ Some a → IsAlone g Finished a.state → StandAll mapped there
    stand a is at = all_stand tell g t (seen a.state) own mapped there (seen_of t a is) (shown g Finished a.state at) walked_here (subst (λ o. IsWalked t o there) sides.target other)

    by_phase : (p : Phase) → journal.phase ≡ p → Goes g (progress_of p) Finished t w result
    by_phase phase.Building is = goes_on g Begun Begun Finished t u w result (first Begun).0 (first Begun).1 (building is g sides tells)
    by_phase phase.Done is =
        goes_given (StandAll mapped there) (λ a b. Went (IsAsBefore region a.state) (λ s e. OnlyBrings work root s e.call) a b) g Finished Finished t w result went stand
        (λ all. goes_on g Finished Finished Finished t u w result (first Finished).0 (first Finished).1 (done is all g sides tells))
