-- That once all items are copied the two vaults are walked and compared to the end.
use Rattle.std.proofs.Common.{◌≡◌, ◌≢◌, List, [], ◌∷◌, Contains, Option, Result, Ok, Err, inl, inr, refl, sym, subst}
use Rattle.chunk_files.specs.Reading.{Ending, Faulty, Wanting}
use Rattle.folder_spec.specs.Path.{Path}
use Rattle.folder_spec.specs.Event.{Told}
use Rattle.folder_spec.specs.Seen.{IsSeen, under}
use Rattle.folder_spec.specs.View.{View}
use Rattle.migration_sides.specs.Causes.{Refuses, Walks}
use Rattle.migration_sides.specs.Faults.{of_walk}
use Rattle.migration_sides.specs.Sides.{IsWalked}
use Rattle.migration_sides.specs.Tests.{Then, nothing_follows}
use Rattle.migration_sides.specs.declared.fault.StepFault.{StepFault}
use Rattle.migration_sides.specs.declared.fault.StepFault.TheVariants.{Failed, NoMemory}
use Rattle.plain_tree.specs.Mapped.{mapped_path}
use Rattle.plain_tree.specs.Names as plain
use Rattle.plain_tree.specs.declared.name_map.NameMap.{NameMap}
use Rattle.tree_match.specs.Comparing.{Answers, Outcome, Stops}
use Rattle.vault_spec.specs.PlanOf.{IsPlanOf}
use Rattle.vault_spec.specs.Mapped.{IsHeldIn, IsPartOfMapped, IsWhole}
use Rattle.tree_match.specs.Trees.{AreSame, IsMappedWalkOf, IsSameOrTooLong, IsTooLong, IsWalkOf, PlannedVault, match_of, side_of, with_items, tree_of}
use Rattle.tree_match.specs.declared.answer.Match.{Match}
use Rattle.tree_match.specs.declared.answer.MatchFault.{MatchFault}
use Rattle.tree_match.specs.declared.answer.MatchFault.TheVariants as match
use Rattle.vault_spec.specs.Opened.{OpenedVault}
use Rattle.vault_faults.specs.declared.fault.Limit.TheVariants as limit
use Rattle.vault_spec.proofs.Mapped.{mapped_from}
use Rattle.vault_spec.specs.Alike.{IsOrderly}
use Rattle.vault_spec.specs.Findings.{IsClean}
use Rattle.vault_spec.specs.Opens.{NoItem, Tree}
use Rattle.vault_spec.specs.Plan.{Planned}
use Rattle.vault_spec.specs.Vault.{format_of}
use Rattle.vault_walk.specs.Surveyed.{IsWithin}
use Rattle.vault_walk.specs.declared.fault.WalkFault.{WalkFault}
use Rattle.vault_walk.specs.declared.fault.WalkFault.TheVariants as walk
use Rattle.migrate_core.proofs.MappedItems.{TellsMapped, item_at, opens_from}
use Rattle.migrate_core.proofs.Planned.{mapped_walk_of, walk_of}
use Rattle.migrate_core.proofs.Within.{part_within}
use Rattle.vault_walk.proofs.Walks.{StandBehind, StandBelow}
use Rattle.migrate_core.specs.Causes.{IsStop, nothing_stops}
use Rattle.migrate_core.specs.Copying.{HasCopied, IsCopying}
use Rattle.migration_spec.specs.Guard.{tree_at}
use Rattle.migrate_core.specs.Faults.{of_match, of_step}
use Rattle.migrate_core.specs.Sides.{IsMappedWalk}
use Rattle.tree_match.proofs.Passing.{MappedStayApart, TellsTree}
use Rattle.tree_match.proofs.HeldTrees.{FilesAreThere}

-- ---- a walk

-- a vault that is clean and passes no limit is walked
walk_answers : (a : OpenedVault) (v : View) (P : Type 0) → (P → IsClean (format_of a.vault) (under a.root v)) → (P → IsWithin (format_of a.vault) (under a.root v)) → (why : WalkFault) → Walks a v (Err why)
    → IsStop P nothing_stops (of_step (of_walk why))
walk_answers a v P clean within (walk.NotClean finding) refuses = λ p. clean p refuses.1.first.finding refuses.1.first.at refuses.1.of_structure refuses.1.found
walk_answers a v P clean within (walk.Limit limit.Items) refuses = λ p. (within p).items refuses
walk_answers a v P clean within (walk.Limit limit.Depth) refuses = λ p. (within p).depth refuses.deep
walk_answers a v P clean within (walk.Limit (limit.Length at)) refuses = absurd refuses
walk_answers a v P clean within (walk.Limit limit.Input) refuses = absurd refuses
walk_answers a v P clean within walk.Failed refuses = absurd refuses
walk_answers a v P clean within walk.NoMemory refuses = absurd refuses

abbrev refused : StepFault → Result (Unit {0}) StepFault
refused fault = Err fault

fault_is : (fault why : StepFault) → refused fault ≡ refused why → fault ≡ why
fault_is fault why e = cc e

pub walk_stops : (a : OpenedVault) (v : View) (P : Type 0) → (P → IsClean (format_of a.vault) (under a.root v)) → (P → IsWithin (format_of a.vault) (under a.root v)) → (fault : StepFault)
    → Refuses (Then of_walk (Walks a v) nothing_follows) fault → IsStop P nothing_stops (of_step fault)
walk_stops a v P clean within fault (inl failed) = subst (λ why. IsStop P nothing_stops (of_step why)) (sym (fault_is fault Failed failed)) tt
walk_stops a v P clean within fault (inr (inl none)) = subst (λ why. IsStop P nothing_stops (of_step why)) (sym (fault_is fault NoMemory none)) tt
walk_stops a v P clean within fault (inr (inr (Ok items, walks, never))) = absurd never
walk_stops a v P clean within fault (inr (inr (Err why, walks, is))) = subst (λ other. IsStop P nothing_stops (of_step other)) (sym (fault_is fault (of_walk why) is)) (walk_answers a v P clean within why walks)

-- ---- comparing

abbrev stopped : Path → Ending → Outcome Match
stopped at ending = Stops at ending

none_damaged : (outcome : Outcome Match) → IsSameOrTooLong outcome → (at : Path) (ending : Ending) → ending ≢ Wanting → outcome ≢ Stops at ending
none_damaged _ AreSame at ending other e = cc e
none_damaged _ (IsTooLong p) at ending other e = other (same e)
  where
    same : {q r : Path} {x y : Ending} → stopped q x ≡ stopped r y → y ≡ x
    same e = cc e

pub match_stops : (outcome : Outcome Match) (why : MatchFault) → Answers outcome (Err why) → IsStop (IsSameOrTooLong outcome) nothing_stops (of_match why)
match_stops outcome (match.Damaged at fault) is = λ same. none_damaged outcome same at (Faulty fault) (λ e. cc e) is
match_stops outcome (match.Limit (limit.Length at)) is = tt
match_stops outcome (match.Limit limit.Items) is = absurd is
match_stops outcome (match.Limit limit.Depth) is = absurd is
match_stops outcome (match.Limit limit.Input) is = absurd is
match_stops outcome match.Failed is = tt
match_stops outcome match.NoMemory is = tt

-- ---- once all is copied

abbrev pub OneTreeMatches : Type 0
OneTreeMatches = (v : View) (names : NameMap) (a b : PlannedVault) → IsMappedWalkOf names v a → IsWalkOf v b → IsHeldIn names (tree_of v a) (tree_of v b) → IsPartOfMapped names (tree_of v b) (tree_of v a) → IsSameOrTooLong (match_of v a b)

-- an item of a tree is in its plan
pub planned_at : (t : Tree) (items : List Planned) → IsPlanOf t items → (path : plain.Path) → path ≢ [] → t path ≢ NoItem → (x : Planned) × Contains items x × (x.path ≡ path)
planned_at t items plan path named there = mapped_from (λ (x : Planned). x.path) items path ((plan.items.items path).1 (named, there))

-- a walk at mapped paths tells the tree from which its items come
pub tells_mapped : TellsTree → MappedStayApart → (v : View) (rule : NameMap) (a : PlannedVault) → IsMappedWalkOf rule v a → TellsMapped rule (tree_of v a) a.items
tells_mapped tells apart v rule a walk = record { own = walk.own; plan = tells v (with_items a walk.own) walk.walk; mapped = walk.mapped; apart = apart v rule a walk }

pub source_tells : TellsTree → MappedStayApart → (rule : NameMap) (from : OpenedVault) (items : List Planned) (t : Option Told) (v : View) → IsMappedWalk rule t from items → IsSeen t v → IsOrderly (format_of from.vault) (under from.root v)
    → TellsMapped rule (tree_at from v) items
source_tells tells apart rule from items t v walked is orderly = tells_mapped tells apart v rule (side_of from items) (mapped_walk_of rule from items t v walked is orderly)

pub copied_within : StandBelow → StandBehind → FilesAreThere → (rule : NameMap) (from to : OpenedVault) (v : View) → IsCopying rule from to v → IsWithin (format_of to.vault) (under to.root v)
copied_within below behind files rule from to v k =
    part_within below behind files rule from.vault to.vault (under from.root v) (under to.root v) k.source.orderly k.target.orderly k.part k.within

pub copied_matches : TellsTree → MappedStayApart → OneTreeMatches → (rule : NameMap) (from to : OpenedVault) (items others : List Planned) (t u : Option Told) (v : View) → IsMappedWalk rule t from items → IsSeen t v → IsWalked u to others → IsSeen u v
    → HasCopied rule from to items v → IsSameOrTooLong (match_of v (side_of from items) (side_of to others))
copied_matches tells apart matches rule from to items others t u v walked is walked_to is_to h =
    matches v rule (side_of from items) (side_of to others) (mapped_walk_of rule from items t v walked is h.copying.source.orderly) (walk_of to others u v walked_to is_to h.copying.target.orderly) held h.copying.part
  where
    told : TellsMapped rule (tree_at from v) items
    told = source_tells tells apart rule from items t v walked is h.copying.source.orderly

    held : IsHeldIn rule (tree_at from v) (tree_at to v)
    held path named there =
        let x = item_at rule (tree_at from v) items path told named there in
        let has : tree_at to v (mapped_path rule path) ≢ NoItem = subst (λ p. tree_at to v p ≢ NoItem) x.2 (h.has x.0 x.1) in
        let both = h.copying.part (mapped_path rule path) (not_root path named) has in
        let same : tree_at from v path ≡ tree_at to v (mapped_path rule path) = opens_from rule (tree_at from v) path (tree_at to v (mapped_path rule path)) told.apart there has both.0 in
        (sym same, subst IsWhole (sym same) both.1)
      where
        not_root : (path : plain.Path) → path ≢ [] → mapped_path rule path ≢ []
        not_root [] some root = some refl
        not_root (name ∷ rest) some root = cc root
