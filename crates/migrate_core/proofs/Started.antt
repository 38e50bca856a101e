-- That the source may be copied into the target when the moving begins.
use Rattle.std.proofs.Common.{◌≡◌, List, [], ◌∷◌, ◌++◌, append_assoc, Contains, Option, Some, None, Ok, Err, refl, sym, ap, ◌∙◌, subst, arith}
use Rattle.folder_spec.specs.Event.{Told}
use Rattle.folder_spec.proofs.Tables.{present_is_table}
use Rattle.folder_spec.specs.Path.{Path}
use Rattle.folder_spec.specs.Seen.{IfSeen, seen, under}
use Rattle.folder_spec.specs.State.{State, present}
use Rattle.folder_spec.specs.View.{View, found}
use Rattle.tree_match.specs.Comparing.{Is}
use Rattle.vault_spec.specs.Mapped.{IsPartOfMapped}
use Rattle.migration_sides.specs.Causes.{Walks}
use Rattle.migration_sides.specs.Sides.{IsWalked}
use Rattle.plain_tree.specs.declared.name_map.NameMap.{NameMap}
use Rattle.tree_match.specs.Mapping.{IsMappedPlan}
use Rattle.tree_match.specs.Trees.{AndFurther, AsSame, HoldsAllBy, IsMappedWalkOf, IsWalkOf, PlannedVault, match_of, side_of, tree_of}
use Rattle.tree_match.specs.declared.answer.Match.{Match}
use Rattle.tree_match.specs.declared.answer.Match.TheVariants.{Contained, Differs, Same}
use Rattle.move_journal.specs.declared.journal.Journal.{Journal}
use Rattle.vault_read.specs.OwnFolders.{HasOwnFolders}
use Rattle.vault_spec.specs.Opened.{OpenedVault}
use Rattle.vault_spec.proofs.Mapped.{contains_mapped}
use Rattle.vault_spec.specs.Alike.{HasFolders, IsOrderly}
use Rattle.vault_spec.specs.Findings.{IsClean}
use Rattle.vault_spec.specs.Plan.{Planned}
use Rattle.vault_spec.specs.Vault.{format_of}
use Rattle.migrate_core.proofs.Causing.{PassedWith}
use Rattle.migrate_core.proofs.Compared.{planned_at}
use Rattle.tree_match.proofs.Passing.{TellsTree}
use Rattle.migrate_core.specs.Causes.{TestsHeld, TestsItems}
use Rattle.migrate_core.specs.Copying.{MayBegin}
use Rattle.migration_spec.specs.Guard.{tree_at}
use Rattle.migration_spec.proofs.Tellings.{AreSound}

-- what is seen has its folders, also at a root
seen_folders : (root : Path) (t : Option Told) → AreSound t → IfSeen t (λ v. HasFolders (under root v))
seen_folders root None sound v is = absurd is
seen_folders root (Some a) sound v is = subst (λ w. HasFolders (under root w)) (sym is) folders
  where
    s : State
    s = a.state

    folders : HasFolders (under root (seen s))
    folders p name there =
        ap (found (λ n. (s.nodes n).now)) (((sound a refl).tables (present s) (present_is_table s)).parents (root ++ p) name
        (λ none. there (ap (seen s) (sym (append_assoc root p (name ∷ []))) ∙ ap (found (λ n. (s.nodes n).now)) none)))

-- a clean vault is orderly
abbrev pub CleanIsOrderly : OpenedVault → Type 0
CleanIsOrderly a = (v : View) → HasFolders v → HasOwnFolders a.vault v → IsClean (format_of a.vault) v → IsOrderly (format_of a.vault) v

-- the target's tree is part of the source's, as walks of both tell
abbrev pub HeldAtFirst : NameMap → OpenedVault → OpenedVault → List Planned → List Planned → Option Told → Type 0
HeldAtFirst rule from to items there t = IfSeen t (λ v. IsWalkOf v (side_of from items) → IsWalkOf v (side_of to there) → IsPartOfMapped rule (tree_at to v) (tree_at from v))

pub may_begin : TellsTree → (rule : NameMap) (from to : OpenedVault) → CleanIsOrderly from → CleanIsOrderly to → (items there : List Planned) (t : Option Told) → AreSound t → IsWalked t from items → IsWalked t to there
    → IfSeen t (λ v. Walks from v (Ok items)) → HeldAtFirst rule from to items there t → MayBegin rule from to there t
may_begin tells rule from to orderly orderly_to items there t sound walked walked_to passed held v is own = record {
  copying = record {
    source = record { clean = walked.clean v is; orderly = orderly (under from.root v) (seen_folders from.root t sound v is) own.source (walked.clean v is) };
    within = (passed v is).0;
    target = record { clean = walked_to.clean v is; orderly = orderly_to (under to.root v) (seen_folders to.root t sound v is) own.target (walked_to.clean v is) };
    part = held v is (walked.plan v is own.source) b;
  };
  has = λ item among. (((tells v (side_of to there) b).items.items item.path).0 (contains_mapped (λ (x : Planned). x.path) there item among)).1;
}
  where
    b : IsWalkOf v (side_of to there)
    b = walked_to.plan v is own.target

-- nothing is in an empty target
pub empty_held : TellsTree → (rule : NameMap) (from to : OpenedVault) (items : List Planned) (t : Option Told) → HeldAtFirst rule from to items [] t
empty_held tells rule from to items t v is a b path named there =
    let x : (x : Planned) × Contains [] x × (x.path ≡ path) = planned_at (tree_at to v) [] (tells v (side_of to []) b) path named there in
    absurd (omega (arith, x.1.1))

-- what a vault holds of a mapped one is part of it
abbrev pub HeldIsPartOf : Type 0
HeldIsPartOf = (v : View) (rule : NameMap) (a b : PlannedVault) → IsWalkOf v a → IsMappedWalkOf rule v b → HoldsAllBy (match_of v a b) → IsPartOfMapped rule (tree_of v a) (tree_of v b)

-- what is in the target was compared
module _ (from to : OpenedVault) (journal : Journal) (v : View) (items mapped there : List Planned) where
  abbrev Held : List Planned → Type 0
  Held others = HoldsAllBy (match_of v (side_of to there) (side_of from others))

  held_by_match : (others : List Planned) (m : Match) → match_of v (side_of to there) (side_of from others) ≡ Is m → TestsHeld m (Ok tt) → Held others
  held_by_match others Same is passed = subst HoldsAllBy (sym is) AsSame
  held_by_match others (Contained path) is passed = subst HoldsAllBy (sym is) (AndFurther path)
  held_by_match others (Differs path how) is passed = cc passed

  pub items_held : TestsItems from to journal v items there (PassedWith mapped) (Ok tt) → Held mapped
  items_held (Err why, tested, is) = cc is
  items_held (Ok value, told, (Err why, names, is)) = cc is
  items_held (Ok value, told, (Ok other, names, (Err why, maps, is))) = cc is
  items_held (Ok value, told, (Ok other, names, (Ok plan, maps, (Err why, matches, is)))) = cc is
  items_held (Ok value, told, (Ok other, names, (Ok plan, maps, (Ok m, matches, (Err why, held, is))))) = cc is
  items_held (Ok value, told, (Ok other, names, (Ok plan, maps, (Ok m, matches, (Ok last, held, (is, e)))))) = subst Held is (held_by_match plan.items m matches held)

pub matched_held : HeldIsPartOf → (rule : NameMap) (from to : OpenedVault) (journal : Journal) (items mapped there : List Planned) (t : Option Told) → IsMappedPlan rule items mapped
    → IfSeen t (λ v. TestsItems from to journal v items there (PassedWith mapped) (Ok tt)) → HeldAtFirst rule from to items there t
matched_held part rule from to journal items mapped there t same passed v is a b =
    part v rule (side_of to there) (side_of from mapped) b (record { own = items; walk = a; mapped = same }) (items_held from to journal v items mapped there (passed v is))
