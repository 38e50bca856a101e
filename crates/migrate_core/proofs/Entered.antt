-- That the directory which is to have an item of the source is entered in the target.
use Rattle.std.proofs.Common.{◌≡◌, ◌≢◌, ◌<◌, ℕ, zero, suc, List, [], ◌∷◌, ◌++◌, length, take, get_or, Contains, sym, ap, ◌∙◌, inl, inr, subst, arith}
use Rattle.std.proofs.lemmas.Bool.{cases_order}
use Rattle.std.proofs.lemmas.Cmp.{tied_itself}
use Rattle.std.proofs.lemmas.List.{get_or_default}
use Rattle.std.proofs.lemmas.List.Elements.{Contains-append_right}
use Rattle.std.specs.Ordering.{ordering_reverse}
use Rattle.std.specs.declared.cmp.Ordering.TheVariants.{Less, Equal, Greater}
use Rattle.folder_spec.specs.Seen.{under}
use Rattle.folder_spec.specs.View.{View}
use Rattle.plain_tree.specs.Mapped.{mapped_path}
use Rattle.plain_tree.specs.Names as plain
use Rattle.plain_tree.specs.Order.{path_cmp}
use Rattle.plain_tree.specs.declared.name_map.NameMap.{NameMap}
use Rattle.vault_spec.specs.Mapped.{IsMappedItem}
use Rattle.vault_spec.specs.Opened.{OpenedVault}
use Rattle.vault_spec.specs.Format.{Directory}
use Rattle.vault_spec.specs.Opens as opens
use Rattle.vault_spec.specs.Opens.{NoItem}
use Rattle.vault_spec.specs.Plan.{Planned}
use Rattle.vault_spec.specs.Reached.{Leads}
use Rattle.vault_spec.specs.Vault.{format_of}
use Rattle.vault_walk.specs.Survey.{IsOrdered}
use Rattle.migrate_core.proofs.Endings.{root_directory}
use Rattle.migrate_core.proofs.Fronts.{directory_above}
use Rattle.vault_walk.proofs.OpenDirectories.{EnteredLeads, leads_to}
use Rattle.vault_walk.proofs.Walks.{StandBelow}
use Rattle.migrate_core.proofs.MappedItems.{ComesFrom, MappedParts, TellsMapped, comes_from, item_at, mapped_parts, opens_from}
use Rattle.migrate_core.specs.Copying.{Enters, HasCopied}
use Rattle.migration_spec.specs.Guard.{tree_at}
use Rattle.migrate_core.proofs.Searched.{paths_total}

-- ---- the directory of the next item

in_front : {X : Type 0} (xs : List X) (k j : ℕ) (x : X) → j < k → j < length xs → get_or xs j x ≡ x → Contains (take k xs) x
in_front [] k j x before inside at = absurd (omega (arith, inside))
in_front (y ∷ xs) zero j x before inside at = absurd (omega (arith, before))
in_front (y ∷ xs) (suc k) zero x before inside at = (0, omega arith, at)
in_front (y ∷ xs) (suc k) (suc j) x before inside at = let c = in_front xs k j x (omega (arith, before)) (omega (arith, inside)) at in (suc c.0, omega (arith, c.1), c.2)

-- what has an earlier path comes before
before : (items : List Planned) → IsOrdered items → (x item : Planned) (j k : ℕ) → j < length items → get_or items j x ≡ x → k < length items → item ≡ get_or items k item → path_cmp x.path item.path ≡ Less → j < k
before items ordered x item j k in_j at_j in_k at_k less = elim (cases_order j k) [
  | inl same ↦
      let one : x ≡ item = sym at_j ∙ get_or_default items j x item in_j ∙ ap (λ n. get_or items n item) same ∙ sym at_k in
      absurd (never_equal (sym (tied_itself paths_total item.path) ∙ ap (λ (z : Planned). path_cmp z.path item.path) (sym one) ∙ less))
  | inr (inl lower) ↦ lower
  | inr (inr higher) ↦
      let later : path_cmp (get_or items k item).path (get_or items j item).path ≡ Less = ordered k j item higher in_j in
      let turned : path_cmp item.path x.path ≡ Less = ap (λ (z : Planned). path_cmp z.path x.path) at_k ∙ ap (λ (z : Planned). path_cmp (get_or items k item).path z.path) (sym at_j ∙ get_or_default items j x item in_j) ∙ later in
      absurd (never_greater (sym less ∙ paths_total.antisymm x.path item.path ∙ ap ordering_reverse turned))
]
  where
    never_equal : Equal ≢ Less
    never_equal e = cc e

    never_greater : Less ≢ Greater
    never_greater e = cc e

-- a path comes before its children
abbrev pub ParentsFirst : Type 0
ParentsFirst = (p : plain.Path) (name : List ℕ) → path_cmp p (p ++ name ∷ []) ≡ Less

pub next_enters : StandBelow → EnteredLeads → ParentsFirst → (rule : NameMap) (from to : OpenedVault) (there items : List Planned) (k : ℕ) (item : Planned) (v : View) → TellsMapped rule (tree_at from v) items
    → k < length items → item ≡ get_or items k item → HasCopied rule from to (there ++ take k items) v → Enters to item v
next_enters below leads first rule from to there items k item v tells inside at copied front name is =
    let way : (dir : Directory) × Leads (format_of to.vault) (under to.root v) front dir = leads_to below (format_of to.vault) (under to.root v) copied.copying.target.orderly front (opens_there front is) in
    (way.0, (leads (format_of to.vault) (under to.root v) front way.0).1 way.1)
  where
    opens_no : opens.Directory ≢ NoItem
    opens_no e = cc e

    opens_there : (front : plain.Path) → item.path ≡ front ++ name ∷ [] → tree_at to v front ≡ opens.Directory
    opens_there [] is = root_directory (format_of to.vault) (under to.root v)
    opens_there (a ∷ rest) is =
        let source : ComesFrom rule (tree_at from v) item = comes_from rule (tree_at from v) items item tells (k, inside, sym at) in
        let parts : MappedParts rule source.path (a ∷ rest) name = mapped_parts rule source.path (a ∷ rest) name (source.comes ∙ is) in
        let directory : tree_at from v parts.own ≡ opens.Directory = directory_above below (format_of from.vault) (under from.root v) parts.own parts.last (subst (λ p. tree_at from v p ≢ NoItem) parts.is source.opens) in
        let stands : tree_at from v parts.own ≢ NoItem = λ none. opens_no (sym directory ∙ none) in
        let x = item_at rule (tree_at from v) items parts.own tells (not_root parts.own parts.maps) stands in
        let here : x.0.path ≡ a ∷ rest = x.2 ∙ parts.maps in
        let less : path_cmp x.0.path item.path ≡ Less = ap (λ p. path_cmp p item.path) here ∙ ap (path_cmp (a ∷ rest)) is ∙ first (a ∷ rest) name in
        let early : x.1.0 < k = before items tells.mapped.ordered x.0 item x.1.0 k x.1.1 x.1.2 inside at less in
        let has : tree_at to v (a ∷ rest) ≢ NoItem = subst (λ p. tree_at to v p ≢ NoItem) here (copied.has x.0 (Contains-append_right there (take k items) x.0 (in_front items k x.1.0 x.0 early x.1.1 x.1.2))) in
        sym (opens_from rule (tree_at from v) parts.own (tree_at to v (a ∷ rest)) tells.apart stands has
        (subst (λ p. IsMappedItem rule (tree_at from v) p (tree_at to v (a ∷ rest))) (sym parts.maps) (copied.copying.part (a ∷ rest) (λ e. cc e) has).0)) ∙ directory
      where
        not_root : (own : plain.Path) → mapped_path rule own ≡ a ∷ rest → own ≢ []
        not_root own maps root = let none : mapped_path rule [] ≡ a ∷ rest = ap (mapped_path rule) (sym root) ∙ maps in cc none
