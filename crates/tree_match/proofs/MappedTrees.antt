-- A walk whose names a rule mapped tells the mapped tree of the vault's.
use Rattle.std.proofs.Common.{◌≡◌, ◌≢◌, ◌⊎◌, inl, inr, ◌<◌, Bool, true, false, List, [], ◌∷◌, ◌++◌, length, map, get_or, Option, Some, None, refl, sym, ap, subst, subst₂, ◌∙◌, arith, Contains, AllPairs, length-append}
use Rattle.std.proofs.Math.Seq.{get_or-append_seam}
use Rattle.std.proofs.lemmas.Bool.{cases_order, true≢false}
use Rattle.std.proofs.lemmas.List.{get_or-map, get_or_append_left, get_or_default, length-map}
use Rattle.std.proofs.lemmas.List.Elements.{Contains-append_left, Contains-append_right}
use Rattle.std.proofs.lemmas.List.Sorted.{Contains-permutation, IsPermutation-sym}
use Rattle.std.proofs.lemmas.Map.Keys.{IsDistinct-IsPermutation, IsDistinct-from_apart, apart_from_distinct}
use Rattle.std.specs.List.{IsDistinct}
use Rattle.std.specs.declared.cmp.Ordering.TheVariants.{Less}
use Rattle.folder_spec.specs.Seen.{ShowsFile}
use Rattle.folder_spec.specs.View.{View}
use Rattle.vault_spec.specs.Mapped.{IsHeldIn, IsMappedItem, IsPartOfMapped, IsWhole, StaysApart}
use Rattle.plain_tree.specs.Mapped.{mapped_path}
use Rattle.plain_tree.specs.Names as plain
use Rattle.plain_tree.specs.Order.{path_cmp, path_eq}
use Rattle.plain_tree.specs.declared.NodeKind.TheVariants as node
use Rattle.plain_tree.specs.declared.name_map.NameMap.{NameMap}
use Rattle.vault_spec.proofs.Mapped.{contains_mapped, mapped_from}
use Rattle.vault_spec.specs.Opens.{Opened, NoItem, Tree}
use Rattle.vault_spec.specs.Plan.{Planned}
use Rattle.vault_walk.specs.Survey.{IsOrdered}
use Rattle.tree_match.proofs.HeldParts.{IsPart}
use Rattle.tree_match.proofs.HeldTrees.{found_with}
use Rattle.tree_match.proofs.SamePaths.{less_apart, paths_decide, paths_flip}
use Rattle.tree_match.proofs.SameTrees.{some_with}
use Rattle.tree_match.proofs.ToldTrees.{TellsTree, opens_as}
use Rattle.tree_match.specs.Mapping.{AreFirstToMeet, IsMappedPlan, mapped_item}
use Rattle.tree_match.specs.Matching.{item_with}
use Rattle.tree_match.specs.Trees.{PlannedVault, IsMappedWalkOf, with_items, tree_of}

-- ---- items with paths of their own

-- where no two elements have one key, those that have one are one
one_with : {X K : Type 0} (key : X → K) (xs : List X) → AllPairs (λ (x y : X). key x ≢ key y) xs → (x y : X) → Contains xs x → Contains xs y → key x ≡ key y → x ≡ y
one_with {X} {K} key xs apart x y one other same = by (cases_order one.0 other.0)
  where
    at_other : (d : X) → get_or xs other.0 d ≡ y
    at_other d = get_or_default xs other.0 d y other.1 ∙ other.2

    at_one : (d : X) → get_or xs one.0 d ≡ x
    at_one d = get_or_default xs one.0 d x one.1 ∙ one.2

    by : (one.0 ≡ other.0) ⊎ ((one.0 < other.0) ⊎ (other.0 < one.0)) → x ≡ y
    by (inl e) = sym (at_one x) ∙ ap (λ k. get_or xs k x) e ∙ at_other x
    by (inr (inl less)) = absurd (apart one.0 other.0 x less other.1 (ap key (at_one x) ∙ same ∙ ap key (sym (at_other x))))
    by (inr (inr more)) = absurd (apart other.0 one.0 x more one.1 (ap key (at_other x) ∙ sym same ∙ ap key (sym (at_one x))))

paths_apart : (items : List Planned) → IsOrdered items → AllPairs (λ (x y : Planned). x.path ≢ y.path) items
paths_apart items ordered i j d before few = less_apart (get_or items i d).path (get_or items j d).path (ordered i j d before few)

-- an item of a list in order is found by its path
found_one : (items : List Planned) → IsOrdered items → (x : Planned) → Contains items x → item_with x.path items ≡ Some x
found_one items ordered x among =
    let found : (o : Planned) × (item_with x.path items ≡ Some o) = some_with x.path items x among refl in
    let there : Contains items found.0 × (found.0.path ≡ x.path) = found_with x.path items found.0 found.1 in
    found.1 ∙ ap Some (one_with (λ (z : Planned). z.path) items (paths_apart items ordered) found.0 x there.0 among there.1)

-- they have one path
abbrev one_place : Planned → Planned → Bool
one_place x y = path_eq x.path y.path

not_one : (p q : plain.Path) → p ≢ q → path_eq p q ≡ false
not_one p q other = by (path_eq p q) refl
  where
    by : (b : Bool) → path_eq p q ≡ b → b ≡ false
    by true e = absurd (other ((paths_decide p q).0 e))
    by false e = refl

-- no two items of a plan come to one path of the mapped one
mapped_apart : (names : NameMap) (own items : List Planned) → IsMappedPlan names own items → AllPairs (λ (x y : Planned). mapped_path names x.path ≢ mapped_path names y.path) own
mapped_apart names own items is i j d before few same =
    let f = mapped_item names in
    let there : IsDistinct one_place items = IsDistinct-from_apart one_place items (λ i j d before few. not_one (get_or items i d).path (get_or items j d).path (paths_apart items is.ordered i j d before few)) in
    let here : IsDistinct one_place (map f own) = IsDistinct-IsPermutation one_place (λ x y. paths_flip x.path y.path) items (map f own) (IsPermutation-sym (map f own) items is.same) there in
    let first : get_or (map f own) i (f d) ≡ f (get_or own i d) = get_or-map f own i d (f d) (omega (arith, before, few)) in
    let second : get_or (map f own) j (f d) ≡ f (get_or own j d) = get_or-map f own j d (f d) few in
    let apart : one_place (f (get_or own i d)) (f (get_or own j d)) ≡ false =
    subst₂ (λ (x y : Planned). one_place x y ≡ false) first second (apart_from_distinct one_place (map f own) i j (f d) here before (omega (arith, few, length-map own f))) in
    true≢false (sym ((paths_decide (mapped_path names (get_or own i d).path) (mapped_path names (get_or own j d).path)).1 same) ∙ apart)

-- ---- the tree that items tell

abbrev opened_found : View → PlannedVault → Option Planned → Opened
opened_found v a None = NoItem
opened_found v a (Some x) = opens_as v a x

-- what opens at the paths of the items
abbrev pub tree_by : View → PlannedVault → Tree
tree_by v a path = opened_found v a (item_with path a.items)

-- it has each item of the first tree at its mapped path, and no others; of the root it tells nothing
pub record MapsItems (names : NameMap) (m u : Tree) : Type 0 where
  pub each : (path : plain.Path) → path ≢ [] → m path ≢ NoItem → u (mapped_path names path) ≡ m path
  pub only : (path : plain.Path) → u path ≢ NoItem → IsMappedItem names m path (u path)

-- below the root
named_from : (names : NameMap) (path : plain.Path) → mapped_path names path ≢ [] → path ≢ []
named_from names path named root = named (ap (mapped_path names) root)

named_there : (names : NameMap) (path : plain.Path) → path ≢ [] → mapped_path names path ≢ []
named_there names [] named = λ e. named refl
named_there names (name ∷ path) named = λ e. cc e

module _ (v : View) (names : NameMap) (a : PlannedVault) (walk : IsMappedWalkOf names v a) (tells : TellsTree v (with_items a walk.own) (tree_of v a)) where
  -- an item is one of the vault's own, at its mapped path
  from_own : (x : Planned) → Contains a.items x → (y : Planned) × Contains walk.own y × (mapped_item names y ≡ x)
  from_own x among = mapped_from (mapped_item names) walk.own x (Contains-permutation a.items (map (mapped_item names) walk.own) x (IsPermutation-sym (map (mapped_item names) walk.own) a.items walk.mapped.same) among)

  mapped_among : (y : Planned) → Contains walk.own y → Contains a.items (mapped_item names y)
  mapped_among y among = Contains-permutation (map (mapped_item names) walk.own) a.items (mapped_item names y) walk.mapped.same (contains_mapped (mapped_item names) walk.own y among)

  at_item : (x : Planned) → Contains a.items x → tree_by v a x.path ≡ opens_as v a x
  at_item x among = ap (opened_found v a) (found_one a.items walk.mapped.ordered x among)

  item_at : (path : plain.Path) → tree_by v a path ≢ NoItem → (x : Planned) × Contains a.items x × (x.path ≡ path)
  item_at path there = by (item_with path a.items) refl
    where
      by : (found : Option Planned) → item_with path a.items ≡ found → (x : Planned) × Contains a.items x × (x.path ≡ path)
      by None e = absurd (there (ap (opened_found v a) e))
      by (Some x) e = let is : Contains a.items x × (x.path ≡ path) = found_with path a.items x e in (x, is.0, is.1)

  -- what opens at an item's path in the vault's own tree
  item_is : (x : Planned) → Contains a.items x → IsMappedItem names (tree_of v a) x.path (opens_as v a x)
  item_is x among =
      let y : (y : Planned) × Contains walk.own y × (mapped_item names y ≡ x) = from_own x among in
      subst (λ (z : Planned). IsMappedItem names (tree_of v a) z.path (opens_as v a z)) y.2 (record { from = y.0.path; comes = refl; is = tells.opens y.0 y.1 })

  pub maps : MapsItems names (tree_of v a) (tree_by v a)
  maps = record { each = each; only = only }
    where
      each : (path : plain.Path) → path ≢ [] → tree_of v a path ≢ NoItem → tree_by v a (mapped_path names path) ≡ tree_of v a path
      each path named there =
          let y : (y : Planned) × Contains walk.own y × (y.path ≡ path) = tells.each path named there in
          subst (λ p. tree_by v a (mapped_path names p) ≡ tree_of v a p) y.2 (at_item (mapped_item names y.0) (mapped_among y.0 y.1) ∙ sym (tells.opens y.0 y.1))

      only : (path : plain.Path) → tree_by v a path ≢ NoItem → IsMappedItem names (tree_of v a) path (tree_by v a path)
      only path there =
          let x : (x : Planned) × Contains a.items x × (x.path ≡ path) = item_at path there in
          subst (λ p. IsMappedItem names (tree_of v a) p (tree_by v a p)) x.2 (subst (IsMappedItem names (tree_of v a) x.0.path) (sym (at_item x.0 x.1)) (item_is x.0 x.1))

  pub mapped_tells : TellsTree v a (tree_by v a)
  mapped_tells = record { each = λ path named. item_at path; items = items; opens = at_item; files = files }
    where
      items : (x : Planned) → Contains a.items x → (x.path ≢ []) × (tree_by v a x.path ≢ NoItem)
      items x among =
          let y : (y : Planned) × Contains walk.own y × (mapped_item names y ≡ x) = from_own x among in
          let here : tree_by v a (mapped_item names y.0).path ≡ tree_of v a y.0.path = at_item (mapped_item names y.0) (mapped_among y.0 y.1) ∙ sym (tells.opens y.0 y.1) in
          subst (λ (z : Planned). (z.path ≢ []) × (tree_by v a z.path ≢ NoItem)) y.2
          (named_there names y.0.path (tells.items y.0 y.1).0, λ none. (tells.items y.0 y.1).1 (sym here ∙ none))

      files : (x : Planned) → Contains a.items x → x.node ≡ node.File → ShowsFile v x.at
      files x among =
          let y : (y : Planned) × Contains walk.own y × (mapped_item names y ≡ x) = from_own x among in
          subst (λ (z : Planned). z.node ≡ node.File → ShowsFile v z.at) y.2 (tells.files y.0 y.1)

  -- no two items of the vault's tree come to one path
  pub apart : StaysApart names (tree_of v a)
  apart [] [] one other meet = refl
  apart [] (name ∷ q) one other meet = absurd (named_there names (name ∷ q) (λ e. cc e) (sym meet))
  apart (name ∷ p) [] one other meet = absurd (named_there names (name ∷ p) (λ e. cc e) meet)
  apart (name ∷ p) (name' ∷ q) one other meet =
      let x : (y : Planned) × Contains walk.own y × (y.path ≡ name ∷ p) = tells.each (name ∷ p) (λ e. cc e) one in
      let y : (y : Planned) × Contains walk.own y × (y.path ≡ name' ∷ q) = tells.each (name' ∷ q) (λ e. cc e) other in
      let same : x.0 ≡ y.0 = one_with (λ (z : Planned). mapped_path names z.path) walk.own (mapped_apart names walk.own a.items walk.mapped) x.0 y.0 x.1 y.1
      (ap (mapped_path names) x.2 ∙ meet ∙ ap (mapped_path names) (sym y.2)) in
      sym x.2 ∙ ap (λ (z : Planned). z.path) same ∙ y.2

  pub in_mapped : (path : plain.Path) → path ≢ [] → tree_of v a path ≢ NoItem → (x : Planned) × Contains a.items x × (x.path ≡ mapped_path names path)
  in_mapped path named there =
      let y : (y : Planned) × Contains walk.own y × (y.path ≡ path) = tells.each path named there in
      (mapped_item names y.0, mapped_among y.0 y.1, ap (mapped_path names) y.2)

  -- an item opens so in the vault's own tree
  pub opens_in : (x : Planned) (opened : Opened) → Contains a.items x → tree_by v a x.path ≡ opened → IsMappedItem names (tree_of v a) x.path opened
  opens_in x opened among is = subst (IsMappedItem names (tree_of v a) x.path) (sym (at_item x among) ∙ is) (item_is x among)

-- ---- parts of the mapped tree

module _ (names : NameMap) (m u t : Tree) (is : MapsItems names m u) where
  pub held_from : IsPart u t → IsHeldIn names m t
  held_from part path named there =
      let here : u (mapped_path names path) ≡ m path = is.each path named there in
      let alike = part (mapped_path names path) (named_there names path named) (λ none. there (sym here ∙ none)) in
      (sym alike.0 ∙ here, subst IsWhole here alike.1)

  pub held_to : IsHeldIn names m t → IsPart u t
  held_to held path named there =
      let x = is.only path there in
      let below : x.from ≢ [] = named_from names x.from (λ e. named (sym x.comes ∙ e)) in
      let alike = held x.from below (λ none. there (sym x.is ∙ none)) in
      (sym x.is ∙ sym alike.0 ∙ ap t x.comes, subst IsWhole x.is alike.1)

  pub part_from : IsPart t u → IsPartOfMapped names t m
  part_from part path named there =
      let alike = part path named there in
      (subst (IsMappedItem names m path) (sym alike.0) (is.only path (λ none. there (alike.0 ∙ none))), alike.1)

  pub part_to : IsPartOfMapped names t m → IsPart t u
  part_to part path named there =
      let x = (part path named there).0 in
      let below : x.from ≢ [] = named_from names x.from (λ e. named (sym x.comes ∙ e)) in
      (sym x.is ∙ sym (is.each x.from below (λ none. there (sym x.is ∙ none))) ∙ ap u x.comes, (part path named there).1)

-- ---- items that would meet

pub none_meet : (v : View) (names : NameMap) (a : PlannedVault) → IsOrdered a.items → TellsTree v a (tree_of v a) → StaysApart names (tree_of v a) → (one other : plain.Path) → ¬ AreFirstToMeet names a.items one other
none_meet v names a ordered tells apart one other meet =
    let first : Contains a.items meet.earlier = subst (λ (xs : List Planned). Contains xs meet.earlier) (sym meet.parts) (Contains-append_left meet.front (meet.later ∷ meet.behind) meet.earlier meet.among) in
    let second : Contains a.items meet.later = subst (λ (xs : List Planned). Contains xs meet.later) (sym meet.parts) (Contains-append_right meet.front (meet.later ∷ meet.behind) meet.later (0, omega arith, refl)) in
    let same : meet.earlier.path ≡ meet.later.path = apart meet.earlier.path meet.later.path (tells.items meet.earlier first).1 (tells.items meet.later second).1 meet.meet in
    in_front meet.front (subst IsOrdered meet.parts ordered) meet.among same
  where
    in_front : (front : List Planned) → IsOrdered (front ++ meet.later ∷ meet.behind) → Contains front meet.earlier → meet.earlier.path ≢ meet.later.path
    in_front front up among =
        let d = meet.later in
        let few : among.0 < length front = among.1 in
        let here : get_or (front ++ meet.later ∷ meet.behind) among.0 d ≡ meet.earlier = get_or_append_left front (meet.later ∷ meet.behind) d among.0 few ∙ get_or_default front among.0 d meet.earlier few ∙ among.2 in
        let there : get_or (front ++ meet.later ∷ meet.behind) (length front) d ≡ meet.later = get_or-append_seam front meet.later meet.behind d in
        less_apart meet.earlier.path meet.later.path
        (subst₂ (λ (x y : Planned). path_cmp x.path y.path ≡ Less) here there
        (up among.0 (length front) d few (omega (arith, length-append front (meet.later ∷ meet.behind)))))
