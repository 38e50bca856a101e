-- Items at their mapped paths, and those from which they come.
use Rattle.std.proofs.Common.{◌≡◌, ◌≢◌, ℕ, List, [], ◌∷◌, ◌++◌, length, map, refl, sym, ap, ◌∙◌, Contains}
use Rattle.std.proofs.lemmas.List.{length-map}
use Rattle.std.proofs.lemmas.List.Sorted.{Contains-permutation, IsPermutation-sym, length_permutation}
use Rattle.vault_spec.specs.PlanOf.{IsPlanOf}
use Rattle.vault_spec.specs.Mapped.{IsMappedItem, StaysApart}
use Rattle.plain_tree.specs.Mapped.{mapped_name, mapped_path}
use Rattle.plain_tree.specs.Names as plain
use Rattle.plain_tree.specs.declared.name_map.NameMap.{NameMap}
use Rattle.tree_match.specs.Mapping.{IsMappedPlan, mapped_item}
use Rattle.vault_spec.proofs.Mapped.{contains_mapped, mapped_from}
use Rattle.vault_spec.specs.Opens.{NoItem, Opened, Tree}
use Rattle.vault_spec.specs.Plan.{Planned}

-- the item that comes to a mapped path, as it was
pub own_item : (rule : NameMap) (items mapped : List Planned) (item : Planned) → IsMappedPlan rule items mapped → Contains mapped item → (own : Planned) × Contains items own × (mapped_item rule own ≡ item)
own_item rule items mapped item are among =
    let f = mapped_item rule in
    mapped_from f items item (Contains-permutation mapped (map f items) item (IsPermutation-sym (map f items) mapped are.same) among)

-- and each item comes to one
pub mapped_among : (rule : NameMap) (items mapped : List Planned) (own : Planned) → IsMappedPlan rule items mapped → Contains items own → Contains mapped (mapped_item rule own)
mapped_among rule items mapped own are among =
    let f = mapped_item rule in
    Contains-permutation (map f items) mapped (f own) are.same (contains_mapped f items own among)

-- there are as many
pub mapped_count : (rule : NameMap) (items mapped : List Planned) → IsMappedPlan rule items mapped → length items ≡ length mapped
mapped_count rule items mapped are = sym (length-map items (mapped_item rule)) ∙ sym (length_permutation (map (mapped_item rule) items) mapped are.same)

-- these are the items of a tree at their mapped paths, no two at one
pub record TellsMapped (rule : NameMap) (m : Tree) (items : List Planned) : Type 0 where
  pub own : List Planned
  pub plan : IsPlanOf m own
  pub mapped : IsMappedPlan rule own items
  pub apart : StaysApart rule m

-- the item comes from here
pub record ComesFrom (rule : NameMap) (m : Tree) (item : Planned) : Type 0 where
  pub path : plain.Path
  pub named : path ≢ []
  pub comes : mapped_path rule path ≡ item.path
  pub opens : m path ≢ NoItem

pub comes_from : (rule : NameMap) (m : Tree) (items : List Planned) (item : Planned) → TellsMapped rule m items → Contains items item → ComesFrom rule m item
comes_from rule m items item tells among =
    let own = own_item rule tells.own items item tells.mapped among in
    let is = (tells.plan.items.items own.0.path).0 (contains_mapped (λ (x : Planned). x.path) tells.own own.0 own.1) in
    record { path = own.0.path; named = is.0; comes = ap (λ (x : Planned). x.path) own.2; opens = is.1 }

-- what opens at a path comes to the mapped one
pub item_at : (rule : NameMap) (m : Tree) (items : List Planned) (path : plain.Path) → TellsMapped rule m items → path ≢ [] → m path ≢ NoItem → (x : Planned) × Contains items x × (x.path ≡ mapped_path rule path)
item_at rule m items path tells named there =
    let own = mapped_from (λ (x : Planned). x.path) tells.own path ((tells.plan.items.items path).1 (named, there)) in
    (mapped_item rule own.0, mapped_among rule tells.own items own.0 tells.mapped own.1, ap (mapped_path rule) own.2)

-- what is so at the mapped path opens so at the path itself
pub opens_from : (rule : NameMap) (m : Tree) (path : plain.Path) (opened : Opened) → StaysApart rule m → m path ≢ NoItem → opened ≢ NoItem → IsMappedItem rule m (mapped_path rule path) opened → m path ≡ opened
opens_from rule m path opened apart there some x = ap m (apart path x.from there (λ none. some (sym x.is ∙ none)) (sym x.comes)) ∙ x.is

-- ---- the names of a mapped path

-- a path that comes to the one of a name behind a front is that of a name behind a front, which come to these
pub record MappedParts (rule : NameMap) (path front : plain.Path) (name : List ℕ) : Type 0 where
  pub own : plain.Path
  pub last : List ℕ
  pub is : path ≡ own ++ last ∷ []
  pub maps : mapped_path rule own ≡ front
  pub names : mapped_name rule last ≡ name

parts_behind : (rule : NameMap) (n a name : List ℕ) (rest front : plain.Path) → mapped_name rule n ≡ a → MappedParts rule rest front name → MappedParts rule (n ∷ rest) (a ∷ front) name
parts_behind rule n a name rest front first more = record {
  own = n ∷ more.own;
  last = more.last;
  is = ap (λ (q : plain.Path). n ∷ q) more.is;
  maps = ap (λ (b : List ℕ). b ∷ mapped_path rule more.own) first ∙ ap (λ (q : plain.Path). a ∷ q) more.maps;
  names = more.names;
}

pub mapped_parts : (rule : NameMap) (path front : plain.Path) (name : List ℕ) → mapped_path rule path ≡ front ++ name ∷ [] → MappedParts rule path front name
mapped_parts rule [] [] name e = cc e
mapped_parts rule [] (a ∷ front) name e = cc e
mapped_parts rule (n ∷ []) [] name e = record { own = []; last = n; is = refl; maps = refl; names = cc e }
mapped_parts rule (n ∷ m ∷ rest) [] name e = cc e
mapped_parts rule (n ∷ rest) (a ∷ front) name e = parts_behind rule n a name rest front (cc e) (mapped_parts rule rest front name (cc e))

-- it has as many names
pub mapped_size : (rule : NameMap) (own front : plain.Path) → mapped_path rule own ≡ front → length own ≡ length front
mapped_size rule own front maps = sym (length-map own (mapped_name rule)) ∙ ap (λ (q : plain.Path). length q) maps
