-- What a search finds among items in order.
use Rattle.std.proofs.Common.{◌≡◌, ◌<◌, ℕ, zero, suc, ◌+◌, take, List, [], ◌∷◌, ◌++◌, length, Bool, true, false, not, if◌then◌else◌, Some, is_some, cond, length-append, get_or, Result, Ok, Err, refl, sym, ap, ◌∙◌, inl, inr, arith, is_ok, Contains}
use Rattle.std.specs.List.{filter}
use Rattle.std.specs.Cmp.Lexicographic.{pointwise_decides, bytes_decides}
use Rattle.std.specs.Cmp.{IsTotalOrder}
use Rattle.std.specs.Cmp.Lexicographic.{lists_total, nat_list_cmp_total}
use Rattle.std.specs.List.Sorted.{IsBinarySearchResult, IsSearchInRange, IsSortedBy}
use Rattle.std.specs.Ordering.{is_eq, is_lt, ordering_reverse}
use Rattle.std.specs.declared.cmp.Ordering.TheVariants.{Less, Equal, Greater}
use Rattle.std.proofs.lemmas.Bool.{cases_order}
use Rattle.std.proofs.lemmas.Cmp.{tied_itself}
use Rattle.std.proofs.lemmas.List.{get_or_default, take_more}
use Rattle.std.proofs.lemmas.List.Elements.{filter-append}
use Rattle.std.proofs.lemmas.List.Sorted.{searchable_from_sorted}
use Rattle.plain_tree.specs.Names as plain
use Rattle.plain_tree.specs.Order.{path_cmp, path_eq}
use Rattle.tree_match.specs.Matching.{item_with}
use Rattle.vault_spec.specs.Plan.{Planned}
use Rattle.vault_walk.proofs.NodeOrders.{one_path}
use Rattle.vault_walk.specs.Survey.{IsOrdered}
use Rattle.migrate_core.specs.Moved.{is_there, lacking}
use Rattle.migrate_core.specs.Sides.{StandsIn}

pub paths_total : IsTotalOrder path_cmp
paths_total = lists_total nat_list_cmp_total

are_sorted : (items : List Planned) → IsOrdered items → IsSortedBy (λ (x y : Planned). is_lt (path_cmp x.path y.path)) items
are_sorted items ordered k d from_start inside =
    ap is_lt (paths_total.antisymm (get_or items (k + 1) d).path (get_or items k d).path ∙ ap ordering_reverse (ordered k (k + 1) d (omega arith) inside))

-- an item's path is found where one of these has it
pub found_in : (item : Planned) (there : List Planned) (result : Result ℕ ℕ) → IsOrdered there → StandsIn item there
    → IsBinarySearchResult (λ (other : Planned). path_cmp other.path item.path) there result → is_ok result ≡ true
found_in item there (Ok k) ordered stands h = refl
found_in item there (Err i) ordered stands h =
    let other = stands.0 in
    let k = stands.1.0 in
    let inside = stands.1.1 in
    let rises = searchable_from_sorted paths_total (λ (x : Planned). x.path) there item.path (are_sorted there ordered) in
    let parted = h rises in
    let equal : path_cmp (get_or there k other).path item.path ≡ Equal
    = ap (λ (x : Planned). path_cmp x.path item.path) stands.1.2 ∙ ap (λ p. path_cmp p item.path) stands.2 ∙ tied_itself paths_total item.path in
    elim (cases_order k i) [
      | inl same ↦ greater (sym (parted.1 k other (omega (arith, same)) inside) ∙ equal)
      | inr (inl before) ↦ less (sym (parted.0 k other (omega arith) before) ∙ equal)
      | inr (inr after) ↦ greater (sym (parted.1 k other (omega (arith, after)) inside) ∙ equal)
    ]
  where
    less : Less ≡ Equal → false ≡ true
    less e = cc e

    greater : Greater ≡ Equal → false ≡ true
    greater e = cc e

-- whether an item is there says whether one has its path
pub there_by : (path : plain.Path) (there : List Planned) → is_some (item_with path there) ≡ true → (other : Planned) × Contains there other × (other.path ≡ path)
there_by path [] is = cc is
there_by path (z ∷ zs) is = by (path_eq z.path path) refl is (there_by path zs)
  where
    by : (b : Bool) → path_eq z.path path ≡ b → is_some (if b then Some z else item_with path zs) ≡ true → (is_some (item_with path zs) ≡ true → (other : Planned) × Contains zs other × (other.path ≡ path))
        → (other : Planned) × Contains (z ∷ zs) other × (other.path ≡ path)
    by true same is behind = (z, (0, omega arith, refl), (pointwise_decides bytes_decides z.path path).0 same)
    by false same is behind = let later = behind is in (later.0, (suc later.1.0, omega (arith, later.1.1), later.1.2), later.2)

there_is : (path : plain.Path) (there : List Planned) (other : Planned) → Contains there other → other.path ≡ path → is_some (item_with path there) ≡ true
there_is path [] other (k, lt, at) same = absurd (omega (arith, lt))
there_is path (z ∷ zs) other (zero, lt, at) same = ap (λ b. is_some (if b then Some z else item_with path zs)) ((pointwise_decides bytes_decides z.path path).1 (ap (λ (x : Planned). x.path) at ∙ same))
there_is path (z ∷ zs) other (suc k, lt, at) same = by (path_eq z.path path) (there_is path zs other (k, omega (arith, lt), at) same)
  where
    by : (b : Bool) → is_some (item_with path zs) ≡ true → is_some (if b then Some z else item_with path zs) ≡ true
    by true later = refl
    by false later = later

pub there_where : (item : Planned) (there : List Planned) → StandsIn item there → is_there there item ≡ true
there_where item there stands = there_is item.path there stands.0 stands.1 stands.2

-- and so does the search
pub found_is : (item : Planned) (there : List Planned) (result : Result ℕ ℕ) → IsOrdered there → IsSearchInRange result (length there)
    → IsBinarySearchResult (λ (other : Planned). path_cmp other.path item.path) there result → is_ok result ≡ is_there there item
found_is item there result ordered inside h = by (is_there there item) refl result inside h
  where
    by : (b : Bool) → is_there there item ≡ b → (result : Result ℕ ℕ) → IsSearchInRange result (length there) → IsBinarySearchResult (λ (other : Planned). path_cmp other.path item.path) there result → is_ok result ≡ is_there there item
    by true e result inside h = found_in item there result ordered (there_by item.path there e) h ∙ sym e
    by false e (Err i) inside h = sym e
    by false e (Ok k) inside h =
        let x : Planned = get_or there k item in
        let same : x.path ≡ item.path = one_path x.path item.path (ap is_eq (h item)) in
        (let never = sym e ∙ there_is item.path there x (k, inside, get_or_default there k x item inside) same in cc never)

-- one item more
pub lacking_more : (there xs : List Planned) (x : Planned) → lacking there (xs ++ x ∷ []) ≡ lacking there xs + (if is_there there x then 0 else 1)
lacking_more there xs x =
    ap length (filter-append (λ (item : Planned). not (is_there there item)) xs (x ∷ []))
    ∙ length-append (filter (λ (item : Planned). not (is_there there item)) xs) (filter (λ (item : Planned). not (is_there there item)) (x ∷ []))
    ∙ ap (λ n. lacking there xs + n) (one (is_there there x))
  where
    one : (b : Bool) → length (cond (not b) (x ∷ []) []) ≡ (if b then 0 else 1)
    one true = refl
    one false = refl

-- a count goes on by whether an item was placed
pub counted_on : (there xs : List Planned) (k : ℕ) (x : Planned) (count next : ℕ) (placed : Bool) → k < length xs → x ≡ get_or xs k x → count ≡ lacking there (take k xs) → placed ≡ not (is_there there x)
    → next ≡ (if placed then count + 1 else count) → next ≡ lacking there (take (k + 1) xs)
counted_on there xs k x count next placed inside at counted was is =
    is ∙ by placed (is_there there x) was ∙ ap (λ n. n + (if is_there there x then 0 else 1)) counted
    ∙ sym (lacking_more there (take k xs) x) ∙ ap (λ (z : Planned). lacking there (take k xs ++ z ∷ [])) at ∙ ap (lacking there) (sym (take_more xs k x inside))
  where
    by : (placed there : Bool) → placed ≡ not there → (if placed then count + 1 else count) ≡ count + (if there then 0 else 1)
    by true false e = refl
    by false true e = omega arith
    by true true e = cc e
    by false false e = cc e
