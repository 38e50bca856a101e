-- A tree that has some items of the demonstration has as many and no others.
use Rattle.std.specs.Bool.{Decides}
use Rattle.std.specs.Cmp.{IsEquivalence, IsTotalOrder}
use Rattle.std.specs.Cmp.Lexicographic.{pointwise_decides, bytes_decides, lists_total, nat_list_cmp_total}
use Rattle.std.specs.List.{IsDistinct, range_with_len}
use Rattle.std.specs.Set.{is_member}
use Rattle.std.specs.declared.cmp.Ordering.TheVariants.{Equal, Less}
use Rattle.std.proofs.Common.{arith, ◌≡◌, ◌≢◌, ◌≤◌, ◌<◌, ◌⊎◌, ◌++◌, ◌∷◌, [], ◌+◌, ◌*◌, ◌%◌, nat_eq, ℕ, Bool, true, false, cond, List, length, map, get_or, Contains, inl, inr, refl, sym, ap, ◌∙◌, subst}
use Rattle.std.proofs.lemmas.Cmp.{tied_itself}
use Rattle.std.proofs.lemmas.List.FromFn.{get_or-map-range_with_len, get_or-range_with_len, length-map-range_with_len, length-range_with_len}
use Rattle.std.proofs.lemmas.Map.Made.{IsDistinct-from_AllPairs, is_member-Decides, length-le_from_is_member}
use Rattle.plain_tree.specs.Names.{Path}
use Rattle.plain_tree.specs.Order.{path_cmp, path_eq}
use Rattle.vault_spec.proofs.Mapped.{contains_mapped, mapped_from}
use Rattle.vault_spec.specs.Opens.{AreItems, Content, Directory, NoItem, Tree}
use Rattle.demo_core.specs.Demonstration.{byte_of, content_of, is_directory, path_of, size_of}
use Rattle.demo_core.specs.Tree.{HasItems, opens_as}
use Rattle.demo_core.proofs.Apart.{item_front, item_name, path_ends, paths_tell}

-- ---- paths are equal or not

pub decides : (p q : Path) → Decides (path_eq p q) (p ≡ q)
decides = pointwise_decides bytes_decides

both_true : (a b : Bool) → (a ≡ true → b ≡ true) → (b ≡ true → a ≡ true) → a ≡ b
both_true true true one other = refl
both_true false false one other = refl
both_true true false one other = sym (one refl)
both_true false true one other = other refl

equivalence : IsEquivalence path_eq
equivalence = record {
  refl = λ p. (decides p p).1 refl;
  symm = λ p q. both_true (path_eq p q) (path_eq q p) (λ e. (decides q p).1 (sym ((decides p q).0 e))) (λ e. (decides p q).1 (sym ((decides q p).0 e)));
  congr = λ p q r e. ap (λ x. path_eq x r) ((decides p q).0 e);
}

less_apart : (p q : Path) → path_cmp p q ≡ Less → p ≢ q
less_apart p q less same =
    let total : IsTotalOrder path_cmp = lists_total nat_list_cmp_total in
    let never : Equal ≡ Less = sym (tied_itself total q) ∙ ap (λ x. path_cmp x q) (sym same) ∙ less in cc never

is_in : (paths : List Path) (path : Path) → (Contains paths path) ⊎ ¬ Contains paths path
is_in paths path = by (is_member path_eq paths path) refl
  where
    by : (b : Bool) → is_member path_eq paths path ≡ b → (Contains paths path) ⊎ ¬ Contains paths path
    by true is = inl ((is_member-Decides decides paths path).0 is)
    by false is = inr (λ there. let both : true ≡ false = sym ((is_member-Decides decides paths path).1 there) ∙ is in cc both)

-- as many, where each path of the one list is in the other, and back
as_many : (xs ys : List Path) → IsDistinct path_eq xs → IsDistinct path_eq ys → ((p : Path) → Contains xs p → Contains ys p) → ((p : Path) → Contains ys p → Contains xs p) → length xs ≡ length ys
as_many xs ys one other into back =
    let few = length-le_from_is_member equivalence xs ys one (λ p among. (is_member-Decides decides ys p).1 (into p ((is_member-Decides decides xs p).0 among))) in
    let many = length-le_from_is_member equivalence ys xs other (λ p among. (is_member-Decides decides xs p).1 (back p ((is_member-Decides decides ys p).0 among))) in
    omega (arith, few, many)

-- ---- the paths of the first items

abbrev pub first_paths : ℕ → List Path
first_paths count = map path_of (range_with_len 0 count)

first_distinct : (count : ℕ) → count ≤ 10000 → IsDistinct path_eq (first_paths count)
first_distinct count few = IsDistinct-from_AllPairs decides (first_paths count) apart
  where
    apart : (i j : ℕ) (d : Path) → i < j → j < length (first_paths count) → get_or (first_paths count) i d ≢ get_or (first_paths count) j d
    apart i j d below less same =
        let within : j < count = omega (arith, less, length-map-range_with_len path_of 0 count) in
        let one : get_or (first_paths count) i d ≡ path_of i = get_or-map-range_with_len path_of 0 count i i d (omega (arith, below, within)) (omega arith) in
        let other : get_or (first_paths count) j d ≡ path_of j = get_or-map-range_with_len path_of 0 count j j d within (omega arith) in
        let never : i ≡ j = paths_tell i j (omega (arith, below, within, few)) (omega (arith, within, few)) (sym one ∙ same ∙ other) in
        omega (arith, never, below)

first_are : (count : ℕ) (path : Path) → Contains (first_paths count) path → (number : ℕ) × (number < count) × (path_of number ≡ path)
first_are count path there =
    let from = mapped_from path_of (range_with_len 0 count) path there in
    let less : from.1.0 < length (range_with_len 0 count) = from.1.1 in
    let within : from.1.0 < count = omega (arith, less, length-range_with_len 0 count) in
    let is : 0 + from.1.0 ≡ from.0 = sym (get_or-range_with_len 0 count from.1.0 from.0 within) ∙ from.1.2 in
    (from.0, omega (arith, within, is), from.2)

are_first : (count number : ℕ) → number < count → Contains (first_paths count) (path_of number)
are_first count number less =
    contains_mapped path_of (range_with_len 0 count) number
    (number, omega (arith, less, length-range_with_len 0 count), get_or-range_with_len 0 count number number less ∙ omega arith)

-- no more paths than items, where each is one of theirs
pub fewer : (paths : List Path) (count : ℕ) → IsDistinct path_eq paths → ((p : Path) → Contains paths p → Contains (first_paths count) p) → length paths ≤ count
fewer paths count distinct among =
    let few = length-le_from_is_member equivalence paths (first_paths count) distinct (λ p here. (is_member-Decides decides (first_paths count) p).1 (among p ((is_member-Decides decides paths p).0 here))) in
    omega (arith, few, length-map-range_with_len path_of 0 count)

pub some_of_first : (count : ℕ) (p : Path) → (number : ℕ) × (number < count) × (p ≡ path_of number) → Contains (first_paths count) p
some_of_first count p item = subst (Contains (first_paths count)) (sym item.2) (are_first count item.0 item.1)

-- ---- and all that opens

some_path : (number : ℕ) → path_of number ≢ []
some_path number none = ends (item_front (is_directory number) number) (sym (path_ends number) ∙ none)
  where
    ends : (front : Path) → front ++ item_name (is_directory number) number ∷ [] ≢ []
    ends [] e = cc e
    ends (a ∷ front) e = cc e

something : (seed number : ℕ) → opens_as seed number ≢ NoItem
something seed number = by (is_directory number)
  where
    by : (b : Bool) → cond b Directory (Content (content_of seed number)) ≢ NoItem
    by true e = cc e
    by false e = cc e

-- what opens below the root is one of the items
pub number_at : (seed count : ℕ) (t : Tree) → HasItems seed count t → (path : Path) → path ≢ [] → t path ≢ NoItem → (number : ℕ) × (number < count) × (path ≡ path_of number)
number_at seed count t has path some opens = elim (is_in (first_paths count) path) [
  | inl here ↦ let first = first_are count path here in (first.0, first.1, sym first.2)
  | inr none ↦ absurd (opens (has.others path some (λ number less is. none (subst (Contains (first_paths count)) (sym is) (are_first count number less)))))
]

pub so_many : (seed count : ℕ) (t : Tree) (paths : List Path) → count ≤ 10000 → HasItems seed count t → AreItems t paths → length paths ≡ count
so_many seed count t paths few has items =
    as_many paths (first_paths count) (IsDistinct-from_AllPairs decides paths (λ i j d before within. less_apart _ _ (items.ordered i j d before within))) (first_distinct count few) among back
    ∙ length-map-range_with_len path_of 0 count
  where
    among : (p : Path) → Contains paths p → Contains (first_paths count) p
    among p there =
        let opens = (items.items p).0 there in
        some_of_first count p (number_at seed count t has p opens.0 opens.1)

    back : (p : Path) → Contains (first_paths count) p → Contains paths p
    back p there =
        let first = first_are count p there in
        (items.items p).1 (
          subst (λ q. q ≢ []) first.2 (some_path first.0),
          subst (λ q. t q ≢ NoItem) first.2 (λ none. something seed first.0 (sym (has.each first.0 first.1) ∙ none)),
        )

-- ---- what opens

few_bytes : (seed number : ℕ) → size_of seed number ≤ 70000
few_bytes seed number = by (nat_eq (number % 50) 49) (nat_eq (number % 50) 24)
  where
    by : (large none : Bool) → cond large 70000 (cond none 0 (331 * (number % 40) + seed % 256)) ≤ 70000
    by true none = omega arith
    by false true = omega arith
    by false false = omega arith

pub opens_so : (seed count : ℕ) (t : Tree) → HasItems seed count t → (path : Path) → path ≢ [] → t path ≢ NoItem → (t path ≡ Directory) ⊎ ((content : List ℕ) × (t path ≡ Content content) × (length content ≤ 70000))
opens_so seed count t has path some opens =
    let item = number_at seed count t has path some opens in
    by item.0 (is_directory item.0) (ap t item.2 ∙ has.each item.0 item.1)
  where
    by : (number : ℕ) (b : Bool) → t path ≡ cond b Directory (Content (content_of seed number)) → (t path ≡ Directory) ⊎ ((content : List ℕ) × (t path ≡ Content content) × (length content ≤ 70000))
    by number true is = inl is
    by number false is = inr (content_of seed number, is, omega (arith, length-map-range_with_len (byte_of seed number) 0 (size_of seed number), few_bytes seed number))
