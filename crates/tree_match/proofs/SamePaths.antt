-- That lists of the same plain paths, each path once, are of one length; and so are plans of items at the same paths.
use Rattle.std.specs.Bool.{Decides}
use Rattle.std.specs.Cmp.{IsEquivalence, IsTotalOrder}
use Rattle.std.specs.Cmp.Lexicographic.{pointwise_decides, bytes_decides, lists_total, nat_list_cmp_total}
use Rattle.std.specs.List.{IsDistinct}
use Rattle.std.specs.declared.cmp.Ordering.TheVariants.{Equal, Less}
use Rattle.std.proofs.Common.{arith, ◌≡◌, ◌≢◌, ◌≤◌, Bool, true, false, List, length, map, Contains, refl, sym, ap, ◌∙◌, subst}
use Rattle.std.proofs.lemmas.Cmp.{tied_itself}
use Rattle.std.proofs.lemmas.List.{length-map}
use Rattle.std.proofs.lemmas.Map.Made.{IsDistinct-from_AllPairs, is_member-Decides, length-le_from_is_member}
use Rattle.plain_tree.specs.Names as plain
use Rattle.plain_tree.specs.Order.{path_cmp, path_eq}
use Rattle.vault_spec.proofs.Mapped.{all_pairs_mapped, contains_mapped, mapped_from}
use Rattle.vault_spec.specs.Plan.{Planned}
use Rattle.vault_walk.specs.Survey.{IsOrdered}

pub paths_decide : (p q : plain.Path) → Decides (path_eq p q) (p ≡ q)
paths_decide = pointwise_decides bytes_decides

both_true : (a b : Bool) → (a ≡ true → b ≡ true) → (b ≡ true → a ≡ true) → a ≡ b
both_true true true one other = refl
both_true false false one other = refl
both_true true false one other = sym (one refl)
both_true false true one other = other refl

pub paths_flip : (p q : plain.Path) → path_eq p q ≡ path_eq q p
paths_flip p q = both_true (path_eq p q) (path_eq q p) (λ e. (paths_decide q p).1 (sym ((paths_decide p q).0 e))) (λ e. (paths_decide p q).1 (sym ((paths_decide q p).0 e)))

equivalence : IsEquivalence path_eq
equivalence = record {
  refl = λ p. (paths_decide p p).1 refl;
  symm = paths_flip;
  congr = λ p q r e. ap (λ x. path_eq x r) ((paths_decide p q).0 e);
}

-- distinct paths that are all among others are no more than those
no_more : (xs ys : List plain.Path) → IsDistinct path_eq xs → ((p : plain.Path) → Contains xs p → Contains ys p) → length xs ≤ length ys
no_more xs ys distinct within =
    length-le_from_is_member equivalence xs ys distinct
    (λ p among. (is_member-Decides paths_decide ys p).1 (within p ((is_member-Decides paths_decide xs p).0 among)))

pub same_count : (xs ys : List plain.Path) → IsDistinct path_eq xs → IsDistinct path_eq ys
    → ((p : plain.Path) → Contains xs p → Contains ys p) → ((p : plain.Path) → Contains ys p → Contains xs p) → length xs ≡ length ys
same_count xs ys distinct distinct_ys within within_xs =
    let one : length xs ≤ length ys = no_more xs ys distinct within in
    let other : length ys ≤ length xs = no_more ys xs distinct_ys within_xs in
    omega (arith, one, other)

-- ---- plans

abbrev pub paths : List Planned → List plain.Path
paths items = map (λ (item : Planned). item.path) items

paths_total : IsTotalOrder path_cmp
paths_total = lists_total nat_list_cmp_total

pub less_apart : (p q : plain.Path) → path_cmp p q ≡ Less → p ≢ q
less_apart p q less same = let never : Equal ≡ Less = sym (tied_itself paths_total q) ∙ ap (λ x. path_cmp x q) (sym same) ∙ less in cc never

pub distinct_paths : (items : List Planned) → IsOrdered items → IsDistinct path_eq (paths items)
distinct_paths items ordered =
    IsDistinct-from_AllPairs paths_decide (paths items)
    (all_pairs_mapped (λ p q. p ≢ q) (λ (item : Planned). item.path) items (λ i j d before few. less_apart _ _ (ordered i j d before few)))

-- an item of the list has the path
abbrev pub HasPath : List Planned → plain.Path → Type 0
HasPath items path = (item : Planned) × Contains items item × (item.path ≡ path)

among_paths : (items : List Planned) (path : plain.Path) → HasPath items path → Contains (paths items) path
among_paths items path has = subst (Contains (paths items)) has.2 (contains_mapped (λ (item : Planned). item.path) items has.0 has.1)

has_path : (items : List Planned) (path : plain.Path) → Contains (paths items) path → HasPath items path
has_path items path among = mapped_from (λ (item : Planned). item.path) items path among

pub same_items : (xs ys : List Planned) → IsOrdered xs → IsOrdered ys
    → ((x : Planned) → Contains xs x → HasPath ys x.path) → ((y : Planned) → Contains ys y → HasPath xs y.path) → length xs ≡ length ys
same_items xs ys ordered ordered_ys within within_xs =
    let count : length (paths xs) ≡ length (paths ys) =
    same_count (paths xs) (paths ys) (distinct_paths xs ordered) (distinct_paths ys ordered_ys) (each xs ys within) (each ys xs within_xs) in
    omega (arith, count, length-map xs (λ (item : Planned). item.path), length-map ys (λ (item : Planned). item.path))
  where
    each : (these those : List Planned) → ((x : Planned) → Contains these x → HasPath those x.path) → (p : plain.Path) → Contains (paths these) p → Contains (paths those) p
    each these those all p among =
        let x = has_path these p among in
        among_paths those p (subst (HasPath those) x.2 (all x.0 x.1))
