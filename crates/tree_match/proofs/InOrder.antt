-- Lists in a strict order that have the same are the same; so by the rule that names stay, a mapped plan is the plan.
use Rattle.std.proofs.Common.{◌≡◌, ◌⊎◌, inl, inr, zero, suc, List, [], ◌∷◌, map, AllPairs, Contains, refl, sym, ap, ap₂, ◌∙◌, subst, arith}
use Rattle.std.specs.Cmp.{IsTotalOrder}
use Rattle.std.specs.Cmp.Lexicographic.{lists_total, nat_list_cmp_total}
use Rattle.std.specs.List.Sorted.{IsPermutation}
use Rattle.std.specs.declared.cmp.Ordering.TheVariants.{Equal, Less}
use Rattle.std.proofs.lemmas.Cmp.{tied_itself}
use Rattle.std.proofs.lemmas.List.Sorted.{Contains-permutation, IsPermutation-sym}
use Rattle.plain_tree.specs.Mapped.{mapped_path}
use Rattle.plain_tree.specs.Names as plain
use Rattle.plain_tree.specs.Order.{path_cmp}
use Rattle.plain_tree.specs.declared.name_map.NameMap.TheVariants.{Same}
use Rattle.tree_match.specs.Mapping.{IsMappedPlan, mapped_item}
use Rattle.vault_spec.specs.Plan.{Planned}
use Rattle.vault_walk.specs.Survey.{IsOrdered}

pub first_or_among : {X : Type 0} (y : X) (ys : List X) (x : X) → Contains (y ∷ ys) x → (y ≡ x) ⊎ Contains ys x
first_or_among y ys x (zero, few, is) = inl is
first_or_among y ys x (suc k, few, is) = inr (k, omega (arith, few), is)

module _ {X : Type 0} (R : X → X → Type 0) (apart : (x y : X) → R x y → R y x → ⊥) where
  -- the first comes before the others
  head_first : (x : X) (xs : List X) → AllPairs R (x ∷ xs) → (y : X) → Contains xs y → R x y
  head_first x xs ordered y among = subst (R x) among.2 (ordered 0 (suc among.0) y (omega arith) (omega (arith, among.1)))

  tail_ordered : (x : X) (xs : List X) → AllPairs R (x ∷ xs) → AllPairs R xs
  tail_ordered x xs ordered i j d before few = ordered (suc i) (suc j) d (omega (arith, before)) (omega (arith, few))

  later : (x : X) (xs : List X) (y : X) → Contains xs y → Contains (x ∷ xs) y
  later x xs y among = (suc among.0, omega (arith, among.1), among.2)

  not_itself : (x y : X) → x ≡ y → R x y → ⊥
  not_itself x y same before = let itself : R y y = subst (λ z. R z y) same before in apart y y itself itself

  pub same_lists : (xs ys : List X) → AllPairs R xs → AllPairs R ys → ((x : X) → Contains xs x → Contains ys x) → ((x : X) → Contains ys x → Contains xs x) → xs ≡ ys
  same_lists [] [] one other there back = refl
  same_lists [] (y ∷ ys) one other there back = absurd (omega (arith, (back y (zero, omega arith, refl)).1))
  same_lists (x ∷ xs) [] one other there back = absurd (omega (arith, (there x (zero, omega arith, refl)).1))
  same_lists (x ∷ xs) (y ∷ ys) one other there back =
      subst (λ (z : X). x ∷ xs ≡ z ∷ ys) first (ap (λ (zs : List X). x ∷ zs) (same_lists xs ys (tail_ordered x xs one) (tail_ordered y ys other) within behind))
    where
      first : x ≡ y
      first = elim (first_or_among y ys x (there x (zero, omega arith, refl))) [
        | inl same ↦ sym same
        | inr x_later ↦ elim (first_or_among x xs y (back y (zero, omega arith, refl))) [
          | inl same ↦ same
          | inr y_later ↦ absurd (apart x y (head_first x xs one y y_later) (head_first y ys other x x_later))
        ]
      ]

      within : (z : X) → Contains xs z → Contains ys z
      within z among = elim (first_or_among y ys z (there z (later x xs z among))) [
        | inl same ↦ absurd (not_itself x z (first ∙ same) (head_first x xs one z among))
        | inr behind_y ↦ behind_y
      ]

      behind : (z : X) → Contains ys z → Contains xs z
      behind z among = elim (first_or_among x xs z (back z (later y ys z among))) [
        | inl same ↦ absurd (not_itself y z (sym first ∙ same) (head_first y ys other z among))
        | inr behind_x ↦ behind_x
      ]

-- ---- paths, and the items of a plan

paths_total : IsTotalOrder path_cmp
paths_total = lists_total nat_list_cmp_total

pub not_twice : (p q : plain.Path) → path_cmp p q ≡ Less → path_cmp q p ≡ Less → ⊥
not_twice p q one other =
    let before : path_cmp p p ≡ Less = paths_total.trans p q p one other in
    let clash : Equal ≡ Less = sym (tied_itself paths_total p) ∙ before in
    cc clash

abbrev at_path : Planned → plain.Path → Planned
at_path item path = record { path = path; node = item.node; at = item.at }

unmapped : ((path : plain.Path) → mapped_path Same path ≡ path) → (items : List Planned) → map (mapped_item Same) items ≡ items
unmapped stays [] = refl
unmapped stays (item ∷ items) = ap₂ (λ (x : Planned) (xs : List Planned). x ∷ xs) (ap (at_path item) (stays item.path)) (unmapped stays items)

pub plan_stays : ((path : plain.Path) → mapped_path Same path ≡ path) → (items mapped : List Planned) → IsOrdered items → IsMappedPlan Same items mapped → mapped ≡ items
plan_stays stays items mapped ordered is =
    let moved : IsPermutation items mapped = subst (λ (xs : List Planned). IsPermutation xs mapped) (unmapped stays items) is.same in
    sym (same_lists (λ (x y : Planned). path_cmp x.path y.path ≡ Less) (λ x y. not_twice x.path y.path) items mapped ordered is.ordered
    (λ x. Contains-permutation items mapped x moved) (λ x. Contains-permutation mapped items x (IsPermutation-sym items mapped moved)))
