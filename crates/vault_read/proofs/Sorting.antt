-- Pairs of a list. What is sorted is in order, where no two are alike.
use Rattle.std.proofs.Common.{◌≡◌, ◌≢◌, ◌⊎◌, inl, inr, ℕ, ◌<◌, ◌+◌, ◌++◌, List, false, map, length, length-append, get_or, refl, sym, ap, ◌∙◌, subst, subst₂, arith}
use Rattle.std.proofs.lemmas.List.{get_or_append_left, get_or-map, length-map}
use Rattle.std.specs.Prelude.{AllPairs}
use Rattle.std.specs.List.{swap}
use Rattle.std.specs.List.Sorted.{IsPermutation, IsSortedBy}
use Rattle.std.specs.Cmp.{IsTotalOrder}
use Rattle.std.specs.Ordering.{is_eq, is_lt, ordering_reverse}
use Rattle.std.specs.declared.cmp.Ordering.{Ordering}
use Rattle.std.specs.declared.cmp.Ordering.TheVariants.{Less, Equal, Greater}
use Rattle.std.proofs.lemmas.Bool.{cases_eq, cases_order}
use Rattle.std.proofs.lemmas.List.Edits.{Swapped, length-swap, swapped_from_swap}
use Rattle.std.proofs.lemmas.List.Sorted.{IsPermutation-keeps, ranks_by, sorted_far}

-- pairs of a front are pairs of the whole
pub front_pairs : {X : Type 0} (R : X → X → Type 0) (xs ys : List X) → AllPairs R (xs ++ ys) → AllPairs R xs
front_pairs R xs ys all i j d less within =
    let later : i < length xs = omega arith in
    let sizes : length (xs ++ ys) ≡ length xs + length ys = length-append xs ys in
    subst (λ x. R x (get_or xs j d)) (get_or_append_left xs ys d i later)
    (subst (λ y. R (get_or (xs ++ ys) i d) y) (get_or_append_left xs ys d j within) (all i j d less (omega (arith, sizes))))

-- and those of what is made of a list's elements are pairs of these
pub pairs_from_mapped : {A B : Type 0} (R : B → B → Type 0) (f : A → B) (xs : List A) → AllPairs R (map f xs) → AllPairs (λ x y. R (f x) (f y)) xs
pairs_from_mapped R f xs pairs i j d below less =
    let size : length (map f xs) ≡ length xs = length-map xs f in
    let both : i < j = below in
    let end : j < length xs = less in
    subst₂ R (get_or-map f xs i d (f d) (omega (arith, both, end))) (get_or-map f xs j d (f d) end) (pairs i j (f d) both (omega (arith, size, end)))

-- where an element stood before two changed places
abbrev Origin : ℕ → ℕ → ℕ → ℕ → Type 0
Origin a b i k = ((i ≡ a) × (k ≡ b)) ⊎ (((i ≡ b) × (k ≡ a)) ⊎ ((i ≢ a) × (i ≢ b) × (k ≡ i)))

differ : (a b i j k l : ℕ) → Origin a b i k → Origin a b j l → i ≢ j → k ≢ l
differ a b i j k l (inl x) (inl y) other e = other (x.0 ∙ sym y.0)
differ a b i j k l (inl x) (inr (inl y)) other e = other (x.0 ∙ sym y.1 ∙ sym e ∙ x.1 ∙ sym y.0)
differ a b i j k l (inl x) (inr (inr y)) other e = y.1 (sym y.2 ∙ sym e ∙ x.1)
differ a b i j k l (inr (inl x)) (inl y) other e = other (x.0 ∙ sym y.1 ∙ sym e ∙ x.1 ∙ sym y.0)
differ a b i j k l (inr (inl x)) (inr (inl y)) other e = other (x.0 ∙ sym y.0)
differ a b i j k l (inr (inl x)) (inr (inr y)) other e = y.0 (sym y.2 ∙ sym e ∙ x.1)
differ a b i j k l (inr (inr x)) (inl y) other e = x.1 (sym x.2 ∙ e ∙ y.1)
differ a b i j k l (inr (inr x)) (inr (inl y)) other e = x.0 (sym x.2 ∙ e ∙ y.1)
differ a b i j k l (inr (inr x)) (inr (inr y)) other e = other (sym x.2 ∙ e ∙ y.2)

-- elements in the order of their keys
pub by_key : {X K : Type 0} (R : K → K → Ordering) → IsTotalOrder R → (key : X → K) → IsTotalOrder (λ (x y : X). R (key x) (key y))
by_key R total key = record {
  antisymm = λ x y. total.antisymm (key x) (key y);
  trans = λ x y z one two. total.trans (key x) (key y) (key z) one two;
  congr = λ x y z e. total.congr (key x) (key y) (key z) e;
}

-- R orders the elements, and D says that two are not alike.
module _ {X : Type 0} (R : X → X → Ordering) (D : X → X → Type 0) (flip : (x y : X) → D x y → D y x) where
  abbrev AreApart : List X → Type 0
  AreApart xs = (i j : ℕ) (d : X) → i < length xs → j < length xs → i ≢ j → D (get_or xs i d) (get_or xs j d)

  apart_from_pairs : (xs : List X) → AllPairs D xs → AreApart xs
  apart_from_pairs xs apart i j d a b other = elim (cases_order i j) as (λ _. D (get_or xs i d) (get_or xs j d)) [
    | inl e ↦ absurd (other e)
    | inr (inl less) ↦ apart i j d less b
    | inr (inr more) ↦ flip (get_or xs j d) (get_or xs i d) (apart j i d more a)
  ]

  origin : (xs : List X) (a b : ℕ) → a < length xs → b < length xs → (i : ℕ) (d : X) → i < length xs
      → (k : ℕ) × (k < length xs) × (get_or (swap xs a b) i d ≡ get_or xs k d) × Origin a b i k
  origin xs a b p q i d within = by_places (cases_eq i a) (cases_eq i b)
    where
      moved : Swapped (λ m. get_or xs m d) (λ m. get_or (swap xs a b) m d) a b
      moved = swapped_from_swap xs (swap xs a b) a b d p q refl

      by_places : (i ≡ a) ⊎ (i ≢ a) → (i ≡ b) ⊎ (i ≢ b) → (k : ℕ) × (k < length xs) × (get_or (swap xs a b) i d ≡ get_or xs k d) × Origin a b i k
      by_places (inl e) other = (b, q, ap (λ m. get_or (swap xs a b) m d) e ∙ moved.0, inl (e, refl))
      by_places (inr n) (inl e) = (a, p, ap (λ m. get_or (swap xs a b) m d) e ∙ moved.1, inr (inl (e, refl)))
      by_places (inr n) (inr m) = (i, within, moved.2 i n m, inr (inr (n, m, refl)))

  apart-swap : (xs : List X) (a b : ℕ) → a < length xs → b < length xs → AreApart xs → AreApart (swap xs a b)
  apart-swap xs a b p q own i j d within within' other =
      let sizes : length (swap xs a b) ≡ length xs = length-swap xs a b in
      let from_i = origin xs a b p q i d (omega (arith, sizes)) in
      let from_j = origin xs a b p q j d (omega (arith, sizes)) in
      let there : D (get_or xs from_i.0 d) (get_or xs from_j.0 d) = own from_i.0 from_j.0 d from_i.1 from_j.1 (differ a b i j from_i.0 from_j.0 from_i.3 from_j.3 other) in
      subst (λ x. D x (get_or (swap xs a b) j d)) (sym from_i.2) (subst (λ y. D (get_or xs from_i.0 d) y) (sym from_j.2) there)

  less_by : (o r : Ordering) → o ≡ ordering_reverse r → is_lt r ≡ false → is_eq o ≡ false → o ≡ Less
  less_by Less r e not_less not_equal = refl
  less_by Equal r e not_less not_equal = cc
  less_by Greater Less e not_less not_equal = cc
  less_by Greater Equal e not_less not_equal = cc
  less_by Greater Greater e not_less not_equal = cc

  -- after a sort each is before all later ones
  pub sorted_apart : IsTotalOrder R → ((x y : X) → D x y → is_eq (R x y) ≡ false) → (xs ys : List X) → IsPermutation xs ys
      → IsSortedBy (λ x y. is_lt (R x y)) ys → AllPairs D xs → AllPairs (λ (x y : X). R x y ≡ Less) ys
  sorted_apart total unlike xs ys same up apart i j d less within =
      let own : AreApart ys = IsPermutation-keeps xs AreApart (apart_from_pairs xs apart) (λ l a b p q o. apart-swap l a b p q o) ys same in
      let one = get_or ys i d in
      let other = get_or ys j d in
      less_by (R one other) (R other one) (total.antisymm one other)
      (sorted_far (λ (x y : X). is_lt (R x y)) (ranks_by total (λ (x : X). x)) ys up i j d (omega arith) within)
      (unlike one other (own i j d (omega arith) within (not_equal less)))
    where
      not_equal : i < j → i ≢ j
      not_equal l e = omega (arith, l, e)
