-- A sorted list of which each element is kept once.
use Rattle.std.proofs.Common.{◌≡◌, ◌↔◌, Bool, true, List, [], sym, subst, Contains}
use Rattle.std.proofs.lemmas.List.Filters.{dedup_is}
use Rattle.std.proofs.lemmas.List.Kept.{Contains-dedup, Contains-from_dedup, IsStrictlySortedBy-dedup}
use Rattle.std.proofs.lemmas.List.Sorted.{Contains-permutation, IsPermutation-sym}
use Rattle.std.specs.Cmp.{IsEquivalence, IsTotalOrder}
use Rattle.std.specs.List.{dedup}
use Rattle.std.specs.List.Retain.{DiffersFromLast, IsFiltered}
use Rattle.std.specs.List.Sorted.{IsPermutation, IsSorted, IsStrictlySortedBy}
use Rattle.std.specs.Ordering.{eq_by_cmp}
use Rattle.std.specs.declared.cmp.Ordering.{Ordering}

pub rising : {X : Type 0} {R : X → X → Ordering} (o : IsTotalOrder R) {E : X → X → Bool} (ties : (x y : X) → E x y ≡ eq_by_cmp R x y) → (sorted kept : List X) → IsSorted R sorted
    → IsFiltered (DiffersFromLast E) [] sorted kept → IsStrictlySortedBy R kept
rising {R = R} o {E = E} ties sorted kept up filtered = subst (IsStrictlySortedBy R) (sym (dedup_is E sorted kept filtered)) (IsStrictlySortedBy-dedup o ties sorted up)

pub same : {X : Type 0} {E : X → X → Bool} (e : IsEquivalence E) → ((x y : X) → E x y ≡ true → x ≡ y) → (items sorted kept : List X) → IsPermutation items sorted
    → IsFiltered (DiffersFromLast E) [] sorted kept → (x : X) → Contains kept x ↔ Contains items x
same {X} {E} e exact items sorted kept moved filtered x = (
  λ found. Contains-permutation sorted items x (IsPermutation-sym items sorted moved) (Contains-from_dedup E sorted x (subst (λ xs. Contains xs x) is found)),
  λ found. subst (λ xs. Contains xs x) (sym is) (Contains-dedup e exact sorted x (Contains-permutation items sorted x moved found)),
)
  where
    is : kept ≡ dedup E sorted
    is = dedup_is E sorted kept filtered
