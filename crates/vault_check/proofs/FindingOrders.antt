-- The order of findings: by path, and at one path by number.
use Rattle.std.proofs.Common.{◌≡◌, List, false, refl, sym}
use Rattle.std.proofs.lemmas.Cmp.{nat_cmp_total, then_total}
use Rattle.std.proofs.lemmas.List.Sorted.{ranks_by}
use Rattle.std.specs.Cmp.{IsStrictWeakOrder, IsTotalOrder}
use Rattle.std.specs.Cmp.Lexicographic.{lists_total, nat_list_cmp_total}
use Rattle.std.specs.List.Sorted.{IsPermutation, IsSortedBy}
use Rattle.std.specs.Ordering.{is_eq, is_lt, nat_cmp}
use Rattle.std.specs.declared.cmp.Ordering.{Ordering}
use Rattle.std.specs.declared.cmp.Ordering.TheVariants.{Less, Equal, Greater}
use Rattle.folder_model.specs.Order.{path_cmp}
use Rattle.vault_walk.specs.declared.fault.Finding.{Finding}
use Rattle.vault_check.specs.Orders.{finding_cmp, AreDifferent, AreInOrder}
use Rattle.vault_read.proofs.Sorting.{by_key, sorted_apart}
use Rattle.vault_walk.proofs.NodeOrders.{both_equal, exact_paths}
use Rattle.vault_walk.proofs.Numbers.{number_same}

finding_total : IsTotalOrder finding_cmp
finding_total =
    then_total {R = λ (x y : Finding). path_cmp x.at y.at} {S = λ (x y : Finding). nat_cmp x.number y.number}
    (by_key path_cmp (lists_total nat_list_cmp_total) (λ (x : Finding). x.at)) (by_key nat_cmp nat_cmp_total (λ (x : Finding). x.number))

pub finding_weak : IsStrictWeakOrder (λ (x y : Finding). is_lt (finding_cmp x y))
finding_weak = ranks_by finding_total (λ (x : Finding). x)

unlike : (x y : Finding) → (x.at ≡ y.at → x.number ≡ y.number → ⊥) → is_eq (finding_cmp x y) ≡ false
unlike x y apart = by_order (finding_cmp x y) refl
  where
    by_order : (o : Ordering) → finding_cmp x y ≡ o → is_eq o ≡ false
    by_order Less e = refl
    by_order Greater e = refl
    by_order Equal e =
        let both = both_equal (path_cmp x.at y.at) (nat_cmp x.number y.number) e in
        absurd (apart (exact_paths x.at y.at both.0) (number_same x.number y.number both.1))

pub sorted_findings : (xs ys : List Finding) → IsPermutation xs ys → IsSortedBy (λ (x y : Finding). is_lt (finding_cmp x y)) ys → AreDifferent xs → AreInOrder ys
sorted_findings xs ys same up different =
    sorted_apart finding_cmp (λ (x y : Finding). x.at ≡ y.at → x.number ≡ y.number → ⊥) (λ x y apart at number. apart (sym at) (sym number))
    finding_total unlike xs ys same up different
