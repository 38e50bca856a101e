-- Items with paths of their own, sorted by these.
use Rattle.std.proofs.Common.{◌≡◌, ◌≢◌, List, Bool, true, false, refl, subst, sym}
use Rattle.std.specs.Prelude.{map, AllPairs}
use Rattle.std.specs.Cmp.{IsStrictWeakOrder}
use Rattle.std.specs.Cmp.Lexicographic.{lists_total, nat_list_cmp_total}
use Rattle.std.specs.List.Sorted.{IsPermutation, IsSortedBy}
use Rattle.std.specs.Ordering.{is_eq, is_lt}
use Rattle.std.specs.declared.cmp.Ordering.TheVariants.{Less}
use Rattle.std.proofs.lemmas.List.Sorted.{ranks_by}
use Rattle.folder_spec.specs.Path.{Path}
use Rattle.plain_tree.specs.Order.{path_cmp}
use Rattle.vault_read.proofs.Sorting.{by_key, sorted_apart}
use Rattle.vault_spec.proofs.Mapped.{all_pairs_mapped}
use Rattle.vault_spec.specs.Plan.{Planned}
use Rattle.vault_walk.specs.Survey.{IsOrdered}
use Rattle.vault_walk.specs.Surveyed.{placed}
use Rattle.vault_walk.proofs.NodeOrders.{one_path}

-- one item is before another by its path
abbrev pub before : Planned → Planned → Bool
before x y = is_lt (path_cmp x.path y.path)

pub before_orders : IsStrictWeakOrder before
before_orders = ranks_by (lists_total nat_list_cmp_total) (λ (x : Planned). x.path)

unlike : (x y : Planned) → x.path ≢ y.path → is_eq (path_cmp x.path y.path) ≡ false
unlike x y other = by_test (is_eq (path_cmp x.path y.path)) refl
  where
    by_test : (b : Bool) → is_eq (path_cmp x.path y.path) ≡ b → b ≡ false
    by_test true same = absurd (other (one_path x.path y.path same))
    by_test false same = refl

-- after a sort each is before all later ones
pub sorted_by_paths : (xs ys : List Planned) → IsPermutation xs ys → IsSortedBy before ys → AllPairs (λ (x y : Planned). x.path ≢ y.path) xs
    → AllPairs (λ (x y : Planned). path_cmp x.path y.path ≡ Less) ys
sorted_by_paths = sorted_apart (λ (x y : Planned). path_cmp x.path y.path) (λ (x y : Planned). x.path ≢ y.path) (λ x y other same. other (sym same))
    (by_key path_cmp (lists_total nat_list_cmp_total) (λ (x : Planned). x.path)) unlike

-- and so they are behind a vault's root
pub placed_in_order : (root : Path) (plan items : List Planned) → items ≡ map (placed root) plan → IsOrdered plan → IsOrdered items
placed_in_order root plan items are ordered = subst IsOrdered (sym are) (all_pairs_mapped (λ (x y : Planned). path_cmp x.path y.path ≡ Less) (placed root) plan ordered)
