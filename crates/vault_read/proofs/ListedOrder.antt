-- Items with names of their own, sorted by these.
use Rattle.std.proofs.Common.{◌≡◌, ◌≢◌, List, Bool, true, false, refl, sym, ◌∙◌}
use Rattle.std.specs.Prelude.{AllPairs}
use Rattle.std.specs.Str.{bytes_eq}
use Rattle.std.specs.Cmp.{IsStrictWeakOrder}
use Rattle.std.specs.List.Sorted.{IsPermutation, IsSortedBy}
use Rattle.std.specs.Ordering.{is_eq, is_lt}
use Rattle.std.specs.declared.cmp.Ordering.TheVariants.{Less}
use Rattle.std.proofs.lemmas.Cmp.{nat_list_cmp_total}
use Rattle.std.proofs.lemmas.List.Sorted.{ranks_by}
use Rattle.std.proofs.lemmas.Map.Text.{is_eq-slice_cmp}
use Rattle.std.proofs.lemmas.Slice.Eq.{bytes_eq-Decides}
use Rattle.folder_spec.specs.declared.FolderFault.{FolderFault}
use Rattle.folder_spec.specs.declared.FolderFault.TheVariants as folder
use Rattle.plain_tree.specs.Order.{name_cmp}
use Rattle.vault_faults.specs.Finding.{of_folder}
use Rattle.vault_read.specs.Contents.{IsOfPath}
use Rattle.vault_read.specs.declared.listing.Found.{Found}
use Rattle.vault_read.proofs.Sorting.{by_key, sorted_apart}

-- one item is before another by its name
abbrev pub before : Found → Found → Bool
before x y = is_lt (name_cmp x.item.name y.item.name)

pub before_orders : IsStrictWeakOrder before
before_orders = ranks_by nat_list_cmp_total (λ (x : Found). x.item.name)

unlike : (x y : Found) → x.item.name ≢ y.item.name → is_eq (name_cmp x.item.name y.item.name) ≡ false
unlike x y other = is_eq-slice_cmp x.item.name y.item.name ∙ by_test (bytes_eq x.item.name y.item.name) (bytes_eq-Decides x.item.name y.item.name).0
  where
    by_test : (b : Bool) → (b ≡ true → x.item.name ≡ y.item.name) → b ≡ false
    by_test true tells = absurd (other (tells refl))
    by_test false tells = refl

-- after a sort each is before all later ones
pub sorted_by_names : (xs ys : List Found) → IsPermutation xs ys → IsSortedBy before ys → AllPairs (λ (x y : Found). x.item.name ≢ y.item.name) xs
    → AllPairs (λ (x y : Found). name_cmp x.item.name y.item.name ≡ Less) ys
sorted_by_names = sorted_apart (λ (x y : Found). name_cmp x.item.name y.item.name) (λ (x y : Found). x.item.name ≢ y.item.name) (λ x y other same. other (sym same))
    (by_key name_cmp nat_list_cmp_total (λ (x : Found). x.item.name)) unlike

-- a folder that fails names no path
pub not_of_path : (fault : FolderFault) → ¬ IsOfPath (of_folder fault)
not_of_path folder.Failed of = of
not_of_path folder.Refused of = of
not_of_path folder.NoMemory of = of
