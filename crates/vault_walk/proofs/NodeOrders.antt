-- The orders of folder paths and of nodes tell them apart.
use Rattle.std.proofs.Common.{◌≡◌, true, List, [], ◌∷◌, ℕ, refl, ap, ◌∙◌}
use Rattle.std.proofs.lemmas.Cmp.{tied_itself}
use Rattle.std.proofs.lemmas.Map.Lookups.{CmpEqualImpliesEq, exact_bytes}
use Rattle.std.specs.Cmp.Lexicographic.{nat_list_cmp_total, slice_cmp}
use Rattle.std.specs.Ordering.{is_eq, ordering_then}
use Rattle.std.specs.declared.cmp.Ordering.{Ordering}
use Rattle.std.specs.declared.cmp.Ordering.TheVariants.{Less, Equal, Greater}
use Rattle.folder_model.specs.Order.{part_cmp, path_cmp}
use Rattle.folder_spec.specs.Path.{Path}
use Rattle.plain_tree.specs.Order.{name_cmp}
use Rattle.vault_spec.specs.Format.{Directory}
use Rattle.vault_walk.specs.Nodes.{node_cmp, node_of}

pub both_equal : (a b : Ordering) → ordering_then a b ≡ Equal → (a ≡ Equal) × (b ≡ Equal)
both_equal Less b e = cc
both_equal Equal b e = (refl, e)
both_equal Greater b e = cc

exact_lists : {X : Type 0} (R : X → X → Ordering) → CmpEqualImpliesEq R → CmpEqualImpliesEq (slice_cmp R)
exact_lists R exact [] [] e = refl
exact_lists R exact [] (y ∷ ys) e = cc
exact_lists R exact (x ∷ xs) [] e = cc
exact_lists R exact (x ∷ xs) (y ∷ ys) e =
    let both = both_equal (R x y) (slice_cmp R xs ys) e in ap (λ z. z ∷ xs) (exact x y both.0) ∙ ap (λ zs. y ∷ zs) (exact_lists R exact xs ys both.1)

pub exact_paths : CmpEqualImpliesEq path_cmp
exact_paths = exact_lists part_cmp exact_bytes

pub path_tied : (p : Path) → path_cmp p p ≡ Equal
path_tied [] = refl
path_tied (part ∷ rest) = ap (λ o. ordering_then o (path_cmp rest rest)) (tied_itself nat_list_cmp_total part) ∙ path_tied rest

equal_is : (o : Ordering) → is_eq o ≡ true → o ≡ Equal
equal_is Less e = cc
equal_is Equal e = refl
equal_is Greater e = cc

pub one_path : (p q : Path) → is_eq (path_cmp p q) ≡ true → p ≡ q
one_path p q e = exact_paths p q (equal_is (path_cmp p q) e)

dir_at : Path → List ℕ → Directory
dir_at folder key = record { folder = folder; key = key }

-- nodes that compare as equal are of one directory
pub one_node : (dir other : Directory) → is_eq (node_cmp (node_of dir) (node_of other)) ≡ true → dir ≡ other
unfolding dir_at
one_node dir other e =
    let both = both_equal (path_cmp dir.folder other.folder) (name_cmp dir.key other.key) (equal_is (node_cmp (node_of dir) (node_of other)) e) in
    ap (λ p. dir_at p dir.key) (exact_paths dir.folder other.folder both.0) ∙ ap (dir_at other.folder) (exact_bytes dir.key other.key both.1)

pub node_tied : (dir : Directory) → is_eq (node_cmp (node_of dir) (node_of dir)) ≡ true
node_tied dir = ap (λ o. is_eq (ordering_then o (name_cmp dir.key dir.key))) (path_tied dir.folder) ∙ ap is_eq (tied_itself nat_list_cmp_total dir.key)
