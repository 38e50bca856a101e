-- The order of paths with a common prefix.
use Rattle.std.proofs.Common.{◌≡◌, List, [], ◌∷◌, ◌++◌, ℕ, refl, sym, ap, ◌∙◌, append-nil}
use Rattle.std.proofs.lemmas.Cmp.{tied_itself, nat_list_cmp_total}
use Rattle.std.specs.Ordering.{ordering_then}
use Rattle.std.specs.declared.cmp.Ordering.TheVariants.{Less}
use Rattle.plain_tree.specs.Names.{Path}
use Rattle.plain_tree.specs.Order.{path_cmp}

-- a common prefix decides nothing
pub after_prefix : (p q r : Path) → path_cmp (p ++ q) (p ++ r) ≡ path_cmp q r
after_prefix [] q r = refl
after_prefix (name ∷ p) q r =
    ap (λ o. ordering_then o (path_cmp (p ++ q) (p ++ r))) (tied_itself nat_list_cmp_total name) ∙ after_prefix p q r

pub prefix_first : (p : Path) (name : List ℕ) (rest : Path) → path_cmp p (p ++ name ∷ rest) ≡ Less
prefix_first p name rest =
    ap (λ s. path_cmp s (p ++ name ∷ rest)) (sym (append-nil p)) ∙ after_prefix p [] (name ∷ rest)
