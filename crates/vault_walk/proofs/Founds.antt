-- Findings of one path and one number are one.
use Rattle.std.proofs.Common.{◌≡◌, ◌&&◌, Bool, true, false, ℕ, refl, ap, ◌∙◌, nat_eq, arith}
use Rattle.std.proofs.lemmas.Bool.Decides.{nat_tests}
use Rattle.folder_spec.specs.Path.{Path, path_eq}
use Rattle.folder_spec.proofs.Paths.{path_eq-Decides}
use Rattle.vault_walk.specs.declared.found.Found.{Found}

found_at : Path → ℕ → Found
found_at at number = record { at = at; number = number }

pub one_found : (x y : Found) → (path_eq x.at y.at && nat_eq x.number y.number) ≡ true → x ≡ y
unfolding found_at
one_found x y is = by_tests (path_eq x.at y.at) refl (nat_eq x.number y.number) refl is
  where
    by_tests : (a : Bool) → path_eq x.at y.at ≡ a → (b : Bool) → nat_eq x.number y.number ≡ b → (a && b) ≡ true → x ≡ y
    by_tests true paths true numbers both =
        let at : x.at ≡ y.at = (path_eq-Decides x.at y.at).0 paths in
        let number : x.number ≡ y.number = grind (arith, nat_tests) in
        ap (λ p. found_at p x.number) at ∙ ap (found_at y.at) number
    by_tests true paths false numbers both = cc
    by_tests false paths b numbers both = cc
