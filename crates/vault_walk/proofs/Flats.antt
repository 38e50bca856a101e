-- What a flattened list contains.
use Rattle.std.proofs.Common.{◌≡◌, ◌⊎◌, inl, inr, ◌∷◌, [], List, sym, subst, arith}
use Rattle.std.specs.List.{flat_map}
use Rattle.std.specs.Prelude.{Contains}
use Rattle.std.proofs.lemmas.List.Elements.{Contains-append_left, Contains-append_right, Contains-append_cases, Contains-push, Contains-push_cases}

pub none_within : {X : Type 0} (x : X) → ¬ Contains [] x
none_within x there = omega (arith, there.1)

pub only_one : {X : Type 0} (x y : X) → Contains (x ∷ []) y → x ≡ y
only_one x y there = by_place (Contains-push_cases [] x y there)
  where
    by_place : Contains [] y ⊎ (x ≡ y) → x ≡ y
    by_place (inl none) = absurd (none_within y none)
    by_place (inr same) = same

module _ {X Y : Type 0} (f : X → List Y) where
  pub flat_on : (xs : List X) (y : Y) → Contains (flat_map f xs) y → (x : X) × Contains xs x × Contains (f x) y
  flat_on [] y there = absurd (none_within y there)
  flat_on (x ∷ xs) y there = by_place (flat_on xs y) (Contains-append_cases (f x) (flat_map f xs) y there)
    where
      by_place : (Contains (flat_map f xs) y → (z : X) × Contains xs z × Contains (f z) y) → Contains (f x) y ⊎ Contains (flat_map f xs) y → (z : X) × Contains (x ∷ xs) z × Contains (f z) y
      by_place on (inl here) = (x, Contains-append_left (x ∷ []) xs x (Contains-push [] x), here)
      by_place on (inr later) = let found = on later in (found.0, Contains-append_right (x ∷ []) xs found.0 found.1, found.2)

  pub flat_back : (xs : List X) (x : X) (y : Y) → Contains xs x → Contains (f x) y → Contains (flat_map f xs) y
  flat_back [] x y there within = absurd (none_within x there)
  flat_back (z ∷ xs) x y there within = by_place (flat_back xs x y) (Contains-append_cases (z ∷ []) xs x there)
    where
      by_place : (Contains xs x → Contains (f x) y → Contains (flat_map f xs) y) → Contains (z ∷ []) x ⊎ Contains xs x → Contains (flat_map f (z ∷ xs)) y
      by_place back (inl here) = Contains-append_left (f z) (flat_map f xs) y (subst (λ w. Contains (f w) y) (sym (only_one z x here)) within)
      by_place back (inr later) = Contains-append_right (f z) (flat_map f xs) y (back later within)
