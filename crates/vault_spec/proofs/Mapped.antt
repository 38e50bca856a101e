-- A list of what is made of each element of another, and pairs of two lists.
use Rattle.std.proofs.Common.{◌≡◌, ◌⊎◌, inl, inr, zero, suc, ◌<◌, List, [], ◌∷◌, ◌++◌, map, length, refl, sym, ap, ◌∙◌, subst, subst₂, arith, Contains, AllPairs, get_or, append-nil, append_assoc}
use Rattle.std.proofs.lemmas.List.{get_or-map, length-map}
use Rattle.std.proofs.lemmas.List.Elements.{Contains-get_or, Contains-push_cases}
use Rattle.std.proofs.lemmas.List.Quantifiers.{all_pairs_push}

pub contains_mapped : {A B : Type 0} (g : A → B) (xs : List A) (x : A) → Contains xs x → Contains (map g xs) (g x)
contains_mapped g xs x h =
    let less : h.0 < length xs = h.1 in
    let size : length (map g xs) ≡ length xs = length-map xs g in
    (h.0, omega (arith, less, size), get_or-map g xs h.0 x (g x) less ∙ ap g h.2)

pub mapped_from : {A B : Type 0} (g : A → B) (xs : List A) (y : B) → Contains (map g xs) y → (x : A) × Contains xs x × (g x ≡ y)
mapped_from g [] y h = let none : h.0 < 0 = h.1 in absurd (omega (arith, none))
mapped_from g (x ∷ xs) y (zero, less, is) = (x, (0, omega arith, refl), is)
mapped_from {A = A} g (x ∷ xs) y (suc k, less, is) =
    let more : (z : A) × Contains xs z × (g z ≡ y) = mapped_from g xs y (k, omega (arith, less), is) in
    let found : more.1.0 < length xs = more.1.1 in
    (more.0, (suc more.1.0, omega (arith, found), more.1.2), more.2)

pub all_pairs_mapped : {A B : Type 0} (R : B → B → Type 0) (g : A → B) (xs : List A) → AllPairs (λ x y. R (g x) (g y)) xs → AllPairs R (map g xs)
all_pairs_mapped R g [] pairs i j d below less = let none : j < 0 = less in absurd (omega (arith, none))
all_pairs_mapped R g (x ∷ xs) pairs i j d below less =
    let size : length (map g (x ∷ xs)) ≡ length (x ∷ xs) = length-map (x ∷ xs) g in
    let in_xs : j < length (x ∷ xs) = omega (arith, less, size) in
    subst₂ R (sym (get_or-map g (x ∷ xs) i x d (omega (arith, below, in_xs)))) (sym (get_or-map g (x ∷ xs) j x d in_xs)) (pairs i j x below in_xs)

-- pairs of the rest of a list
pairs_rest : {X : Type 0} (R : X → X → Type 0) (y : X) (ys : List X) → AllPairs R (y ∷ ys) → AllPairs R ys
pairs_rest R y ys pairs i j d below less =
    let both : i < j = below in
    let end : j < length ys = less in
    pairs (suc i) (suc j) d (omega (arith, both)) (omega (arith, end))

-- each of the first list goes with each of the second
pub pairs_append : {X : Type 0} (R : X → X → Type 0) (xs ys : List X) → AllPairs R xs → AllPairs R ys → ((x y : X) → Contains xs x → Contains ys y → R x y) → AllPairs R (xs ++ ys)
pairs_append R xs [] first second cross = subst (AllPairs R) (sym (append-nil xs)) first
pairs_append {X} R xs (y ∷ ys) first second cross =
    subst (AllPairs R) (append_assoc xs (y ∷ []) ys)
    (pairs_append R (xs ++ y ∷ []) ys
    (all_pairs_push R xs y first (λ k d less. cross (get_or xs k d) y (Contains-get_or xs k d less) here))
    (pairs_rest R y ys second) later)
  where
    here : Contains (y ∷ ys) y
    here = (0, omega arith, refl)

    later : (x z : X) → Contains (xs ++ y ∷ []) x → Contains ys z → R x z
    later x z one two = by_place (Contains-push_cases xs y x one)
      where
        by_place : Contains xs x ⊎ (y ≡ x) → R x z
        by_place (inl old) = cross x z old (further two)
          where
            further : Contains ys z → Contains (y ∷ ys) z
            further found = let less : found.0 < length ys = found.1 in (suc found.0, omega (arith, less), found.2)
        by_place (inr same) =
            let less : two.0 < length ys = two.1 in
            subst₂ R (same) (two.2) (second 0 (suc two.0) z (omega arith) (omega (arith, less)))
