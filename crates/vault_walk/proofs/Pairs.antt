-- Pairs of a list that is put together of two.
use Rattle.std.proofs.Common.{◌≡◌, ◌⊎◌, ◌<◌, ◌++◌, ◌∷◌, [], zero, suc, List, inl, inr, sym, subst, append-nil, append_assoc, length, length-append, get_or, ◌+◌, arith}
use Rattle.std.specs.Prelude.{AllPairs, Contains}
use Rattle.std.proofs.lemmas.List.{get_or_append_left}
use Rattle.std.proofs.lemmas.List.Elements.{Contains-append_left, Contains-append_right, Contains-get_or, Contains-push, Contains-push_cases}
use Rattle.std.proofs.lemmas.List.Quantifiers.{all_pairs_push}

module _ {X : Type 0} (R : X → X → Type 0) where
  pub tail_pairs : (y : X) (ys : List X) → AllPairs R (y ∷ ys) → AllPairs R ys
  tail_pairs y ys all i j d less within =
      let before : i < j = less in
      let last : j < length ys = within in
      all (suc i) (suc j) d (omega (arith, before)) (omega (arith, last))

  pub head_pairs : (y : X) (ys : List X) → AllPairs R (y ∷ ys) → (z : X) → Contains ys z → R y z
  head_pairs y ys all z there =
      let last : there.0 < length ys = there.1 in
      subst (R y) there.2 (all zero (suc there.0) z (omega arith) (omega (arith, last)))

  pub pairs_of_both : (xs ys : List X) → AllPairs R xs → AllPairs R ys → ((x y : X) → Contains xs x → Contains ys y → R x y) → AllPairs R (xs ++ ys)
  pairs_of_both xs [] one two across = subst (AllPairs R) (sym (append-nil xs)) one
  pairs_of_both xs (y ∷ ys) one two across =
      subst (AllPairs R) (append_assoc xs (y ∷ []) ys)
      (pairs_of_both (xs ++ y ∷ []) ys
      (all_pairs_push R xs y one (λ k d within. across (get_or xs k d) y (Contains-get_or xs k d within) (Contains-append_left (y ∷ []) ys y (Contains-push [] y))))
      (tail_pairs y ys two)
      (λ x z there later. by_place x z later (Contains-push_cases xs y x there)))
    where
      by_place : (x z : X) → Contains ys z → Contains xs x ⊎ (y ≡ x) → R x z
      by_place x z later (inl there) = across x z there (Contains-append_right (y ∷ []) ys z later)
      by_place x z later (inr same) = subst (λ w. R w z) same (head_pairs y ys two z later)

  -- pairs of a front are pairs of the whole
  pub pairs_of_front : (xs ys : List X) → AllPairs R (xs ++ ys) → AllPairs R xs
  pairs_of_front xs ys all i j d less within =
      let later : i < length xs = omega arith in
      let sizes : length (xs ++ ys) ≡ length xs + length ys = length-append xs ys in
      subst (λ x. R x (get_or xs j d)) (get_or_append_left xs ys d i later)
      (subst (λ y. R (get_or (xs ++ ys) i d) y) (get_or_append_left xs ys d j within) (all i j d less (omega (arith, sizes))))
