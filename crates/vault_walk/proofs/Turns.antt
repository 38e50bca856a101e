-- A loop over the elements of a vector.
use Rattle.std.proofs.Common.{◌≡◌, ◌+◌, List, ◌∷◌, ◌++◌, Option, Some, None, sym, ap, ◌∙◌, length, take, drop}
use Rattle.std.proofs.lemmas.Iterator.{YieldsList}
use Rattle.std.proofs.lemmas.Iterator.Adapters.{YieldsList-from_vec}
use Rattle.std.proofs.lemmas.Iterator.Consumers.{YieldsList-so_far, YieldsList-turn, YieldsList-end}
use Rattle.std.proofs.lemmas.List.{drop_more, map-id, take-append-drop}
use Rattle.std.specs.Iterator.{Yields}
use Rattle.std.specs.Vec.Iter.{into_iter_items, into_iter_len, into_iter_steps}
use Rattle.std.specs.declared.vec.IntoIter.{IntoIter}

module _ {A Z : Type 0} (all : List A) (s : IntoIter A Z) (items : into_iter_items s ≡ all) (size : into_iter_len s ≡ length all) (xs : List A) (t : IntoIter A Z) (yielded : Yields (into_iter_steps {X = A} {Z = Z}) s xs t) (r : Option A) (u : IntoIter A Z) (steps : into_iter_steps t r u) where
  road : YieldsList (into_iter_steps {X = A} {Z = Z}) (λ y. y) s all
  road = YieldsList-from_vec all items size

  -- an element comes, and others after it
  pub vec_turn : (x : A) → r ≡ Some x → (rest : List A) × (all ≡ xs ++ x ∷ rest)
  vec_turn x is =
      let here = YieldsList-turn road xs t yielded r u x is steps in
      let so_far : xs ≡ take (length xs) all = sym (map-id xs) ∙ YieldsList-so_far road xs t yielded in (
        drop (length xs + 1) all,
        sym (take-append-drop (length xs) all) ∙ ap (λ ys. ys ++ drop (length xs) all) (sym so_far)
            ∙ ap (λ ys. xs ++ ys) (drop_more all (length xs) x here.0 ∙ ap (λ y. y ∷ drop (length xs + 1) all) (sym here.1)),
      )

  -- none is left
  pub vec_end : r ≡ None → xs ≡ all
  vec_end none = sym (map-id xs) ∙ (YieldsList-end road xs t yielded r u none steps).0
