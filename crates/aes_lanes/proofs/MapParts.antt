-- A function done to more elements of a list.
use Rattle.std.proofs.Common.{◌≡◌, ℕ, ◌+◌, ◌-◌, ◌≤◌, List, ◌++◌, map, take, drop, length, sym, ap, ap₂, ◌∙◌, arith, append_assoc}
use Rattle.std.proofs.Math.Seq.{take-add, take-append_seam, drop-append_seam, drop-append-add}
use Rattle.std.proofs.lemmas.List.{append-nil, drop_all, drop-drop, length-map, length-take-le, map-append, take-append-drop, take_all, take_rest}

module _ (f : List ℕ → List ℕ) (old before : List (List ℕ)) (n : ℕ) where
  abbrev front : List (List ℕ)
  front = map f (take n old)

  abbrev rest : List (List ℕ)
  rest = drop n old

  taken : n ≤ length old → before ≡ front ++ rest → take n before ≡ front
  taken few done =
      let long : length front ≡ n = length-map (take n old) f ∙ length-take-le n old few in
      ap (take n) done ∙ ap (λ m. take m (front ++ rest)) (sym long) ∙ take-append_seam front rest

  dropped : n ≤ length old → before ≡ front ++ rest → drop n before ≡ rest
  dropped few done =
      let long : length front ≡ n = length-map (take n old) f ∙ length-take-le n old few in
      ap (drop n) done ∙ ap (λ m. drop m (front ++ rest)) (sym long) ∙ drop-append_seam front rest

  -- done to m elements from place n on
  pub map_over_part : (after : List (List ℕ)) (m : ℕ) → n + m ≤ length old → before ≡ front ++ rest
      → after ≡ take n before ++ (map f (take m (drop n before)) ++ drop (n + m) before)
      → after ≡ map f (take (n + m) old) ++ drop (n + m) old
  map_over_part after m within done step =
      let few : n ≤ length old = omega arith in
      let long : length front ≡ n = length-map (take n old) f ∙ length-take-le n old few in
      let last : drop (n + m) before ≡ drop (n + m) old =
      ap (drop (n + m)) done ∙ ap (λ k. drop (k + m) (front ++ rest)) (sym long) ∙ drop-append-add front rest m ∙ drop-drop m n old in
      step
      ∙ ap₂ (λ xs ys. xs ++ (map f (take m ys) ++ drop (n + m) before)) (taken few done) (dropped few done)
      ∙ ap (λ ys. front ++ (map f (take m rest) ++ ys)) last
      ∙ sym (append_assoc front (map f (take m rest)) (drop (n + m) old))
      ∙ ap (λ ys. ys ++ drop (n + m) old) (sym (ap (map f) (take-add n m old) ∙ map-append f (take n old) (take m rest)))

  -- done to what is left from place n on, as a slice from there gives it
  pub map_over_rest : (new : List (List ℕ)) (m : ℕ) → m ≡ n → n ≤ length old → before ≡ front ++ rest
      → new ≡ map f (take (length before - m) (drop m before)) → take m before ++ new ≡ map f old
  map_over_rest new m e few done is =
      ap₂ (λ k xs. take k before ++ xs) e (is ∙ ap (λ k. map f (take (length before - k) (drop k before))) e ∙ ap (map f) (take_rest before n))
      ∙ ap₂ (λ xs ys. xs ++ map f ys) (taken few done) (dropped few done)
      ∙ sym (map-append f (take n old) rest) ∙ ap (map f) (take-append-drop n old)

-- done to all
pub map_over_all : (f : List ℕ → List ℕ) (old : List (List ℕ)) (n : ℕ) → length old ≤ n → map f (take n old) ++ drop n old ≡ map f old
map_over_all f old n all =
    ap₂ (λ xs ys. map f xs ++ ys) (take_all n old all) (drop_all n old all) ∙ append-nil (map f old)

-- done to some elements and to others behind them
pub map_over_padded : (f : List ℕ → List ℕ) (old copied padding mapped result : List (List ℕ)) (n : ℕ)
    → result ≡ take n mapped → copied ≡ old → mapped ≡ map f (copied ++ padding) → n ≡ length old → result ≡ map f old
map_over_padded f old copied padding mapped result n is same all e =
    let long : n ≡ length (map f old) = e ∙ sym (length-map old f) in
    is ∙ ap (take n) (all ∙ ap (λ l. map f (l ++ padding)) same ∙ map-append f old padding)
    ∙ ap (λ m. take m (map f old ++ map f padding)) long ∙ take-append_seam (map f old) (map f padding)
