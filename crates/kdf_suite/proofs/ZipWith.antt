-- Two lists combined in place, an element at a time.
use Rattle.std.proofs.Common.{◌≡◌, ℕ, zero, suc, ◌+◌, ◌<◌, ◌≤◌, List, [], ◌∷◌, ◌++◌, length, take, drop, set, get_or, refl, ap, ◌∙◌, add-one, arith}
use Rattle.std.proofs.lemmas.List.{append-nil, drop_all, take_all}
use Rattle.std.specs.Simd.Lanes.{zip2}

module _ (f : ℕ → ℕ → ℕ) where
  -- the first list with the first i elements of the second combined into it
  abbrev pub zipped_below : List ℕ → List ℕ → ℕ → List ℕ
  zipped_below xs ys i = zip2 f (take i xs) (take i ys) ++ drop i xs

  -- the next element is still the first list's
  get_or-zipped_below : (xs ys : List ℕ) (i : ℕ) → i < length xs → i < length ys → get_or (zipped_below xs ys i) i 0 ≡ get_or xs i 0
  get_or-zipped_below (x ∷ xs) (y ∷ ys) zero a b = refl
  get_or-zipped_below (x ∷ xs) (y ∷ ys) (suc i) a b = get_or-zipped_below xs ys i (omega arith) (omega arith)
  get_or-zipped_below [] ys i a b = absurd (omega arith)
  get_or-zipped_below (x ∷ xs) [] i a b = absurd (omega arith)

  -- the next element of the second list is combined into it
  set-zipped_below : (xs ys : List ℕ) (i : ℕ) → i < length xs → i < length ys → set (zipped_below xs ys i) i (f (get_or xs i 0) (get_or ys i 0)) ≡ zipped_below xs ys (suc i)
  set-zipped_below (x ∷ xs) (y ∷ ys) zero a b = refl
  set-zipped_below (x ∷ xs) (y ∷ ys) (suc i) a b = ap (λ zs. f x y ∷ zs) (set-zipped_below xs ys i (omega arith) (omega arith))
  set-zipped_below [] ys i a b = absurd (omega arith)
  set-zipped_below (x ∷ xs) [] i a b = absurd (omega arith)

  -- one more element is combined in place
  pub zipped_below-more : (xs ys zs : List ℕ) (i : ℕ) → i < length xs → i < length ys → zs ≡ zipped_below xs ys i → set zs i (f (get_or zs i 0) (get_or ys i 0)) ≡ zipped_below xs ys (i + 1)
  zipped_below-more xs ys zs i a b below =
      rw (add-one, below, get_or-zipped_below xs ys i a b) (set-zipped_below xs ys i a b)

  -- all elements are combined
  pub zipped_below-all : (xs ys zs : List ℕ) (i : ℕ) → length xs ≤ i → length ys ≤ i → zs ≡ zipped_below xs ys i → zs ≡ zip2 f xs ys
  zipped_below-all xs ys zs i a b below =
      below ∙ rw (take_all i xs a, take_all i ys b, drop_all i xs a, append-nil)
