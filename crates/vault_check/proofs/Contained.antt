-- What lists contain.
use Rattle.std.proofs.Common.{◌≡◌, ◌⊎◌, inl, inr, ℕ, zero, suc, ◌<◌, ◌+◌, List, [], ◌∷◌, ◌++◌, map, length, take, get_or, Option, Some, None, refl, sym, ap, ◌∙◌, subst, subst₂, arith, AllPairs, Contains, option_to_list}
use Rattle.std.proofs.lemmas.List.{get_or-map, length-map}
use Rattle.std.specs.List.{filter_map, cons_option}
use Rattle.std.proofs.Math.Seq.{take-suc}
use Rattle.std.proofs.lemmas.List.Elements.{filter_map-append, Contains-push_cases}

pub none_within : {X : Type 0} (x : X) → ¬ Contains [] x
none_within x there = omega (arith, there.1)

pub only_one : {X : Type 0} (x y : X) → Contains (x ∷ []) y → x ≡ y
only_one x y there = by_place (Contains-push_cases [] x y there)
  where
    by_place : Contains [] y ⊎ (x ≡ y) → x ≡ y
    by_place (inl none) = absurd (none_within y none)
    by_place (inr same) = same

pub further : {X : Type 0} (x : X) (xs : List X) (z : X) → Contains xs z → Contains (x ∷ xs) z
further x xs z found = (suc found.0, (let less : found.0 < length xs = found.1 in omega (arith, less)), found.2)

pub first_or_later : {X : Type 0} (x : X) (xs : List X) (z : X) → Contains (x ∷ xs) z → (x ≡ z) ⊎ Contains xs z
first_or_later x xs z (zero, less, is) = inl is
first_or_later x xs z (suc k, less, is) = inr (k, omega (arith, less), is)

-- a front of a list with one element more
pub front_more : {X : Type 0} (xs : List X) (i : ℕ) (x : X) → i < length xs → x ≡ get_or xs i x → take (i + 1) xs ≡ take i xs ++ x ∷ []
front_more xs i x less is =
    ap (λ n. take n xs) (let one : i + 1 ≡ suc i = omega arith in one) ∙ take-suc xs i x less ∙ ap (λ y. take i xs ++ y ∷ []) (sym is)

single : {Y : Type 0} (o : Option Y) → cons_option o [] ≡ option_to_list o
single None = refl
single (Some y) = refl

pub one_mapped : {X Y : Type 0} (h : X → Option Y) (xs : List X) (x : X) → filter_map h (xs ++ x ∷ []) ≡ filter_map h xs ++ option_to_list (h x)
one_mapped h xs x = filter_map-append h xs (x ∷ []) ∙ ap (λ ys. filter_map h xs ++ ys) (single (h x))

-- what is made of some of the elements
abbrev IsMadeOf : {X Y : Type 0} → (X → Option Y) → List X → Y → Type 0
IsMadeOf {X} h xs y = (x : X) × Contains xs x × (h x ≡ Some y)

made_later : {X Y : Type 0} (h : X → Option Y) (x : X) (xs : List X) (y : Y) → IsMadeOf h xs y → IsMadeOf h (x ∷ xs) y
made_later h x xs y more = (more.0, further x xs more.0 more.1, more.2)

made_by : {X Y : Type 0} (h : X → Option Y) (x : X) (xs : List X) (ys : List Y) (y : Y) (o : Option Y) → h x ≡ o → (Contains ys y → IsMadeOf h xs y) → Contains (cons_option o ys) y → IsMadeOf h (x ∷ xs) y
made_by h x xs ys y None e later found = made_later h x xs y (later found)
made_by h x xs ys y (Some first) e later found = elim (first_or_later first ys y found) as (λ _. IsMadeOf h (x ∷ xs) y) [
  | inl same ↦ (x, (0, omega arith, refl), e ∙ ap Some same)
  | inr more ↦ made_later h x xs y (later more)
]

pub filter_mapped_from : {X Y : Type 0} (h : X → Option Y) (xs : List X) (y : Y) → Contains (filter_map h xs) y → IsMadeOf h xs y
filter_mapped_from h [] y there = absurd (none_within y there)
filter_mapped_from h (x ∷ xs) y there = made_by h x xs (filter_map h xs) y (h x) refl (λ found. filter_mapped_from h xs y found) there

kept_first : {Y : Type 0} (o : Option Y) (ys : List Y) (y : Y) → o ≡ Some y → Contains (cons_option o ys) y
kept_first None ys y e = cc
kept_first (Some w) ys y e = (0, omega arith, let same : w ≡ y = cc in same)

kept_later : {Y : Type 0} (o : Option Y) (ys : List Y) (y : Y) → Contains ys y → Contains (cons_option o ys) y
kept_later None ys y found = found
kept_later (Some w) ys y found = further w ys y found

pub filter_mapped : {X Y : Type 0} (h : X → Option Y) (xs : List X) (x : X) (y : Y) → Contains xs x → h x ≡ Some y → Contains (filter_map h xs) y
filter_mapped h [] x y there is = absurd (none_within x there)
filter_mapped h (z ∷ xs) x y there is = elim (first_or_later z xs x there) as (λ _. Contains (filter_map h (z ∷ xs)) y) [
  | inl same ↦ kept_first (h z) (filter_map h xs) y (ap h same ∙ is)
  | inr later ↦ kept_later (h z) (filter_map h xs) y (filter_mapped h xs x y later is)
]

-- a list all of whose elements are of some f is that of a list
pub preimages : {A B : Type 0} (f : A → B) (ys : List B) → ((y : B) → Contains ys y → (x : A) × (f x ≡ y)) → (xs : List A) × (map f xs ≡ ys)
preimages f [] each = ([], refl)
preimages f (y ∷ ys) each =
    let first = each y (0, omega arith, refl) in
    let rest = preimages f ys (λ z found. each z (further y ys z found)) in
    (first.0 ∷ rest.0, ap (λ z. z ∷ map f rest.0) first.1 ∙ ap (λ zs. y ∷ zs) rest.1)

-- pairs of a list and of its rest
pub head_pairs : {X : Type 0} (R : X → X → Type 0) (x : X) (xs : List X) → AllPairs R (x ∷ xs) → (y : X) → Contains xs y → R x y
head_pairs R x xs pairs y found =
    let less : found.0 < length xs = found.1 in
    subst (R x) found.2 (pairs 0 (suc found.0) y (omega arith) (omega (arith, less)))

pub tail_pairs : {X : Type 0} (R : X → X → Type 0) (x : X) (xs : List X) → AllPairs R (x ∷ xs) → AllPairs R xs
tail_pairs R x xs pairs i j d below less =
    let both : i < j = below in
    let end : j < length xs = less in
    pairs (suc i) (suc j) d (omega (arith, both)) (omega (arith, end))

pub pairs_from_mapped : {A B : Type 0} (R : B → B → Type 0) (f : A → B) (xs : List A) → AllPairs R (map f xs) → AllPairs (λ x y. R (f x) (f y)) xs
pairs_from_mapped R f xs pairs i j d below less =
    let size : length (map f xs) ≡ length xs = length-map xs f in
    let both : i < j = below in
    let end : j < length xs = less in
    subst₂ R (get_or-map f xs i d (f d) (omega (arith, both, end))) (get_or-map f xs j d (f d) end) (pairs i j (f d) both (omega (arith, size, end)))
