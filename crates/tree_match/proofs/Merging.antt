-- Two ordered plans are gone through together.
use Rattle.std.proofs.Common.{◌≡◌, ◌≢◌, ℕ, suc, ◌+◌, ◌<◌, Bool, true, false, List, [], ◌∷◌, length, get_or, drop, if◌then◌else◌, Bor, Option, Some, None, is_some, option_copied, refl, sym, ap, ap₂, subst, ◌∙◌, add-one, arith, Contains}
use Rattle.std.proofs.Math.Seq.{drop-cons}
use Rattle.std.specs.Cmp.{IsTotalOrder, tied_itself}
use Rattle.std.specs.Cmp.Lexicographic.{pointwise_decides, bytes_decides, lists_total, nat_list_cmp_total}
use Rattle.std.specs.declared.cmp.Ordering.{Ordering}
use Rattle.std.specs.declared.cmp.Ordering.TheVariants.{Less, Equal, Greater}
use Rattle.plain_tree.specs.Names as plain
use Rattle.plain_tree.specs.Order.{path_cmp, path_eq}
use Rattle.vault_spec.specs.Plan.{Planned}
use Rattle.vault_walk.specs.Survey.{IsOrdered}
use Rattle.tree_match.specs.Matching.{item_with}
use Rattle.tree_match.specs.Pieces.{first_with, from_path}

order : IsTotalOrder path_cmp
order = lists_total nat_list_cmp_total

-- a path before another isn't equal to it
apart : (p q : plain.Path) → path_cmp p q ≡ Less → path_eq p q ≡ false
apart p q less = by (path_eq p q) refl
  where
    by : (b : Bool) → path_eq p q ≡ b → b ≡ false
    by false is = refl
    by true is =
        let same : p ≡ q = (pointwise_decides bytes_decides p q).0 is in
        let tied : path_cmp p q ≡ Equal = ap (path_cmp p) (sym same) ∙ tied_itself order p in
        cc

-- ---- in order

-- each path is past this one
abbrev pub ArePast : plain.Path → List Planned → Type 0
ArePast path [] = Unit {0}
ArePast path (x ∷ xs) = (path_cmp path x.path ≡ Less) × ArePast path xs

abbrev pub Rise : List Planned → Type 0
Rise [] = Unit {0}
Rise (x ∷ xs) = ArePast x.path xs × Rise xs

past_from : (path : plain.Path) (xs : List Planned) → ((k : ℕ) (d : Planned) → k < length xs → path_cmp path (get_or xs k d).path ≡ Less) → ArePast path xs
past_from path [] each = tt
past_from path (x ∷ xs) each = (each 0 x (omega arith), past_from path xs (λ k d few. each (suc k) d (omega arith)))

pub rise : (xs : List Planned) → IsOrdered xs → Rise xs
rise [] o = tt
rise (x ∷ xs) o = (past_from x.path xs (λ k d few. o 0 (suc k) d (omega arith) (omega arith)), rise xs (λ i j d before few. o (suc i) (suc j) d (omega arith) (omega arith)))

-- ---- the front of a plan

pub from_path_less : (path : plain.Path) (z : Planned) (zs : List Planned) → path_cmp z.path path ≡ Less → from_path path (z ∷ zs) ≡ from_path path zs
unfolding from_path
from_path_less path z zs less = rw less refl

tied_stays : (path : plain.Path) (z : Planned) (zs : List Planned) → path_cmp z.path path ≡ Equal → from_path path (z ∷ zs) ≡ z ∷ zs
unfolding from_path
tied_stays path z zs is = rw is refl

later_stays : (path : plain.Path) (z : Planned) (zs : List Planned) → path_cmp z.path path ≡ Greater → from_path path (z ∷ zs) ≡ z ∷ zs
unfolding from_path
later_stays path z zs is = rw is refl

pub from_path_stays : (path : plain.Path) (z : Planned) (zs : List Planned) → path_cmp z.path path ≢ Less → from_path path (z ∷ zs) ≡ z ∷ zs
from_path_stays path z zs late = by (path_cmp z.path path) refl
  where
    by : (o : Ordering) → path_cmp z.path path ≡ o → from_path path (z ∷ zs) ≡ z ∷ zs
    by Less is = absurd (late is)
    by Equal is = tied_stays path z zs is
    by Greater is = later_stays path z zs is

pub from_path_none : (path : plain.Path) → from_path path [] ≡ []
unfolding from_path
from_path_none path = refl

-- ---- searching

none_with : (path : plain.Path) (y : Planned) (ys : List Planned) → path_cmp y.path path ≢ Less → ArePast y.path ys → item_with path ys ≡ None
none_with path y [] late past = refl
none_with path y (z ∷ ys) late past = by (path_eq z.path path) refl (none_with path y ys late past.1)
  where
    by : (b : Bool) → path_eq z.path path ≡ b → item_with path ys ≡ None → (if b then Some z else item_with path ys) ≡ None
    by false is none = none
    by true is none =
        let same : z.path ≡ path = (pointwise_decides bytes_decides z.path path).0 is in
        absurd (late (ap (path_cmp y.path) (sym same) ∙ past.0))

-- the same items are found in both for the paths of these
abbrev pub FindSame : List Planned → List Planned → List Planned → Type 0
FindSame ys zs [] = Unit {0}
FindSame ys zs (x ∷ xs) = (item_with x.path ys ≡ item_with x.path zs) × FindSame ys zs xs

-- one that is before all of these may be passed
passes_for : (z : Planned) (zs ys xs : List Planned) → ArePast z.path xs → FindSame ys (z ∷ zs) xs → FindSame ys zs xs
passes_for z zs ys [] past same = tt
passes_for z zs ys (x ∷ xs) past same = (
  same.0 ∙ ap (λ (b : Bool). if b then Some z else item_with x.path zs) (apart z.path x.path past.0),
  passes_for z zs ys xs past.1 same.1,
)

farther : (p q : plain.Path) (xs : List Planned) → path_cmp p q ≡ Less → ArePast q xs → ArePast p xs
farther p q [] less past = tt
farther p q (x ∷ xs) less past = (order.trans p q x.path less past.0, farther p q xs less past.1)

-- these are left to go through, and of the others, in which their paths are looked up, the rest is left
pub record Merges (xs others rest : List Planned) : Type 0 where
  pub up : Rise xs
  pub rest_up : Rise rest
  pub same : FindSame others rest xs

pub merges_all : (xs others : List Planned) → IsOrdered xs → IsOrdered others → Merges xs others others
merges_all xs others o p = record { up = rise xs o; rest_up = rise others p; same = find_all xs }
  where
    find_all : (ys : List Planned) → FindSame others others ys
    find_all [] = tt
    find_all (y ∷ ys) = (refl, find_all ys)

-- the next one is found at the front, once what is before it was passed
pub record Finds (x : Planned) (xs others rest : List Planned) : Type 0 where
  pub found : item_with x.path others ≡ first_with x.path rest
  pub merges : Merges xs others rest

found_first : (x z : Planned) (zs others xs : List Planned) → path_cmp z.path x.path ≢ Less → Merges (x ∷ xs) others (z ∷ zs) → Finds x xs others (z ∷ zs)
found_first x z zs others xs late m = record {
  found = m.same.0 ∙ ap (λ (o : Option Planned). if path_eq z.path x.path then Some z else o) (none_with x.path z zs late m.rest_up.0);
  merges = record { up = m.up.1; rest_up = m.rest_up; same = m.same.1 };
}

pub finds_next : (x : Planned) (xs others rest : List Planned) → Merges (x ∷ xs) others rest → Finds x xs others (from_path x.path rest)
finds_next x xs others [] m = rw (from_path_none x.path) (record { found = m.same.0; merges = record { up = m.up.1; rest_up = tt; same = m.same.1 } })
finds_next x xs others (z ∷ zs) m = by (path_cmp z.path x.path) refl (finds_next x xs others zs)
  where
    by : (o : Ordering) → path_cmp z.path x.path ≡ o → (Merges (x ∷ xs) others zs → Finds x xs others (from_path x.path zs)) → Finds x xs others (from_path x.path (z ∷ zs))
    by Less is later =
        rw (from_path_less x.path z zs is)
        (later (record {
          up = m.up;
          rest_up = m.rest_up.1;
          same = passes_for z zs others (x ∷ xs) (is, farther z.path x.path xs is m.up.0) m.same;
        }))
    by Equal is later = let late : path_cmp z.path x.path ≢ Less = λ less. cc in rw (from_path_stays x.path z zs late) (found_first x z zs others xs late m)
    by Greater is later = let late : path_cmp z.path x.path ≢ Less = λ less. cc in rw (from_path_stays x.path z zs late) (found_first x z zs others xs late m)

-- what is found is among them
pub found_in : (path : plain.Path) (ys : List Planned) (y : Planned) → item_with path ys ≡ Some y → Contains ys y
found_in path [] y is = cc is
found_in path (z ∷ ys) y is = by (path_eq z.path path) is (found_in path ys y)
  where
    by : (b : Bool) → (if b then Some z else item_with path ys) ≡ Some y → (item_with path ys ≡ Some y → Contains ys y) → Contains (z ∷ ys) y
    by true e later = (0, omega arith, cc e)
    by false e later = let c = later e in (suc c.0, omega (arith, c.1), c.2)

-- ---- one by one

at_front : (xs : List Planned) (k : ℕ) (x : Planned) → k < length xs → get_or xs k x ≡ x → drop k xs ≡ x ∷ drop (k + 1) xs
at_front xs k x within is = drop-cons xs k x within ∙ ap₂ (λ (y : Planned) (n : ℕ). y ∷ drop n xs) is (sym (add-one k))

-- the item at a place was looked up in what was left of the others
pub record LooksUp (xs others rest : List Planned) (k : ℕ) (x : Planned) (found : Option Planned) : Type 0 where
  pub front : drop k xs ≡ x ∷ drop (k + 1) xs
  pub found_is : item_with x.path others ≡ found
  pub merges : Merges (drop (k + 1) xs) others rest

pub looks_up : (xs others rest rest2 : List Planned) (k : ℕ) (x : Planned) (path : plain.Path) (found : Option Planned) → k < length xs → x ≡ get_or xs k x → path ≡ x.path
    → rest2 ≡ from_path path rest → found ≡ first_with path rest2 → Merges (drop k xs) others rest → LooksUp xs others rest2 k x found
looks_up xs others rest rest2 k x path found within is named rest_is found_is m =
    let front = at_front xs k x within (sym is) in
    let next = finds_next x (drop (k + 1) xs) others rest (subst (λ (ys : List Planned). Merges ys others rest) front m) in
    let here : Finds x (drop (k + 1) xs) others rest2 = subst (Finds x (drop (k + 1) xs) others) (sym (rest_is ∙ ap (λ (p : plain.Path). from_path p rest) named)) next in
    record { front = front; found_is = here.found ∙ ap (λ (p : plain.Path). first_with p rest2) (sym named) ∙ sym found_is; merges = here.merges }

-- ---- lent items

pub none_lent : {X : Type 0} (o : Option (Bor X)) → is_some o ≡ false → option_copied o ≡ None
none_lent None h = refl
none_lent (Some x) h = cc h

pub some_lent : {X : Type 0} (o : Option (Bor X)) → is_some o ≡ true → (y : X) × (option_copied o ≡ Some y)
some_lent None h = cc h
some_lent (Some x) h = (x.now, refl)
