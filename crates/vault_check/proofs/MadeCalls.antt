-- Calls that are made one after the other, up to one that fails.
use Rattle.std.proofs.Common.{◌≡◌, ◌≢◌, ◌⊎◌, inl, inr, ℕ, zero, suc, ◌+◌, ◌<◌, List, [], ◌∷◌, ◌++◌, length, take, get_or, Option, Some, None, Result, Ok, Err, IfErr, refl, sym, ap, ◌∙◌, subst, arith}
use Rattle.folder_spec.specs.declared.FolderFault.{FolderFault}
use Rattle.folder_spec.specs.declared.FolderFault.TheVariants.{Failed, Refused, NoMemory}
use Rattle.folder_spec.specs.Event.{Call, Changes, Denied, Done, Fell, FromTo, Rename, Steps, Told, told_after}
use Rattle.folder_spec.specs.Path.{Path}
use Rattle.folder_spec.proofs.Tellings.{from_to_more, from_to_on, from_to_same}
use Rattle.vault_check.specs.Repairing.{HasMadeAll, StopsIn, moving_calls, place_of, renames, repair_calls, told_after_all}

-- ---- of what is told

stops_by_fault : (call : Call) (ys : List Call) (fault : FolderFault) (a b : Told) → Steps call a b (Err fault) → StopsIn (call ∷ ys) a b
stops_by_fault call ys Failed a b steps = inr (inl (Fell steps.1.0, (λ same. cc same), steps.1.2))
stops_by_fault call ys Refused a b steps = inr (inl (Denied, (λ same. cc same), steps.1))
stops_by_fault call ys NoMemory a b steps = inl steps

stops_after : (xs ys : List Call) (a b c : Told) → HasMadeAll xs a b → StopsIn ys b c → StopsIn (xs ++ ys) a c
stops_after [] ys a b c all stops = subst (λ d. StopsIn ys d c) all stops
stops_after (x ∷ xs) ys a b c all stops = inr (inr (stops_after xs ys (told_after a x Done) b c all stops))

stops_before : (xs ys : List Call) (a b : Told) → StopsIn xs a b → StopsIn (xs ++ ys) a b
stops_before [] ys a b none = absurd none
stops_before (x ∷ xs) ys a b (inl same) = inl same
stops_before (x ∷ xs) ys a b (inr (inl fails)) = inr (inl fails)
stops_before (x ∷ xs) ys a b (inr (inr more)) = inr (inr (stops_before xs ys (told_after a x Done) b more))

made_on : (xs ys : List Call) (a b c : Told) → HasMadeAll xs a b → HasMadeAll ys b c → HasMadeAll (xs ++ ys) a c
made_on [] ys a b c first more = subst (λ d. HasMadeAll ys d c) first more
made_on (x ∷ xs) ys a b c first more = made_on xs ys (told_after a x Done) b c first more

-- ---- of a folder that may tell nothing

pub all_none : (t : Option Told) → FromTo (HasMadeAll []) t t
all_none t = from_to_same (HasMadeAll []) t t refl (λ a. refl)

pub all_on : (xs ys : List Call) (t u v : Option Told) → FromTo (HasMadeAll xs) t u → FromTo (HasMadeAll ys) u v → FromTo (HasMadeAll (xs ++ ys)) t v
all_on xs ys t u v first more = from_to_on (HasMadeAll xs) (HasMadeAll ys) (HasMadeAll (xs ++ ys)) t u v (λ a b c. made_on xs ys a b c) first more

pub all_next : (xs : List Call) (call : Call) (done : Unit {0}) (t u v : Option Told) → FromTo (HasMadeAll xs) t u → Changes call u v (Ok done) → FromTo (HasMadeAll (xs ++ call ∷ [])) t v
all_next xs call done t u v first changes = all_on xs (call ∷ []) t u v first (from_to_more (λ a b. Steps call a b (Ok done)) (HasMadeAll (call ∷ [])) u v (λ a b is steps. steps.1) changes)

-- at an exit by a fault
pub at_err : {T E : Type 0} (result : Result T E) (X : Type 0) → X → IfErr result (λ _. X)
at_err (Ok value) X x = tt
at_err (Err fault) X x = x

pub stops_on : (xs ys : List Call) (t u v : Option Told) → FromTo (HasMadeAll xs) t u → FromTo (StopsIn ys) u v → FromTo (StopsIn (xs ++ ys)) t v
stops_on xs ys t u v first more = from_to_on (HasMadeAll xs) (StopsIn ys) (StopsIn (xs ++ ys)) t u v (λ a b c. stops_after xs ys a b c) first more

pub stops_in_front : (xs ys : List Call) (t u : Option Told) → FromTo (StopsIn xs) t u → FromTo (StopsIn (xs ++ ys)) t u
stops_in_front xs ys t u stops = from_to_more (StopsIn xs) (StopsIn (xs ++ ys)) t u (λ a b is k. stops_before xs ys a b k) stops

-- the next call wasn't made
pub stops_here : (xs : List Call) (call : Call) (ys : List Call) (t u : Option Told) → FromTo (HasMadeAll xs) t u → FromTo (StopsIn (xs ++ call ∷ ys)) t u
stops_here xs call ys t u first = stops_on xs (call ∷ ys) t u u first (from_to_same (StopsIn (call ∷ ys)) u u refl (λ a. inl refl))

-- or it failed
pub stops_next : (xs : List Call) (call : Call) (ys : List Call) (fault : FolderFault) (t u v : Option Told) → FromTo (HasMadeAll xs) t u → Changes call u v (Err fault) → FromTo (StopsIn (xs ++ call ∷ ys)) t v
stops_next xs call ys fault t u v first changes =
    stops_on xs (call ∷ ys) t u v first (from_to_more (λ a b. Steps call a b (Err fault)) (StopsIn (call ∷ ys)) u v (λ a b is steps. stops_by_fault call ys fault a b steps) changes)

pub stops_last : (xs : List Call) (call : Call) (result : Result (Unit {0}) FolderFault) (t u v : Option Told) → FromTo (HasMadeAll xs) t u → Changes call u v result
    → IfErr result (λ _. FromTo (StopsIn (xs ++ call ∷ [])) t v)
stops_last xs call (Ok done) t u v first changes = tt
stops_last xs call (Err fault) t u v first changes = stops_next xs call [] fault t u v first changes

-- ---- the renames of strays

next_place : (lost : Path) (stray : Path) (j n : ℕ) (calls : List Call) → j ≡ n → Rename stray (place_of lost j) ∷ calls ≡ Rename stray (place_of lost n) ∷ calls
next_place lost stray j n calls same = ap (λ k. Rename stray (place_of lost k) ∷ calls) same

-- the first of them, and one more
more_renames : (lost : Path) (j k : ℕ) (strays : List Path) → k < length strays
    → renames lost j (take (suc k) strays) ≡ renames lost j (take k strays) ++ Rename (get_or strays k []) (place_of lost (j + k)) ∷ []
more_renames lost j k [] less = absurd (omega (arith, less))
more_renames lost j zero (s ∷ strays) less = next_place lost s j (j + 0) [] (omega arith)
more_renames lost j (suc k) (s ∷ strays) less =
    ap (λ calls. Rename s (place_of lost j) ∷ calls)
    (more_renames lost (j + 1) k strays (omega (arith, less))
    ∙ ap (λ calls. renames lost (j + 1) (take k strays) ++ calls) (next_place lost (get_or strays k []) (j + 1 + k) (j + suc k) [] (omega arith)))

pub renames_more : (lost : Path) (k : ℕ) (strays : List Path) → k < length strays
    → renames lost 0 (take k strays) ++ Rename (get_or strays k []) (place_of lost k) ∷ [] ≡ renames lost 0 (take (k + 1) strays)
renames_more lost k strays less =
    let one : suc k ≡ k + 1 = omega arith in
    ap (λ calls. renames lost 0 (take k strays) ++ calls) (next_place lost (get_or strays k []) k (0 + k) [] (omega arith))
    ∙ sym (more_renames lost 0 k strays less) ∙ ap (λ n. renames lost 0 (take n strays)) one

-- the first of them, the next, and the others
split_renames : (lost : Path) (j k : ℕ) (strays : List Path) → k < length strays
    → (others : List Call) × (renames lost j (take k strays) ++ Rename (get_or strays k []) (place_of lost (j + k)) ∷ others ≡ renames lost j strays)
split_renames lost j k [] less = absurd (omega (arith, less))
split_renames lost j zero (s ∷ strays) less = (renames lost (j + 1) strays, next_place lost s (j + 0) j (renames lost (j + 1) strays) (omega arith))
split_renames lost j (suc k) (s ∷ strays) less =
    let rest = split_renames lost (j + 1) k strays (omega (arith, less)) in (
      rest.0,
      ap (λ calls. Rename s (place_of lost j) ∷ calls)
          (ap (λ calls. renames lost (j + 1) (take k strays) ++ calls) (next_place lost (get_or strays k []) (j + suc k) (j + 1 + k) rest.0 (omega arith)) ∙ rest.1),
    )

pub renames_around : (lost : Path) (k : ℕ) (strays : List Path) → k < length strays
    → (others : List Call) × (renames lost 0 (take k strays) ++ Rename (get_or strays k []) (place_of lost k) ∷ others ≡ renames lost 0 strays)
renames_around lost k strays less =
    let split = split_renames lost 0 k strays less in
    (split.0, ap (λ calls. renames lost 0 (take k strays) ++ calls) (next_place lost (get_or strays k []) k (0 + k) split.0 (omega arith)) ∙ split.1)

pub some_strays : (lost : Path) (strays : List Path) → strays ≢ [] → moving_calls lost strays ≡ repair_calls lost strays
some_strays lost [] some = absurd (some refl)
some_strays lost (s ∷ strays) some = refl

pub none_by_size : (strays : List Path) → length strays ≡ 0 → strays ≡ []
none_by_size [] none = refl
none_by_size (s ∷ strays) none = absurd (omega (arith, none))

pub some_by_size : (strays : List Path) → 0 < length strays → strays ≢ []
some_by_size [] some same = omega (arith, some)
some_by_size (s ∷ strays) some same = cc same
