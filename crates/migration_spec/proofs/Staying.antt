-- Calls by which a region stays as it was, one after the other; each event is of a kind that may speak of the state at entry.
use Rattle.std.proofs.Common.{◌≡◌, Bool, Option, Result, IsTrue}
use Rattle.folder_spec.proofs.Moments.{went_by_call, went_more, went_nowhere, went_on, went_to}
use Rattle.folder_spec.proofs.Regions.{as_before, as_before_on, as_before_then, as_before_within}
use Rattle.folder_spec.proofs.Tellings.{from_to_more, from_to_on, from_to_same}
use Rattle.folder_spec.specs.declared.FolderFault.{FolderFault}
use Rattle.folder_spec.specs.Event.{Changes, Event, Outcome, Settle, Steps, Told}
use Rattle.folder_spec.specs.Moments.{Moments, Went}
use Rattle.folder_spec.specs.Path.{Path}
use Rattle.folder_spec.specs.Region.{IsAsBefore}
use Rattle.folder_spec.specs.State.{State}

-- a kind of events, by the state at entry and the one before
abbrev pub Kind : Type 1
Kind = State → State → Event → Type 0

-- nothing has changed
pub stays_same : (region : Path → Bool) (Q : Kind) (t u : Option Told) → u ≡ t → Moments (IsAsBefore region) Q t u
stays_same region Q t u same = from_to_same (λ a b. Went (IsAsBefore region a.state) (Q a.state) a b) t u same (λ a. went_nowhere (IsAsBefore region a.state) (Q a.state) a (as_before region a.state))

-- a smaller region, and events of more kinds
pub stays_more : (region within : Path → Bool) (Q Q' : Kind) (t u : Option Told) → ((q : Path) → IsTrue (region q) → IsTrue (within q)) → ((s0 s : State) (e : Event) → Q s0 s e → Q' s0 s e)
    → Moments (IsAsBefore within) Q t u → Moments (IsAsBefore region) Q' t u
stays_more region within Q Q' t u inside more =
    from_to_more (λ a b. Went (IsAsBefore within a.state) (Q a.state) a b) (λ a b. Went (IsAsBefore region a.state) (Q' a.state) a b) t u
    (λ a b is went. went_more (IsAsBefore within a.state) (IsAsBefore region a.state) (Q a.state) (Q' a.state) a b (λ s stayed. as_before_within region within a.state s inside stayed) (λ s e is. more a.state s e is) went)

-- one after the other
pub stays_on : (region within : Path → Bool) (Q Q' : Kind) (t u w : Option Told) → ((q : Path) → IsTrue (region q) → IsTrue (within q)) → ((s0 s1 s : State) (e : Event) → Q' s1 s e → Q s0 s e)
    → Moments (IsAsBefore region) Q t u → Moments (IsAsBefore within) Q' u w → Moments (IsAsBefore region) Q t w
stays_on region within Q Q' t u w inside more =
    from_to_on (λ a b. Went (IsAsBefore region a.state) (Q a.state) a b) (λ a b. Went (IsAsBefore within a.state) (Q' a.state) a b) (λ a b. Went (IsAsBefore region a.state) (Q a.state) a b) t u w
    (λ a b c one two. went_on (IsAsBefore region a.state) (Q a.state) a b c one
    (went_more (IsAsBefore within b.state) (IsAsBefore region a.state) (Q' b.state) (Q a.state) b c
    (λ s stayed. as_before_then region within a.state b.state s inside (went_to (IsAsBefore region a.state) (Q a.state) a b one) stayed) (λ s e is. more a.state b.state s e is) two))

-- a settle
pub stays_settled : (region : Path → Bool) (Q : Kind) (t u : Option Told) (result : Result (Unit {0}) FolderFault) → ((s : State) (outcome : Outcome) → Q s s (record { call = Settle; outcome = outcome })) → Changes Settle t u result
    → Moments (IsAsBefore region) Q t u
stays_settled region Q t u result is =
    from_to_more (λ a b. Steps Settle a b result) (λ a b. Went (IsAsBefore region a.state) (Q a.state) a b) t u
    (λ a b told steps. went_by_call (IsAsBefore region a.state) (Q a.state) Settle a b result (as_before region a.state) (λ allowed. as_before_on region a.state a.state Settle tt tt (as_before region a.state))
    (λ added allowed. as_before region a.state) (λ outcome. is a.state outcome) steps)
