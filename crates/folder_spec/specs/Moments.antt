-- The states of a call: the state at entry, and the state after each event that the call adds to the log.
use Rattle.std.specs.Prelude.{◌≡◌, List, [], ◌∷◌, ◌++◌, Option}
use Rattle.folder_spec.specs.State.{State}
use Rattle.folder_spec.specs.Event.{Call, Outcome, Done, Fell, Denied, Event, Allowed, after, Told, FromTo}

-- the state after these events
abbrev pub run : State → List Event → State
run s [] = s
run s (e ∷ es) = run (after s e) es

-- each state of the run has P
abbrev pub EachState : (State → Type 0) → State → List Event → Type 0
EachState P s [] = P s
EachState P s (e ∷ es) = P s × EachState P (after s e) es

-- each event of the run has Q, at the state before it
abbrev pub EachEvent : (State → Event → Type 0) → State → List Event → Type 0
EachEvent Q s [] = Unit {0}
EachEvent Q s (e ∷ es) = Q s e × EachEvent Q (after s e) es

-- a call that was done or that failed was allowed, and one that was refused was not
abbrev pub WasAllowedBy : State → Call → Outcome → Type 0
WasAllowedBy s call Done = Allowed s call
WasAllowedBy s call (Fell added) = Allowed s call
WasAllowedBy s call Denied = ¬ Allowed s call

abbrev pub WasAllowed : State → Event → Type 0
WasAllowed s e = WasAllowedBy s e.call e.outcome

-- from a to b the folder went through these events, each state had P and each event Q
pub record Went (P : State → Type 0) (Q : State → Event → Type 0) (a b : Told) : Type 0 where
  pub events : List Event
  pub log : b.log ≡ a.log ++ events
  pub state : b.state ≡ run a.state events
  pub states : EachState P a.state events
  pub each : EachEvent Q a.state events
  pub allowed : EachEvent WasAllowed a.state events

-- the same of a folder that may tell nothing; here P and Q speak of the state at entry
abbrev pub Moments : (State → State → Type 0) → (State → State → Event → Type 0) → Option Told → Option Told → Type 0
Moments P Q before after = FromTo (λ a b. Went (P a.state) (Q a.state) a b) before after
