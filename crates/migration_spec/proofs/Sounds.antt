-- That each state of a run is sound.
use Rattle.std.proofs.Common.{ℕ, List, [], ◌∷◌}
use Rattle.folder_spec.specs.State.{State, IsSound}
use Rattle.folder_spec.specs.Event.{Call, Outcome, Done, Fell, Denied, Event, Allowed, changed, fallen, outcome_state, after}
use Rattle.folder_spec.specs.Moments.{EachState, EachEvent, WasAllowedBy, WasAllowed}

-- what calls that are allowed keep
pub record KeepSound : Type 0 where
  pub done : (s : State) (call : Call) → IsSound s → Allowed s call → IsSound (changed s call)
  pub failed : (s : State) (call : Call) (added : ℕ) → IsSound s → Allowed s call → IsSound (fallen s call added)

sound_step : KeepSound → (s : State) (call : Call) (outcome : Outcome) → IsSound s → WasAllowedBy s call outcome → IsSound (outcome_state s call outcome)
sound_step keep s call Done sound allowed = keep.done s call sound allowed
sound_step keep s call (Fell added) sound allowed = keep.failed s call added sound allowed
sound_step keep s call Denied sound allowed = sound

pub sound_along : KeepSound → (s : State) (es : List Event) → IsSound s → EachEvent WasAllowed s es → EachState IsSound s es
sound_along keep s [] sound allowed = sound
sound_along keep s (e ∷ es) sound allowed = (sound, sound_along keep (after s e) es (sound_step keep s e.call e.outcome sound allowed.0) allowed.1)
