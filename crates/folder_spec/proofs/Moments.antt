-- How runs of calls go on.
use Rattle.std.proofs.Common.{◌≡◌, ℕ, List, [], ◌∷◌, ◌++◌, Result, Ok, Err, refl, sym, ap, ◌∙◌, subst, append_assoc, append-nil}
use Rattle.folder_spec.specs.declared.FolderFault.{FolderFault}
use Rattle.folder_spec.specs.declared.FolderFault.TheVariants.{Failed, Refused, NoMemory}
use Rattle.folder_spec.specs.State.{State}
use Rattle.folder_spec.specs.Event.{Call, Outcome, Done, Fell, Denied, Event, Allowed, changed, fallen, after, outcome_state, Told, told_after, Steps}
use Rattle.folder_spec.specs.Moments.{run, EachState, EachEvent, WasAllowedBy, WasAllowed, Went}

run-append : (s : State) (es fs : List Event) → run s (es ++ fs) ≡ run (run s es) fs
run-append s [] fs = refl
run-append s (e ∷ es) fs = run-append (after s e) es fs

states-append : (P : State → Type 0) (s : State) (es fs : List Event) → EachState P s es → EachState P (run s es) fs → EachState P s (es ++ fs)
states-append P s [] fs first then_ = then_
states-append P s (e ∷ es) fs first then_ = (first.0, states-append P (after s e) es fs first.1 then_)

events-append : (Q : State → Event → Type 0) (s : State) (es fs : List Event) → EachEvent Q s es → EachEvent Q (run s es) fs → EachEvent Q s (es ++ fs)
events-append Q s [] fs first then_ = then_
events-append Q s (e ∷ es) fs first then_ = (first.0, events-append Q (after s e) es fs first.1 then_)

-- no call at all
pub went_nowhere : (P : State → Type 0) (Q : State → Event → Type 0) (a : Told) → P a.state → Went P Q a a
went_nowhere P Q a here = record { events = []; log = sym (append-nil a.log); state = refl; states = here; each = tt; allowed = tt }

-- one run after another
pub went_on : (P : State → Type 0) (Q : State → Event → Type 0) (a b c : Told) → Went P Q a b → Went P Q b c → Went P Q a c
went_on P Q a b c first then_ = record {
  events = first.events ++ then_.events;
  log = then_.log ∙ ap (λ log. log ++ then_.events) first.log ∙ append_assoc a.log first.events then_.events;
  state = then_.state ∙ ap (λ s. run s then_.events) first.state ∙ sym (run-append a.state first.events then_.events);
  states = states-append P a.state first.events then_.events first.states (subst (λ s. EachState P s then_.events) first.state then_.states);
  each = events-append Q a.state first.events then_.events first.each (subst (λ s. EachEvent Q s then_.events) first.state then_.each);
  allowed = events-append WasAllowed a.state first.events then_.events first.allowed (subst (λ s. EachEvent WasAllowed s then_.events) first.state then_.allowed);
}

-- one event
pub went_through : (P : State → Type 0) (Q : State → Event → Type 0) (a : Told) (call : Call) (outcome : Outcome)
    → P a.state → P (outcome_state a.state call outcome) → Q a.state (record { call = call; outcome = outcome }) → WasAllowedBy a.state call outcome
    → Went P Q a (told_after a call outcome)
went_through P Q a call outcome here then_ event allowed = record {
  events = record { call = call; outcome = outcome } ∷ [];
  log = refl;
  state = refl;
  states = (here, then_);
  each = (event, tt);
  allowed = (allowed, tt);
}

-- one call, whatever it answers
pub went_by_call : (P : State → Type 0) (Q : State → Event → Type 0) (call : Call) (a b : Told) (result : Result (Unit {0}) FolderFault)
    → P a.state
    → (Allowed a.state call → P (changed a.state call))
    → ((added : ℕ) → Allowed a.state call → P (fallen a.state call added))
    → ((outcome : Outcome) → Q a.state (record { call = call; outcome = outcome }))
    → Steps call a b result → Went P Q a b
went_by_call P Q call a b (Ok _) here done fell event h =
    subst (Went P Q a) (sym h.1) (went_through P Q a call Done here (done h.0) (event Done) h.0)
went_by_call P Q call a b (Err Failed) here done fell event h =
    subst (Went P Q a) (sym h.1.2) (went_through P Q a call (Fell h.1.0) here (fell h.1.0 h.0) (event (Fell h.1.0)) h.0)
went_by_call P Q call a b (Err Refused) here done fell event h =
    subst (Went P Q a) (sym h.1) (went_through P Q a call Denied here here (event Denied) h.0)
went_by_call P Q call a b (Err NoMemory) here done fell event h = subst (Went P Q a) (sym h) (went_nowhere P Q a here)

-- more is known of each state and each event
pub went_more : (P P' : State → Type 0) (Q Q' : State → Event → Type 0) (a b : Told)
    → ((s : State) → P s → P' s) → ((s : State) (e : Event) → Q s e → Q' s e) → Went P Q a b → Went P' Q' a b
went_more P P' Q Q' a b more_state more_event h = record {
  events = h.events;
  log = h.log;
  state = h.state;
  states = states_more a.state h.events h.states;
  each = events_more a.state h.events h.each;
  allowed = h.allowed;
}
  where
    states_more : (s : State) (es : List Event) → EachState P s es → EachState P' s es
    states_more s [] k = more_state s k
    states_more s (e ∷ es) k = (more_state s k.0, states_more (after s e) es k.1)

    events_more : (s : State) (es : List Event) → EachEvent Q s es → EachEvent Q' s es
    events_more s [] k = tt
    events_more s (e ∷ es) k = (more_event s e k.0, events_more (after s e) es k.1)

-- the last state of a run is one of its states
pub went_to : (P : State → Type 0) (Q : State → Event → Type 0) (a b : Told) → Went P Q a b → P b.state
went_to P Q a b h = subst P (sym h.state) (last_state a.state h.events h.states)
  where
    last_state : (s : State) (es : List Event) → EachState P s es → P (run s es)
    last_state s [] k = k
    last_state s (e ∷ es) k = last_state (after s e) es k.1
