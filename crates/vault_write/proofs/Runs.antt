-- Runs of calls of which more is known.
use Rattle.std.proofs.Common.{◌≡◌, List, [], ◌∷◌, ◌++◌, inl, IsTrue}
use Rattle.folder_spec.specs.Path.{Part, Path, child}
use Rattle.folder_spec.specs.State.{State}
use Rattle.folder_spec.specs.Event.{Call, MakeDir, Create, Append, Sync, Settle, Rename, RemoveFile, RemoveDir, Event, after, Told}
use Rattle.folder_spec.specs.Moments.{EachState, EachEvent, Went}
use Rattle.folder_spec.specs.Region.{StagesAt, at_or_below}
use Rattle.work_folder.specs.Entries.{stage_path}
use Rattle.item_making.specs.Making.{Making, is_staged, StagesOrPlaces}
use Rattle.vault_write.proofs.Stages.{in_stage, at_root}

-- more is known of each state, and with it of each event
pub went_with : (P P' : State → Type 0) (Q Q' : State → Event → Type 0) (a b : Told)
    → ((s : State) → P s → P' s) → ((s : State) (e : Event) → P s → Q s e → Q' s e) → Went P Q a b → Went P' Q' a b
went_with P P' Q Q' a b more_state more_event h = record {
  events = h.events;
  log = h.log;
  state = h.state;
  states = states_more a.state h.events h.states;
  each = events_more a.state h.events h.states h.each;
  allowed = h.allowed;
}
  where
    states_more : (s : State) (es : List Event) → EachState P s es → EachState P' s es
    states_more s [] k = more_state s k
    states_more s (e ∷ es) k = (more_state s k.0, states_more (after s e) es k.1)

    events_more : (s : State) (es : List Event) → EachState P s es → EachEvent Q s es → EachEvent Q' s es
    events_more s [] p k = tt
    events_more s (e ∷ es) p k = (more_event s e p.0 k.0, events_more (after s e) es p.1 k.1)

staged_at : (work : Path) (x : Part) (p : Path) → IsTrue (at_or_below (child (stage_path work) x) p) → IsTrue (is_staged work p)
staged_at work x p is = let k : (rest : Path) × (p ≡ child (stage_path work) x ++ rest) = at_root (child (stage_path work) x) p is in in_stage work x k.0 p k.1

-- a call that stages at a place in the stage works there
pub works_in_stage : (work : Path) (m : Making) (x : Part) (s0 s : State) (call : Call) → StagesAt (child (stage_path work) x) s0 s call → StagesOrPlaces work m s call
works_in_stage work m x s0 s (MakeDir p) h = inl (staged_at work x p h.0)
works_in_stage work m x s0 s (Create p) h = staged_at work x p h.0
works_in_stage work m x s0 s (Append p piece) h = staged_at work x p h.0
works_in_stage work m x s0 s (Sync p) h = staged_at work x p h.0
works_in_stage work m x s0 s Settle h = absurd h.0
works_in_stage work m x s0 s (Rename old new) h = absurd h.0
works_in_stage work m x s0 s (RemoveFile p) h = staged_at work x p h.0
works_in_stage work m x s0 s (RemoveDir p) h = staged_at work x p h.0
