-- That nothing but files and directories is staged while an item is made.
use Rattle.std.proofs.Common.{◌≡◌, ◌≢◌, ℕ, Bool, true, false, List, [], ◌∷◌, ◌++◌, Option, Some, None, refl, sym, ap, ◌∙◌, inl, inr, subst, append_assoc, take, if◌then◌else◌, IsTrue}
use Rattle.folder_spec.proofs.Paths.{below-append, below_is}
use Rattle.folder_spec.proofs.Tables.{among-push, present_is_table}
use Rattle.folder_spec.specs.Path.{Path, path_eq, below}
use Rattle.folder_spec.specs.declared.Spot.{Spot}
use Rattle.folder_spec.specs.declared.Spot.TheVariants.{Nothing, Directory, FileNode, Odd}
use Rattle.folder_spec.specs.State.{Node, Table, State, IsAmong, present, put, moved, moved_spot}
use Rattle.folder_spec.specs.Event.{Call, MakeDir, Create, Append, Sync, Settle, Rename, RemoveFile, RemoveDir, Outcome, Done, Fell, Denied, Event, with_file, grown, synced, changed, fallen, outcome_state, after}
use Rattle.folder_spec.specs.Moments.{EachState, EachEvent}
use Rattle.item_making.specs.Making.{Making, is_inside, is_staged, StagesOrPlaces}
use Rattle.work_folder.specs.Entries.{stage_path}

-- no table has at a staged path what is neither a file nor a directory
abbrev pub NoOddIn : Path → List Table → Type 0
NoOddIn work tables = (t : Table) (q : Path) → IsAmong t tables → IsTrue (is_staged work q) → t q ≢ Odd

abbrev pub NoOdd : Path → State → Type 0
NoOdd work s = NoOddIn work (s.kept ∷ s.later)

pushed : (work : Path) (us : List Table) (u : Table) → NoOddIn work us → ((q : Path) → IsTrue (is_staged work q) → u q ≢ Odd) → NoOddIn work (us ++ u ∷ [])
pushed work us u old new t q among staged = elim (among-push t u us among) [
  | inl there ↦ old t q there staged
  | inr is ↦ subst (λ (t : Table). t q ≢ Odd) (sym is) (new q staged)
]

present_has_none : (work : Path) (s : State) → NoOdd work s → (q : Path) → IsTrue (is_staged work q) → present s q ≢ Odd
present_has_none work s h q staged = h (present s) q (present_is_table s) staged

either : (b : Bool) (x y : Spot) → x ≢ Odd → y ≢ Odd → (if b then x else y) ≢ Odd
either true x y one other = one
either false x y one other = other

put_none : (work : Path) (s : State) (p : Path) (x : Spot) → x ≢ Odd → NoOdd work s → (q : Path) → IsTrue (is_staged work q) → put (present s) p x q ≢ Odd
put_none work s p x is h q staged = either (path_eq p q) x (present s q) is (present_has_none work s h q staged)

-- what is behind a staged path is staged
staged_below : (work p rest : Path) → IsTrue (is_staged work p) → IsTrue (is_staged work (p ++ rest))
staged_below work p rest = inside (below (stage_path work) p) refl
  where
    inside : (o : Option Path) → below (stage_path work) p ≡ o → IsTrue (is_inside o) → IsTrue (is_staged work (p ++ rest))
    inside None e is = absurd (cc is)
    inside (Some []) e is = absurd (cc is)
    inside (Some (a ∷ r)) e is =
        ap is_inside (ap (λ z. below (stage_path work) (z ++ rest)) (below_is (stage_path work) p (a ∷ r) e)
        ∙ ap (below (stage_path work)) (append_assoc (stage_path work) (a ∷ r) rest) ∙ below-append (stage_path work) (a ∷ r ++ rest))

moved_none : (work : Path) (s : State) (old new : Path) → IsTrue (is_staged work old) → NoOdd work s → (q : Path) → IsTrue (is_staged work q) → moved (present s) old new q ≢ Odd
moved_none work s old new staged h q is = by_place (below new q) (below old q)
  where
    by_place : (a b : Option Path) → moved_spot (present s) old q a b ≢ Odd
    by_place (Some rest) b = present_has_none work s h (old ++ rest) (staged_below work old rest staged)
    by_place None (Some rest) = λ e. cc e
    by_place None None = present_has_none work s h q is

with_file_none : (work : Path) (s : State) (x : Spot) (change : Node → Node) → NoOdd work s → NoOdd work (with_file s x change)
with_file_none work s Nothing change h = h
with_file_none work s Directory change h = h
with_file_none work s (FileNode n) change h = h
with_file_none work s Odd change h = h

changed_none : (work : Path) (m : Making) (s : State) (call : Call) → NoOdd work s → StagesOrPlaces work m s call → NoOdd work (changed s call)
changed_none work m s (MakeDir p) h places = pushed work (s.kept ∷ s.later) (put (present s) p Directory) h (put_none work s p Directory (λ e. cc e) h)
changed_none work m s (Create p) h places = pushed work (s.kept ∷ s.later) (put (present s) p (FileNode s.made)) h (put_none work s p (FileNode s.made) (λ e. cc e) h)
changed_none work m s (Append p piece) h places = with_file_none work s (present s p) (grown piece) h
changed_none work m s (Sync p) h places = with_file_none work s (present s p) synced h
changed_none work m s Settle h places = λ t q among staged. elim among [
  | inl is ↦ subst (λ (t : Table). t q ≢ Odd) (sym is) (present_has_none work s h q staged)
  | inr none ↦ absurd none
]
changed_none work m s (Rename old new) h places = pushed work (s.kept ∷ s.later) (moved (present s) old new) h (moved_none work s old new places.0 h)
changed_none work m s (RemoveFile p) h places = pushed work (s.kept ∷ s.later) (put (present s) p Nothing) h (put_none work s p Nothing (λ e. cc e) h)
changed_none work m s (RemoveDir p) h places = pushed work (s.kept ∷ s.later) (put (present s) p Nothing) h (put_none work s p Nothing (λ e. cc e) h)

fallen_none : (work : Path) (m : Making) (s : State) (call : Call) (added : ℕ) → NoOdd work s → NoOdd work (fallen s call added)
fallen_none work m s (Append p piece) added h = with_file_none work s (present s p) (grown (take added piece)) h
fallen_none work m s (MakeDir p) added h = h
fallen_none work m s (Create p) added h = h
fallen_none work m s (Sync p) added h = h
fallen_none work m s Settle added h = h
fallen_none work m s (Rename old new) added h = h
fallen_none work m s (RemoveFile p) added h = h
fallen_none work m s (RemoveDir p) added h = h

step_none : (work : Path) (m : Making) (s : State) (call : Call) (outcome : Outcome) → NoOdd work s → StagesOrPlaces work m s call → NoOdd work (outcome_state s call outcome)
step_none work m s call Done h places = changed_none work m s call h places
step_none work m s call (Fell added) h places = fallen_none work m s call added h
step_none work m s call Denied h places = h

abbrev pub Stages : Path → Making → State → Event → Type 0
Stages work m s e = StagesOrPlaces work m s e.call

-- along a run
pub none_along : (work : Path) (m : Making) (s : State) (es : List Event) → NoOdd work s → EachEvent (Stages work m) s es → EachState (NoOdd work) s es
none_along work m s [] h places = h
none_along work m s (e ∷ es) h places = (h, none_along work m (after s e) es (step_none work m s e.call e.outcome h places.0) places.1)

-- two facts of each state are one of both
pub both_along : (P N R : State → Type 0) (s : State) (es : List Event) → ((s : State) → P s → N s → R s) → EachState P s es → EachState N s es → EachState R s es
both_along P N R s [] both h k = both s h k
both_along P N R s (e ∷ es) both h k = (both s h.0 k.0, both_along P N R (after s e) es both h.1 k.1)

-- what follows of each state
pub each_on : (P R : State → Type 0) (s : State) (es : List Event) → ((s : State) → P s → R s) → EachState P s es → EachState R s es
each_on P R s [] more h = more s h
each_on P R s (e ∷ es) more h = (more s h.0, each_on P R (after s e) es more h.1)

pub nothing_each : (s : State) (es : List Event) → EachEvent (λ s e. Unit {0}) s es
nothing_each s [] = tt
nothing_each s (e ∷ es) = (tt, nothing_each (after s e) es)
