-- In which turn what stands in the work folder goes: the journal stands in each name table in which something stands at `old`.
use Rattle.std.proofs.Common.{◌≡◌, ◌≢◌, ◌⊎◌, List, [], ◌∷◌, Option, Result, Ok, refl, sym, ap, ◌∙◌, inl, inr, subst, codes, is_none}
use Rattle.folder_spec.proofs.Moments.{went_by_call, went_more, went_nowhere, went_on, went_to}
use Rattle.folder_spec.proofs.Paths.{below-apart, below-both, one_or_not}
use Rattle.folder_spec.proofs.Tables.{among-push, last_of-push, moved-other, present_is_table, put-other, put-same}
use Rattle.folder_spec.proofs.Tellings.{from_to_more, from_to_on, from_to_same}
use Rattle.folder_spec.specs.declared.FolderFault.{FolderFault}
use Rattle.folder_spec.specs.Apart.{AreApart}
use Rattle.folder_spec.specs.Event.{Call, MakeDir, Create, Append, Sync, Settle, Rename, RemoveFile, RemoveDir, Outcome, Done, Fell, Denied, Event, Changes, Steps, Told, after, changed, outcome_state, with_table}
use Rattle.folder_spec.specs.Moments.{EachEvent, EachState, Went}
use Rattle.folder_spec.specs.Path.{Part, Path, below, child}
use Rattle.folder_spec.specs.Region.{IsAsBefore, apart_from, apart_from_both}
use Rattle.folder_spec.specs.Seen.{IfSeen, IsSeen, seen}
use Rattle.folder_spec.specs.State.{State, Table, IsTableOf, moved, present, put}
use Rattle.folder_spec.specs.declared.Spot.TheVariants.{Nothing}
use Rattle.migration_spec.proofs.Along.{nothing_each}
use Rattle.migration_spec.specs.Guard.{old_path}
use Rattle.work_folder.specs.Entries.{journal_path}
use Rattle.retire_core.proofs.Cleared.{entry_apart, inside_apart, isnt_eq}
use Rattle.retire_core.proofs.Going.{nothing_seen}
use Rattle.retire_core.specs.Clearing.{ClearsAt, ClearsBeside, ClearsEntry, ClearsRest, HasOnlyJournal, KeepsBeside, KeepsJournal, MovesHeld, MovesHeldOnly, StandsStill}
use Rattle.retire_core.specs.Retiring.{KeepsInOrder, Retiring, StandsBesideOld}

-- ---- along a run

-- what each of its events keeps holds at each moment
along : (P : State → Type 0) (Q : State → Event → Type 0) → ((s : State) (e : Event) → Q s e → P s → P (after s e)) → (s : State) (es : List Event) → P s → EachEvent Q s es → EachState P s es
along P Q step s [] is each = is
along P Q step s (e ∷ es) is each = (is, along P Q step (after s e) es (step s e each.0 is) each.1)

went_keeping : (R P : State → Type 0) (Q : State → Event → Type 0) (a b : Told) → ((s : State) (e : Event) → Q s e → P s → P (after s e)) → Went R Q a b → P a.state → Went P (λ s e. Unit {0}) a b
went_keeping R P Q a b step went is = record {
  events = went.events;
  log = went.log;
  state = went.state;
  states = along P Q step a.state went.events is went.each;
  each = nothing_each a.state went.events;
  allowed = went.allowed;
}

-- ---- one table more, or a settle

pushed : (work : Path) (s0 s : State) (u : Table) → StandsBesideOld work s0 s → (u (old_path work) ≢ Nothing → u (journal_path work) ≡ present s0 (journal_path work)) → StandsBesideOld work s0 (with_table s u)
pushed work s0 s u is more = record {
  journal = λ t among there. elim (among-push t u (s.kept ∷ s.later) among) as (λ _. t (journal_path work) ≡ present s0 (journal_path work)) [
    | inl earlier ↦ is.journal t earlier there
    | inr new ↦ subst (λ (w : Table). w (journal_path work) ≡ present s0 (journal_path work)) (sym new) (more (subst (λ (w : Table). w (old_path work) ≢ Nothing) new there))
  ];
  nodes = is.nodes;
}

still_pushed : (work : Path) (s0 s : State) (u : Table) → u (journal_path work) ≡ present s (journal_path work) → StandsStill work s0 s → StandsStill work s0 (with_table s u)
still_pushed work s0 s u same is = record {
  beside = pushed work s0 s u is.beside (λ there. same ∙ is.now);
  now = ap (λ (t : Table). t (journal_path work)) (last_of-push s.kept s.later u) ∙ same ∙ is.now;
}

settled : (work : Path) (s0 s : State) → StandsBesideOld work s0 s → StandsBesideOld work s0 (changed s Settle)
settled work s0 s is = record {
  journal = λ t among there. elim among as (λ _. t (journal_path work) ≡ present s0 (journal_path work)) [
    | inl same ↦ is.journal t (subst (IsTableOf s) (sym same) (present_is_table s)) there
    | inr none ↦ absurd none
  ];
  nodes = is.nodes;
}

still_settled : (work : Path) (s0 s : State) → StandsStill work s0 s → StandsStill work s0 (changed s Settle)
still_settled work s0 s is = record { beside = settled work s0 s is.beside; now = is.now }

-- behind a settle the present table is the only one
pub settled_still : (work : Path) (s : State) → StandsStill work s (changed s Settle)
settled_still work s = record {
  beside = record {
    journal = λ t among there. elim among as (λ _. t (journal_path work) ≡ present s (journal_path work)) [
      | inl same ↦ ap (λ (w : Table). w (journal_path work)) same
      | inr none ↦ absurd none
    ];
    nodes = refl;
  };
  now = refl;
}

-- ---- the source is moved to `old`

moved_still : (r : Retiring) → AreApart r.from r.work → (s0 s1 s : State) (call : Call) (outcome : Outcome) → MovesHeld r s1 s call → StandsStill r.work s0 s → StandsStill r.work s0 (outcome_state s call outcome)
moved_still r apart s0 s1 s (Rename from to) Done h is =
    still_pushed r.work s0 s (moved (present s) from to)
    (moved-other (present s) from to (journal_path r.work) (ap (λ p. below p (journal_path r.work)) h.0.1 ∙ below-both r.work (codes "old" ∷ []) (codes "journal" ∷ []))
    (ap (λ p. below p (journal_path r.work)) h.0.0 ∙ below-apart r.from r.work (codes "journal" ∷ []) apart.one apart.other)) is
moved_still r apart s0 s1 s Settle Done h is = still_settled r.work s0 s is
moved_still r apart s0 s1 s (Rename from to) (Fell added) h is = is
moved_still r apart s0 s1 s (Rename from to) Denied h is = is
moved_still r apart s0 s1 s Settle (Fell added) h is = is
moved_still r apart s0 s1 s Settle Denied h is = is
moved_still r apart s0 s1 s (MakeDir p) outcome h is = absurd h.0
moved_still r apart s0 s1 s (Create p) outcome h is = absurd h.0
moved_still r apart s0 s1 s (Append p piece) outcome h is = absurd h.0
moved_still r apart s0 s1 s (Sync p) outcome h is = absurd h.0
moved_still r apart s0 s1 s (RemoveFile p) outcome h is = absurd h.0
moved_still r apart s0 s1 s (RemoveDir p) outcome h is = absurd h.0

pub moved_keeps : (r : Retiring) (t u : Option Told) → AreApart r.from r.work → MovesHeldOnly r t u → KeepsJournal r.work t u
moved_keeps r t u apart moves =
    from_to_more (λ a b. Went (IsAsBefore (apart_from_both r.from r.work) a.state) (λ s e. MovesHeld r a.state s e.call) a b) (λ a b. (s0 : State) → StandsStill r.work s0 a.state → Went (StandsStill r.work s0) (λ s e. Unit {0}) a b) t u
    (λ a b is went s0 still. went_keeping (IsAsBefore (apart_from_both r.from r.work) a.state) (StandsStill r.work s0) (λ s e. MovesHeld r a.state s e.call) a b
    (λ s e h here. moved_still r apart s0 a.state s e.call e.outcome h here) went still) moves

-- ---- an entry beside the journal is removed

module _ (work : Path) (name : Part) (other : name ≢ codes "journal") where
  not_journal : (p : Path) (s1 : State) → ClearsAt (child work name) s1 (RemoveFile p) → p ≢ journal_path work
  not_journal p s1 h = inside_apart (child work name) p (journal_path work) h.0 (ap is_none (entry_apart work name (codes "journal") (isnt_eq (codes "journal") name (λ e. other (sym e)))))

  removed_still : (s0 s1 s : State) (call : Call) (outcome : Outcome) → ClearsAt (child work name) s1 call → StandsStill work s0 s → StandsStill work s0 (outcome_state s call outcome)
  removed_still s0 s1 s (RemoveFile p) Done h is = still_pushed work s0 s (put (present s) p Nothing) (put-other (present s) p Nothing (journal_path work) (not_journal p s1 h)) is
  removed_still s0 s1 s (RemoveDir p) Done h is = still_pushed work s0 s (put (present s) p Nothing) (put-other (present s) p Nothing (journal_path work) (not_journal p s1 h)) is
  removed_still s0 s1 s (RemoveFile p) (Fell added) h is = is
  removed_still s0 s1 s (RemoveFile p) Denied h is = is
  removed_still s0 s1 s (RemoveDir p) (Fell added) h is = is
  removed_still s0 s1 s (RemoveDir p) Denied h is = is
  removed_still s0 s1 s (MakeDir p) outcome h is = absurd h
  removed_still s0 s1 s (Create p) outcome h is = absurd h
  removed_still s0 s1 s (Append p piece) outcome h is = absurd h
  removed_still s0 s1 s (Sync p) outcome h is = absurd h
  removed_still s0 s1 s Settle outcome h is = absurd h
  removed_still s0 s1 s (Rename from to) outcome h is = absurd h

  pub entry_keeps : (t u : Option Told) → ClearsEntry (child work name) t u → KeepsJournal work t u
  entry_keeps t u clears =
      from_to_more (λ a b. Went (IsAsBefore (apart_from (child work name)) a.state) (λ s e. ClearsAt (child work name) a.state e.call) a b) (λ a b. (s0 : State) → StandsStill work s0 a.state → Went (StandsStill work s0) (λ s e. Unit {0}) a b) t u
      (λ a b is went s0 still. went_keeping (IsAsBefore (apart_from (child work name)) a.state) (StandsStill work s0) (λ s e. ClearsAt (child work name) a.state e.call) a b
      (λ s e h here. removed_still s0 a.state s e.call e.outcome h here) went still) clears

-- ---- the journal is removed once `old` is gone

-- nothing is at `old` now
record IsLast (work : Path) (s0 s : State) : Type 0 where
  beside : StandsBesideOld work s0 s
  gone : present s (old_path work) ≡ Nothing

removed_last : (work : Path) (s0 s : State) (p : Path) → IsLast work s0 s → IsLast work s0 (with_table s (put (present s) p Nothing))
removed_last work s0 s p is = record {
  beside = pushed work s0 s (put (present s) p Nothing) is.beside (λ there. absurd (there none));
  gone = ap (λ (t : Table). t (old_path work)) (last_of-push s.kept s.later (put (present s) p Nothing)) ∙ none;
}
  where
    none : put (present s) p Nothing (old_path work) ≡ Nothing
    none = elim (one_or_not p (old_path work)) [
      | inl same ↦ subst (λ q. put (present s) p Nothing q ≡ Nothing) same (put-same (present s) p Nothing)
      | inr apart ↦ put-other (present s) p Nothing (old_path work) apart.0 ∙ is.gone
    ]

last_step : (work : Path) (s0 s : State) (call : Call) (outcome : Outcome) → ClearsBeside work call → IsLast work s0 s → IsLast work s0 (outcome_state s call outcome)
last_step work s0 s (RemoveFile p) Done h is = removed_last work s0 s p is
last_step work s0 s (RemoveDir p) Done h is = removed_last work s0 s p is
last_step work s0 s Settle Done h is = record { beside = settled work s0 s is.beside; gone = is.gone }
last_step work s0 s (RemoveFile p) (Fell added) h is = is
last_step work s0 s (RemoveFile p) Denied h is = is
last_step work s0 s (RemoveDir p) (Fell added) h is = is
last_step work s0 s (RemoveDir p) Denied h is = is
last_step work s0 s Settle (Fell added) h is = is
last_step work s0 s Settle Denied h is = is
last_step work s0 s (MakeDir p) outcome h is = absurd h
last_step work s0 s (Create p) outcome h is = absurd h
last_step work s0 s (Append p piece) outcome h is = absurd h
last_step work s0 s (Sync p) outcome h is = absurd h
last_step work s0 s (Rename from to) outcome h is = absurd h

pub last_keeps : (work : Path) (t u : Option Told) → IfSeen t (λ v. HasOnlyJournal v work) → ClearsRest work t u → KeepsBeside work t u
last_keeps work t u alone clears =
    from_to_more (λ a b. Went (IsAsBefore (apart_from work) a.state) (λ s e. ClearsBeside work e.call) a b) (λ a b. (s0 : State) → StandsStill work s0 a.state → Went (StandsBesideOld work s0) (λ s e. Unit {0}) a b) t u
    (λ a b is went s0 still.
    let gone = nothing_seen a.state (old_path work) ((alone (seen a.state) (subst (λ o. IsSeen o (seen a.state)) (sym is) refl)).others (codes "old") (λ e. cc e)) in
    went_more (IsLast work s0) (StandsBesideOld work s0) (λ s e. Unit {0}) (λ s e. Unit {0}) a b (λ s last. last.beside) (λ s e h. tt)
    (went_keeping (IsAsBefore (apart_from work) a.state) (IsLast work s0) (λ s e. ClearsBeside work e.call) a b (λ s e h here. last_step work s0 s e.call e.outcome h here) went (record { beside = still.beside; gone = gone }))) clears

-- ---- one after the other

pub keeps_then : (work : Path) (t u w : Option Told) → KeepsJournal work t u → KeepsJournal work u w → KeepsJournal work t w
keeps_then work t u w first later =
    from_to_on (λ a b. (s0 : State) → StandsStill work s0 a.state → Went (StandsStill work s0) (λ s e. Unit {0}) a b) (λ a b. (s0 : State) → StandsStill work s0 a.state → Went (StandsStill work s0) (λ s e. Unit {0}) a b)
    (λ a b. (s0 : State) → StandsStill work s0 a.state → Went (StandsStill work s0) (λ s e. Unit {0}) a b) t u w
    (λ a b c one two s0 still.
    let went : Went (StandsStill work s0) (λ s e. Unit {0}) a b = one s0 still in
    went_on (StandsStill work s0) (λ s e. Unit {0}) a b c went (two s0 (went_to (StandsStill work s0) (λ s e. Unit {0}) a b went))) first later

pub keeps_beside : (work : Path) (t u : Option Told) → KeepsJournal work t u → KeepsBeside work t u
keeps_beside work t u =
    from_to_more (λ a b. (s0 : State) → StandsStill work s0 a.state → Went (StandsStill work s0) (λ s e. Unit {0}) a b) (λ a b. (s0 : State) → StandsStill work s0 a.state → Went (StandsBesideOld work s0) (λ s e. Unit {0}) a b) t u
    (λ a b is keeps s0 still. went_more (StandsStill work s0) (StandsBesideOld work s0) (λ s e. Unit {0}) (λ s e. Unit {0}) a b (λ s here. here.beside) (λ s e h. tt) (keeps s0 still))

pub beside_then : (work : Path) (t u w : Option Told) → KeepsJournal work t u → KeepsBeside work u w → KeepsBeside work t w
beside_then work t u w first later =
    from_to_on (λ a b. (s0 : State) → StandsStill work s0 a.state → Went (StandsStill work s0) (λ s e. Unit {0}) a b) (λ a b. (s0 : State) → StandsStill work s0 a.state → Went (StandsBesideOld work s0) (λ s e. Unit {0}) a b)
    (λ a b. (s0 : State) → StandsStill work s0 a.state → Went (StandsBesideOld work s0) (λ s e. Unit {0}) a b) t u w
    (λ a b c one two s0 still.
    let went : Went (StandsStill work s0) (λ s e. Unit {0}) a b = one s0 still in
    went_on (StandsBesideOld work s0) (λ s e. Unit {0}) a b c (went_more (StandsStill work s0) (StandsBesideOld work s0) (λ s e. Unit {0}) (λ s e. Unit {0}) a b (λ s here. here.beside) (λ s e h. tt) went)
    (two s0 (went_to (StandsStill work s0) (λ s e. Unit {0}) a b went))) first later

-- nothing has changed
pub beside_same : (work : Path) (t u : Option Told) → u ≡ t → KeepsBeside work t u
beside_same work t u same =
    from_to_same (λ a b. (s0 : State) → StandsStill work s0 a.state → Went (StandsBesideOld work s0) (λ s e. Unit {0}) a b) t u same (λ a s0 still. went_nowhere (StandsBesideOld work s0) (λ s e. Unit {0}) a still.beside)

-- ---- from the first settle on

abbrev AtFirst : Path → State → State → Type 0
AtFirst work s0 s = (s ≡ s0) ⊎ StandsBesideOld work s0 s

pub settle_order : (work : Path) (t u : Option Told) (result : Result (Unit {0}) FolderFault) → Changes Settle t u result → KeepsInOrder work t u
settle_order work t u result changes =
    from_to_more (λ a b. Steps Settle a b result) (λ a b. Went (AtFirst work a.state) (λ s e. Unit {0}) a b) t u
    (λ a b is steps. went_by_call (AtFirst work a.state) (λ s e. Unit {0}) Settle a b result (inl refl) (λ allowed. inr (settled_still work a.state).beside) (λ added allowed. inl refl) (λ outcome. tt) steps) changes

pub order_then : (work : Path) (t u w : Option Told) (done : Unit {0}) → Changes Settle t u (Ok done) → KeepsBeside work u w → KeepsInOrder work t w
order_then work t u w done changes later =
    from_to_on (λ a b. Steps Settle a b (Ok done)) (λ a b. (s0 : State) → StandsStill work s0 a.state → Went (StandsBesideOld work s0) (λ s e. Unit {0}) a b) (λ a b. Went (AtFirst work a.state) (λ s e. Unit {0}) a b) t u w
    (λ a b c steps keeps.
    let still : StandsStill work a.state b.state = subst (λ (x : Told). StandsStill work a.state x.state) (sym steps.1) (settled_still work a.state) in
    went_on (AtFirst work a.state) (λ s e. Unit {0}) a b c
    (went_by_call (AtFirst work a.state) (λ s e. Unit {0}) Settle a b (Ok done) (inl refl) (λ allowed. inr (settled_still work a.state).beside) (λ added allowed. inl refl) (λ outcome. tt) steps)
    (went_more (StandsBesideOld work a.state) (AtFirst work a.state) (λ s e. Unit {0}) (λ s e. Unit {0}) b c (λ s here. inr here) (λ s e h. tt) (keeps a.state still))) changes later
