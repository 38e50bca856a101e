-- That what a migration has done lasts: how its parts tell of the journal, of what is left in the work folder, and of its end.
use Rattle.std.proofs.Common.{◌≡◌, ℕ, ◌<◌, ◌≤◌, ◌⊎◌, Bool, List, [], ◌∷◌, Option, Some, None, Result, Ok, Err, IfOk, OnOk, refl, sym, ap, ◌∙◌, inl, inr, subst, arith, IsTrue}
use Rattle.folder_spec.proofs.Moments.{went_by_call, went_more, went_nowhere, went_on, went_to}
use Rattle.folder_spec.proofs.Regions.{seen_as_before}
use Rattle.folder_spec.proofs.Seen.{file_seen, one_view}
use Rattle.folder_spec.proofs.Tables.{present_is_table}
use Rattle.folder_spec.proofs.Tellings.{from_to_more, from_to_same}
use Rattle.folder_spec.specs.declared.FolderFault.{FolderFault}
use Rattle.folder_spec.specs.declared.Spot.TheVariants.{FileNode}
use Rattle.folder_spec.specs.Event.{Changes, Event, FromTo, Settle, Steps, Told, after, changed}
use Rattle.folder_spec.specs.Moments.{EachEvent, EachState, Moments, Went}
use Rattle.folder_spec.specs.Path.{Path}
use Rattle.folder_spec.specs.Region.{IsAsBefore}
use Rattle.folder_spec.specs.Replace.{IsNewFile}
use Rattle.folder_spec.specs.Seen.{IfSeen, IsSeen, seen, under}
use Rattle.folder_spec.specs.State.{Node, State, Table, IsAmong, IsSound, IsTableOf, present}
use Rattle.folder_spec.specs.View.{FileOf, View, found}
use Rattle.migration_sides.proofs.Lasting.{settle_lasts}
use Rattle.migration_sides.specs.Lasting.{Lasts}
use Rattle.migration_spec.proofs.Settling.{SettlesGuarded, settle_fell, settle_seen, settle_seen_back}
use Rattle.migration_spec.proofs.Staying.{Kind}
use Rattle.migration_spec.proofs.Tellings.{AreSound}
use Rattle.migration_spec.specs.Alone.{Progress, Finished, IsAlone}
use Rattle.migration_spec.specs.Guard.{HoldsAll, Migration}
use Rattle.move_journal.proofs.Standing as standing
use Rattle.move_journal.specs.Journal.{journal_text}
use Rattle.move_journal.specs.Reading.{StandsIn}
use Rattle.move_journal.specs.Writing.{HasWritten, IsWriting, PutsOnce, Writes, WritesOnce, elsewhere}
use Rattle.move_journal.specs.declared.journal.Journal.{Journal}
use Rattle.move_journal.specs.declared.journal.Phase.TheVariants.{Building}
use Rattle.work_folder.specs.Entering.{IsReady}
use Rattle.work_folder.specs.Entries.{journal_path, new_journal_path}
use Rattle.migrate_core.proofs.Leadings.{if_ok}
use Rattle.migrate_core.proofs.Planned.{SeenAlone}
use Rattle.migrate_core.proofs.Settled.{SettlesAlone, settled_at}
use Rattle.migrate_core.proofs.Movings.{under_stays}
use Rattle.migrate_core.proofs.WorkFolders.{elsewhere_at, ready_stays, writing_as, written_beside}
use Rattle.migrate_core.specs.Lasting.{Clears, ClearsReady, ComesLast, Finishes, FinishesSettled, KeepsEachJournal, KeepsJournal, KeepsText, KeepsTexts, StaysBeside}
use Rattle.migrate_core.specs.Leading.{FinishesFrom, Goes, IsSettled, Leads}
use Rattle.migrate_core.specs.Moved.{done_of}
use Rattle.migrate_core.specs.Moving.{MovesBeside}

-- ---- answers

pub on_ok_more : {T E : Type 0} (P Q : Type 0) (result : Result T E) → (P → Q) → OnOk result P → OnOk result Q
on_ok_more P Q (Ok value) more h = more h
on_ok_more P Q (Err fault) more h = tt

pub on_ok_by : {T E : Type 0} (P : Type 0) (result : Result T E) → ((value : T) → result ≡ Ok value → P) → OnOk result P
on_ok_by P (Ok value) is = is value refl
on_ok_by P (Err fault) is = tt

pub leads_of : {T E : Type 0} (g : Migration) (p q : Progress) (t u : Option Told) (result : Result T E) (value : T) → result ≡ Ok value → Goes g p q t u result → Leads g p q t u
leads_of g p q t u (Ok other) value is goes = goes.1
leads_of g p q t u (Err fault) value is goes = absurd (cc is)

-- ---- a run

-- more is known of each state and of each event at a state of which so much is
pub went_known : (P P' : State → Type 0) (Q Q' : State → Event → Type 0) (a b : Told)
    → ((s : State) → P s → P' s) → ((s : State) (e : Event) → P s → Q s e → Q' s e) → Went P Q a b → Went P' Q' a b
went_known P P' Q Q' a b more_state more_event h = record {
  events = h.events;
  log = h.log;
  state = h.state;
  states = states_more a.state h.events h.states;
  each = events_more a.state h.events h.states h.each;
  allowed = h.allowed;
}
  where
    states_more : (s : State) (es : List Event) → EachState P s es → EachState P' s es
    states_more s [] k = more_state s k
    states_more s (e ∷ es) k = (more_state s k.0, states_more (after s e) es k.1)

    events_more : (s : State) (es : List Event) → EachState P s es → EachEvent Q s es → EachEvent Q' s es
    events_more s [] k each = tt
    events_more s (e ∷ es) k each = (more_event s e k.0 each.0, events_more (after s e) es k.1 each.1)

-- ---- the journal

-- what a table of then has wasn't made since
pub made_then : (s0 : State) (u : Table) (p : Path) (n : ℕ) → IsSound s0 → IsTableOf s0 u → u p ≡ FileNode n → s0.made ≤ n → ⊥
made_then s0 u p n sound among is new = let old : n < s0.made = (sound.tables u among).is_made p n is in absurd (omega (arith, old, new))

-- while there stands what stood at first, nothing says that all is done
pub none_said : (work : Path) (journal : Journal) (s0 s : State) → IsSound s0 → KeepsText (λ v. ⊥) work journal s0 s → IsNewFile (journal_text (done_of journal)) s0 s (present s (journal_path work)) → ⊥
none_said work journal s0 s sound kept new = elim (kept.tables (present s) (present_is_table s)) [
  | inl there ↦ made_then s0 there.0 (journal_path work) new.number sound there.1 (sym there.2 ∙ new.is) new.new
  | inr other ↦ absurd other.2
]

-- more may be so then
text_more : (P Q : View → Type 0) (work : Path) (journal : Journal) (s0 s : State) → (P (seen s) → Q (seen s)) → KeepsText P work journal s0 s → KeepsText Q work journal s0 s
text_more P Q work journal s0 s more kept = record {
  tables = λ t among. elim (kept.tables t among) [ inl same ↦ inl same | inr new ↦ inr (new.0, new.1, more new.2) ];
  nodes = kept.nodes;
  made = kept.made;
}

pub texts_more : (P Q : View → Type 0) (work : Path) (journal : Journal) (t u : Option Told) → ((a : Told) → t ≡ Some a → (w : View) → P w → Q w) → KeepsTexts P work journal t u → KeepsTexts Q work journal t u
texts_more P Q work journal t u more =
    from_to_more (λ a b. Went (KeepsText P work journal a.state) (λ s e. ComesLast work journal a.state s e.call) a b) (λ a b. Went (KeepsText Q work journal a.state) (λ s e. ComesLast work journal a.state s e.call) a b) t u
    (λ a b is went. went_more (KeepsText P work journal a.state) (KeepsText Q work journal a.state) (λ s e. ComesLast work journal a.state s e.call) (λ s e. ComesLast work journal a.state s e.call) a b
    (λ s kept. text_more P Q work journal a.state s (more a is (seen s)) kept) (λ s e last. last) went)

module _ (Is : View → Type 0) (work : Path) (journal : Journal) where
  abbrev Says : Type 0
  Says = journal.phase ≡ Building

  abbrev text : List ℕ
  text = journal_text (done_of journal)

  abbrev at : Path
  at = journal_path work

  -- what stays in a region stays there
  text_by_region : (region : Path → Bool) → IsTrue (region at) → (s0 s : State) → IsAsBefore region s0 s → KeepsText Is work journal s0 s
  text_by_region region inside s0 s stayed = record {
    tables = λ t among. let there : (u : Table) × IsTableOf s0 u × ((q : Path) → IsTrue (region q) → t q ≡ u q) = stayed.tables t among in inl (there.0, there.1, there.2 at inside);
    nodes = stayed.nodes;
    made = stayed.made;
  }

  none_by_region : (region : Path → Bool) → IsTrue (region at) → (s0 s : State) → IsSound s0 → IsAsBefore region s0 s → IsNewFile text s0 s (present s at) → ⊥
  none_by_region region inside s0 s sound stayed new = made_then s0 (present s0) at new.number sound (present_is_table s0) (sym (stayed.seen at inside) ∙ new.is) new.new

  pub texts_by_region : (region : Path → Bool) (Q : Kind) (t u : Option Told) → IsTrue (region at) → AreSound t → Moments (IsAsBefore region) Q t u → KeepsTexts Is work journal t u
  texts_by_region region Q t u inside sound =
      from_to_more (λ a b. Went (IsAsBefore region a.state) (Q a.state) a b) (λ a b. Went (KeepsText Is work journal a.state) (λ s e. ComesLast work journal a.state s e.call) a b) t u
      (λ a b is went. went_known (IsAsBefore region a.state) (KeepsText Is work journal a.state) (Q a.state) (λ s e. ComesLast work journal a.state s e.call) a b (λ s stayed. text_by_region region inside a.state s stayed)
      (λ s e stayed h new. absurd (none_by_region region inside a.state s (sound a is) stayed new)) went)

  -- or that all is done is written there, while it is so of whatever has stayed beside the work folder
  pub texts_written : (t u : Option Told) → AreSound t → ((w : View) → StaysBeside work t w → Is w) → Says → WritesOnce work (done_of journal) t u → KeepsTexts Is work journal t u
  texts_written t u sound is_so says =
      from_to_more (λ a b. Went (IsWriting work text a.state) (λ s e. PutsOnce work a.state s e.call) a b) (λ a b. Went (KeepsText Is work journal a.state) (λ s e. ComesLast work journal a.state s e.call) a b) t u
      (λ a b is went. went_more (IsWriting work text a.state) (KeepsText Is work journal a.state) (λ s e. PutsOnce work a.state s e.call) (λ s e. ComesLast work journal a.state s e.call) a b
      (λ s writing. by_writing a s is writing) (λ s e once new. once new.number new.is new.new) went)
    where
      beside : (a : Told) (s : State) → t ≡ Some a → IsWriting work text a.state s → StaysBeside work t (seen s)
      beside a s here writing v root is_v apart =
          under_stays (elsewhere work) root a.state s (sound a here) (elsewhere_at work root apart) (writing_as work text a.state s writing)
          ∙ ap (under root) (sym (subst (λ o. IsSeen o v) here is_v))

      by_writing : (a : Told) (s : State) → t ≡ Some a → IsWriting work text a.state s → KeepsText Is work journal a.state s
      by_writing a s here writing = record {
        tables = λ x among. let old = writing.journal.tables x among in elim old.3 [ inl same ↦ inl (old.0, old.1, same) | inr new ↦ inr (says, new, is_so (seen s) (beside a s here writing)) ];
        nodes = writing.journal.nodes;
        made = writing.journal.made;
      }

  abbrev Kept : (s0 s : State) → Table → Type 0
  Kept s0 s t = ((u : Table) × IsTableOf s0 u × (t at ≡ u at)) ⊎ (Says × IsNewFile text s0 s (t at) × Is (seen s))

  -- one after the other, of which the first brings nothing there
  text_then : (s0 s1 s : State) → KeepsText (λ v. ⊥) work journal s0 s1 → KeepsText Is work journal s1 s → KeepsText Is work journal s0 s
  text_then s0 s1 s first later = record {
    tables = λ t among. elim (later.tables t among) [
      | inl earlier ↦ before t earlier.0 earlier.2 (first.tables earlier.0 earlier.1)
      | inr new ↦ inr (new.0, record { number = new.1.number; is = new.1.is; new = (let one : s0.made ≤ s1.made = first.made in let two : s1.made ≤ new.1.number = new.1.new in omega (arith, one, two)); holds = new.1.holds }, new.2)
    ];
    nodes = λ n old. later.nodes n (let grown : s0.made ≤ s1.made = first.made in omega (arith, old, grown)) ∙ first.nodes n old;
    made = (let one : s0.made ≤ s1.made = first.made in let two : s1.made ≤ s.made = later.made in omega (arith, one, two));
  }
    where
      before : (t u : Table) → t at ≡ u at → ((x : Table) × IsTableOf s0 x × (u at ≡ x at)) ⊎ (Says × IsNewFile text s0 s1 (u at) × ⊥) → Kept s0 s t
      before t u same (inl there) = inl (there.0, there.1, same ∙ there.2)
      before t u same (inr new) = absurd new.2

  -- of which nothing is there that was made since the first began, but what was made since the later one
  said_later : (s0 s1 s : State) → IsSound s0 → KeepsText (λ v. ⊥) work journal s0 s1 → KeepsText Is work journal s1 s → IsNewFile text s0 s (present s at) → IsNewFile text s1 s (present s at)
  said_later s0 s1 s sound first later new = elim (later.tables (present s) (present_is_table s)) [
    | inl there ↦ absurd (before there.0 (sym there.2 ∙ new.is) (first.tables there.0 there.1))
    | inr other ↦ other.1
  ]
    where
      before : (u : Table) → u at ≡ FileNode new.number → ((x : Table) × IsTableOf s0 x × (u at ≡ x at)) ⊎ (Says × IsNewFile text s0 s1 (u at) × ⊥) → ⊥
      before u is (inl there) = made_then s0 there.0 at new.number sound there.1 (sym there.2 ∙ is) new.new
      before u is (inr none) = none.2

  pub keeps_then : (t u w : Option Told) → AreSound t → KeepsTexts (λ v. ⊥) work journal t u → KeepsTexts Is work journal u w → KeepsTexts Is work journal t w
  keeps_then None None None sound first later = tt
  keeps_then (Some a) (Some b) (Some c) sound first later =
      let before = went_to (KeepsText (λ v. ⊥) work journal a.state) (λ s e. ComesLast work journal a.state s e.call) a b first in
      went_on (KeepsText Is work journal a.state) (λ s e. ComesLast work journal a.state s e.call) a b c
      (went_more (KeepsText (λ v. ⊥) work journal a.state) (KeepsText Is work journal a.state) (λ s e. ComesLast work journal a.state s e.call) (λ s e. ComesLast work journal a.state s e.call) a b
      (λ s kept. text_more (λ v. ⊥) Is work journal a.state s (λ none. absurd none) kept) (λ s e last. last) first)
      (went_known (KeepsText Is work journal b.state) (KeepsText Is work journal a.state) (λ s e. ComesLast work journal b.state s e.call) (λ s e. ComesLast work journal a.state s e.call) b c
      (λ s kept. text_then a.state b.state s before kept) (λ s e kept last new. last (said_later a.state b.state s (sound a refl) before kept new)) later)
  keeps_then None (Some b) w sound first later = absurd first
  keeps_then (Some a) None w sound first later = absurd first
  keeps_then None None (Some c) sound first later = absurd later
  keeps_then (Some a) (Some b) None sound first later = absurd later

  text_same : (s : State) → KeepsText Is work journal s s
  text_same s = record { tables = λ t among. inl (t, among, refl); nodes = λ n old. refl; made = omega arith }

  -- nothing has changed
  pub texts_same : (t u : Option Told) → u ≡ t → KeepsTexts Is work journal t u
  texts_same t u same =
      from_to_same (λ a b. Went (KeepsText Is work journal a.state) (λ s e. ComesLast work journal a.state s e.call) a b) t u same
      (λ a. went_nowhere (KeepsText Is work journal a.state) (λ s e. ComesLast work journal a.state s e.call) a (text_same a.state))

  -- a settle
  text_settled : (s : State) → KeepsText Is work journal s (changed s Settle)
  text_settled s = record {
    tables = λ t among. elim among as (λ _. Kept s (changed s Settle) t) [
      | inl same ↦ inl (present s, present_is_table s, ap (λ (x : Table). x at) same)
      | inr none ↦ absurd none
    ];
    nodes = λ n old. refl;
    made = omega arith;
  }

  pub texts_settled : (t u : Option Told) (result : Result (Unit {0}) FolderFault) → Changes Settle t u result → KeepsTexts Is work journal t u
  texts_settled t u result =
      from_to_more (λ a b. Steps Settle a b result) (λ a b. Went (KeepsText Is work journal a.state) (λ s e. ComesLast work journal a.state s e.call) a b) t u
      (λ a b is steps. went_by_call (KeepsText Is work journal a.state) (λ s e. ComesLast work journal a.state s e.call) Settle a b result (text_same a.state) (λ allowed. text_settled a.state) (λ added allowed. text_same a.state)
      (λ outcome new. tt) steps)

  -- behind a settle a read finds it
  stands_by : (s0 s : State) → IsSound s0 → s0.later ≡ [] → StandsIn work journal (seen s0) → KeepsText Is work journal s0 s → StandsIn work journal (seen s) ⊎ StandsIn work (done_of journal) (seen s)
  stands_by s0 s sound settled stands kept = elim (kept.tables (present s) (present_is_table s)) [
    | inl there ↦ inl (standing.stands_alike work journal (seen s) (seen s0) (same_seen (there.2 ∙ ap (λ (x : Table). x at) (only s0.later settled there.0 there.1))) stands)
    | inr new ↦ inr (standing.written_stands work (seen s) (done_of journal) (ap (found (λ n. (s.nodes n).now)) new.1.is ∙ ap (λ (node : Node). FileOf node.now) new.1.holds))
  ]
    where
      only : (us : List Table) → us ≡ [] → (t : Table) → IsAmong t (s0.kept ∷ us) → t ≡ present (record s0 { later = us })
      only [] e t (inl is) = is
      only [] e t (inr none) = absurd none
      only (u ∷ us) e t among = absurd (cc e)

      same_seen : present s at ≡ present s0 at → seen s at ≡ seen s0 at
      same_seen same =
          let there : (n : ℕ) × (present s0 at ≡ FileNode n) = file_seen (λ n. (s0.nodes n).now) (present s0 at) stands.text stands.file in
          ap (found (λ n. (s.nodes n).now)) (same ∙ there.1)
          ∙ ap (λ (node : Node). FileOf node.now) (kept.nodes there.0 ((sound.tables (present s0) (present_is_table s0)).is_made at there.0 there.1))
          ∙ sym (ap (found (λ n. (s0.nodes n).now)) there.1)

  pub journal_kept : (t u w : Option Told) (done : Unit {0}) (v : View) → AreSound t → AreSound u → IsSeen t v → StandsIn work journal v → Changes Settle t u (Ok done) → KeepsTexts (λ x. ⊥) work journal t u
      → KeepsTexts Is work journal u w → KeepsJournal Is work journal t w
  journal_kept (Some a) (Some b) (Some c) done v sound sound_after is stands changes settled kept = record {
    moments = keeps_then (Some a) (Some b) (Some c) sound settled kept;
    stands = λ x is_x. subst (λ y. StandsIn work journal y ⊎ StandsIn work (done_of journal) y) (sym is_x)
        (stands_by b.state c.state (sound_after b refl) (settle_lasts (Some a) (Some b) done changes)
        (subst (StandsIn work journal) (settle_seen (Some a) (Some b) done changes v is) stands)
        (went_to (KeepsText Is work journal b.state) (λ s e. ComesLast work journal b.state s e.call) b c kept));
  }
  journal_kept None u w done v sound sound_after is stands changes settled kept = absurd is
  journal_kept (Some a) None w done v sound sound_after is stands changes settled kept = absurd changes
  journal_kept (Some a) (Some b) None done v sound sound_after is stands changes settled kept = absurd kept

  pub journal_fell : (t u : Option Told) (result : Result (Unit {0}) FolderFault) (v : View) → IsSeen t v → StandsIn work journal v → Changes Settle t u result → KeepsJournal Is work journal t u
  journal_fell t u result v is stands changes = record {
    moments = texts_settled t u result changes;
    stands = λ x is_x. inl (subst (StandsIn work journal) (one_view t v x is (settle_seen_back t u result changes x is_x)) stands);
  }

-- more may be so while each journal stands
pub journals_more : (P Q : View → Journal → View → Type 0) (work : Path) (t u : Option Told) → ((v : View) (journal : Journal) → IsSeen t v → (w : View) → P v journal w → Q v journal w) → KeepsEachJournal P work t u → KeepsEachJournal Q work t u
journals_more P Q work t u more kept v journal is good stands =
    let keeps = kept v journal is good stands in
    record { moments = texts_more (P v journal) (Q v journal) work journal t u (λ a here. more v journal is) keeps.moments; stands = keeps.stands }

-- ---- what is left in the work folder

pub written_lasts : (work : Path) (j : Journal) (t u : Option Told) → HasWritten work j t u → Lasts u
written_lasts work j (Some a) (Some b) written = written.replaced.settled
written_lasts work j None (Some b) written = absurd written
written_lasts work j t None written = tt

module _ (work : Path) where
  -- nothing has changed
  pub cleared_same : (t u : Option Told) → IfSeen u (λ w. IsSeen t w) → ClearsReady work t u
  cleared_same t u back v w is is_w ready =
      let same : v ≡ w = one_view t v w is (back w is_w) in
      record { ready = subst (λ x. IsReady x work) same ready; new_journal = inr (ap (λ (x : View). x (new_journal_path work)) (sym same)) }

  -- a journal was written
  pub cleared_written : (j : Journal) (t u : Option Told) → AreSound t → Writes work j t u → HasWritten work j t u → ClearsReady work t u
  cleared_written j (Some a) (Some b) sound writes written v w is is_w ready = record {
    ready = ready_stays work (Some a) (Some b) sound (written_beside work j (Some a) (Some b) writes) (λ x is_x. subst (λ y. IsReady y work) (is ∙ sym is_x) ready) w is_w;
    new_journal = inl (ap (λ (x : View). x (new_journal_path work)) is_w ∙ ap (found (λ n. (b.state.nodes n).now)) written.new_journal);
  }
  cleared_written j None u sound writes written v w is is_w ready = absurd is
  cleared_written j (Some a) None sound writes written v w is is_w ready = absurd is_w

  -- `journal.new` stays where its path is as before
  pub clears_later : (region : Path → Bool) (t u w : Option Told) → IsTrue (region (new_journal_path work)) → AreSound t → FromTo (λ a b. IsAsBefore region a.state b.state) t u → Clears work u w → Clears work t w
  clears_later region (Some a) (Some b) w inside sound stayed clears v x is is_x =
      let later = clears (seen b.state) x refl is_x in
      record {
        ready = later.ready;
        new_journal = elim later.new_journal [
          | inl none ↦ inl none
          | inr same ↦ inr (same ∙ seen_as_before region a.state b.state (sound a refl) stayed (new_journal_path work) inside ∙ ap (λ (y : View). y (new_journal_path work)) (sym is))
        ];
      }
  clears_later region None u w inside sound stayed clears v x is is_x = absurd is
  clears_later region (Some a) None w inside sound stayed clears v x is is_x = absurd stayed

  -- and the stage was made ready
  pub cleared_later : (region : Path → Bool) (t u w : Option Told) → IsTrue (region (new_journal_path work)) → AreSound t → FromTo (λ a b. IsAsBefore region a.state b.state) t u
      → IfSeen u (λ v. IsReady v work) → ClearsReady work u w → Clears work t w
  cleared_later region t u w inside sound stayed ready clears = clears_later region t u w inside sound stayed (λ v x is is_x. clears v x is is_x (ready v is))

  -- behind a settle
  pub clears_settled : (t u w : Option Told) → IfSeen t (λ v. IsSeen u v) → Clears work u w → Clears work t w
  clears_settled t u w known clears v x is is_x = clears v x (known v is) is_x

-- ---- the end

-- what is found of a settled migration leads it to its end
pub settled_ends : (work : Path) (region : Path → Bool) (root : Path) (g : Migration) (p : Progress) (t u : Option Told) → MovesBeside region work root t u
    → ((a : Told) → t ≡ Some a → IsSettled g a.state → IsAlone g p a.state × Leads g p Finished t u) → FinishesSettled g t u
settled_ends work region root g p None None went known = tt
settled_ends work region root g p (Some a) (Some b) went known = λ settled. let found = known a refl settled in found.1 found.0
settled_ends work region root g p None (Some b) went known = absurd went
settled_ends work region root g p (Some a) None went known = absurd went

pub settle_ends : SettlesGuarded → SettlesAlone → (g : Migration) (t u w : Option Told) (done : Unit {0}) → AreSound t → AreSound u → Changes Settle t u (Ok done) → FinishesSettled g u w → Finishes g t w
settle_ends settles alone g (Some a) (Some b) (Some c) done sound sound_after changes ends = λ guarded. ends (settled_at settles alone g a b (sound a refl) (sound_after b refl) guarded changes.1)
settle_ends settles alone g None None None done sound sound_after changes ends = tt
settle_ends settles alone g None (Some b) w done sound sound_after changes ends = absurd changes
settle_ends settles alone g (Some a) None w done sound sound_after changes ends = absurd changes
settle_ends settles alone g None None (Some c) done sound sound_after changes ends = absurd ends
settle_ends settles alone g (Some a) (Some b) None done sound sound_after changes ends = absurd ends

-- a migration that is done stays so through a settle
pub settle_finishes : SettlesGuarded → SettlesAlone → SeenAlone → (g : Migration) (t u : Option Told) (result : Result (Unit {0}) FolderFault) → Changes Settle t u result → FinishesFrom g Finished t u result
settle_finishes settles alone shown g (Some a) (Some b) result changes = (λ at holds. settle_fell settles g (Some a) (Some b) result changes at.guarded, then_ result changes)
  where
    then_ : (result : Result (Unit {0}) FolderFault) → Changes Settle (Some a) (Some b) result → IfOk result (λ value. IsAlone g Finished a.state → HoldsAll g (seen a.state) → IsAlone g Finished b.state)
    then_ (Ok done) changes = λ at holds. subst (λ (c : Told). IsAlone g Finished c.state) (sym changes.1) (alone g Finished a.state at.sound at.guarded (shown g Finished a.state at))
    then_ (Err fault) changes = tt
settle_finishes settles alone shown g None None result changes = (tt, if_ok (Unit {0}) result tt)
settle_finishes settles alone shown g None (Some b) result changes = absurd changes
settle_finishes settles alone shown g (Some a) None result changes = absurd changes
