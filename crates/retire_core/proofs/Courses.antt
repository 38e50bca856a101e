-- Parts of a run of `retire`, one after the other.
use Rattle.std.proofs.Common.{IfOk, OnOk, ◌≡◌, ◌≢◌, ℕ, List, true, false, Option, Some, None, Result, Ok, Err, refl, sym, ap, ◌∙◌, inl, inr, subst, codes, bytes_eq, is_none, is_some, IsTrue}
use Rattle.folder_spec.proofs.Moments.{went_by_call, went_more, went_nowhere, went_on, went_to}
use Rattle.folder_spec.proofs.Regions.{seen_as_before}
use Rattle.folder_spec.proofs.Tellings.{from_to_more, from_to_on, from_to_same}
use Rattle.folder_spec.specs.declared.FolderFault.{FolderFault}
use Rattle.folder_spec.specs.Event.{Call, MakeDir, Create, Append, Sync, Settle, Rename, RemoveFile, RemoveDir, Changes, Done, Steps, Told, told_after}
use Rattle.folder_spec.specs.Moments.{Went}
use Rattle.folder_spec.specs.Path.{Part, Path, below, child}
use Rattle.folder_spec.specs.Region.{IsAsBefore, apart_from, apart_from_both, at_or_below}
use Rattle.folder_spec.specs.Seen.{IfSeen, IsSeen, seen}
use Rattle.folder_spec.specs.State.{State, IsSound}
use Rattle.folder_spec.specs.View.{FileOf, Folder, Found, NoEntry, Special, View, kind_found}
use Rattle.move_journal.specs.Journal.{IsJournal}
use Rattle.move_journal.specs.declared.journal.Journal.{Journal}
use Rattle.move_journal.specs.declared.journal.Phase.TheVariants as phase
use Rattle.move_journal.specs.Reading.{StandsIn}
use Rattle.migration_spec.proofs.Guards.{ImagesShow, RootsAreAlike}
use Rattle.migration_spec.specs.Alone.{KeepsGuarded}
use Rattle.migration_spec.specs.Guard.{Guarded, Migration, old_path}
use Rattle.folder_spec.specs.Apart.{AreApart}
use Rattle.vault_write.proofs.Runs.{went_with}
use Rattle.work_folder.specs.Entries.{HasNoForeign, is_foreign, journal_path}
use Rattle.work_folder.specs.Looking.{TestsEntries}
use Rattle.migration_spec.proofs.Entries.{entries_pass}
use Rattle.migration_spec.proofs.Settling.{SettlesGuarded, settle_then}
use Rattle.migration_spec.proofs.Tellings.{AreSound, folders_of}
use Rattle.retire_core.proofs.Cleared.{inside_work, isnt_eq}
use Rattle.retire_core.proofs.Going.{retiring_stays}
use Rattle.retire_core.specs.Clearing.{Clears, ClearsOnly, IsGone, IsInOrder, MovesAway, MovesHeld, MovesHeldOnly, MovesOnly}
use Rattle.retire_core.specs.Guarding.{ComesToRetiring, IsAtRest, KeepsFromRest, KeepsRetiring}
use Rattle.retire_core.specs.declared.fault.RetireFault.{RetireFault}
use Rattle.retire_core.specs.declared.retiring.Retired.{Retired}
use Rattle.retire_core.specs.Retiring.{HasRetired, IsHeld, MayEmpty, Removes, RemovesOnly, Retiring, Touches, TouchesOnly}
use Rattle.migration_spec.proofs.Staying.{Kind, stays_more, stays_on, stays_same, stays_settled}
use Rattle.migration_spec.proofs.Kept.{beside_both}

-- ---- the source is moved where the target holds it

pub held_moves : (r : Retiring) (t u : Option Told) → IfSeen t (λ v. IsHeld r v) → MovesOnly r.from r.work t u → MovesHeldOnly r t u
held_moves r t u held moves =
    let R = apart_from_both r.from r.work in
    from_to_more (λ a b. Went (IsAsBefore R a.state) (λ s e. MovesAway r.from r.work a.state s e.call) a b) (λ a b. Went (IsAsBefore R a.state) (λ s e. MovesHeld r a.state s e.call) a b) t u
    (λ a b is went. went_more (IsAsBefore R a.state) (IsAsBefore R a.state) (λ s e. MovesAway r.from r.work a.state s e.call) (λ s e. MovesHeld r a.state s e.call) a b
    (λ s h. h) (λ s e h. (h, held (seen a.state) (subst (λ o. IsSeen o (seen a.state)) (sym is) refl))) went) moves

pub held_same : (r : Retiring) (t u : Option Told) → u ≡ t → MovesHeldOnly r t u
held_same r = stays_same (apart_from_both r.from r.work) (λ s0 s e. MovesHeld r s0 s e.call)

-- ---- what is touched

moved_touches : (r : Retiring) (s0 s : State) (call : Call) → MovesHeld r s0 s call → Touches r s call
moved_touches r s0 s (Rename old new) h = (h.0.0, h.0.1, subst (IsHeld r) (sym h.0.2) h.1)
moved_touches r s0 s Settle h = tt
moved_touches r s0 s (MakeDir p) h = absurd h.0
moved_touches r s0 s (Create p) h = absurd h.0
moved_touches r s0 s (Append p piece) h = absurd h.0
moved_touches r s0 s (Sync p) h = absurd h.0
moved_touches r s0 s (RemoveFile p) h = absurd h.0
moved_touches r s0 s (RemoveDir p) h = absurd h.0

cleared_touches : (r : Retiring) (s0 s : State) (call : Call) → Clears r.work s0 call → Touches r s call
cleared_touches r s0 s (RemoveFile p) (inl at) = inside_work r.work (codes "old") p at.0
cleared_touches r s0 s (RemoveFile p) (inr beside) = beside.0
cleared_touches r s0 s (RemoveDir p) (inl at) = inside_work r.work (codes "old") p at.0
cleared_touches r s0 s (RemoveDir p) (inr beside) = beside.0
cleared_touches r s0 s Settle h = tt
cleared_touches r s0 s (MakeDir p) (inl at) = absurd at
cleared_touches r s0 s (MakeDir p) (inr beside) = absurd beside
cleared_touches r s0 s (Create p) (inl at) = absurd at
cleared_touches r s0 s (Create p) (inr beside) = absurd beside
cleared_touches r s0 s (Append p piece) (inl at) = absurd at
cleared_touches r s0 s (Append p piece) (inr beside) = absurd beside
cleared_touches r s0 s (Sync p) (inl at) = absurd at
cleared_touches r s0 s (Sync p) (inr beside) = absurd beside
cleared_touches r s0 s (Rename old new) (inl at) = absurd at
cleared_touches r s0 s (Rename old new) (inr beside) = absurd beside

pub touches_moved : (r : Retiring) (t u : Option Told) → MovesHeldOnly r t u → TouchesOnly r t u
touches_moved r t u =
    let R = apart_from_both r.from r.work in
    stays_more R R (λ s0 s e. MovesHeld r s0 s e.call) (λ s0 s e. Touches r s e.call) t u (λ q apart. apart) (λ s0 s e is. moved_touches r s0 s e.call is)

beside_work : (from work q : Path) → IsTrue (apart_from_both from work q) → IsTrue (apart_from work q)
beside_work from work q is = ap is_none (beside_both from work q is).1

pub touches_cleared : (r : Retiring) (t u w : Option Told) → MovesHeldOnly r t u → ClearsOnly r.work u w → TouchesOnly r t w
touches_cleared r t u w moves =
    stays_on (apart_from_both r.from r.work) (apart_from r.work) (λ s0 s e. Touches r s e.call) (λ s0 s e. Clears r.work s0 e.call) t u w (beside_work r.from r.work) (λ s0 s1 s e is. cleared_touches r s1 s e.call is)
    (touches_moved r t u moves)

-- ---- what is removed from `old`

moved_removes : (r : Retiring) (s0 s1 s : State) (call : Call) → MovesHeld r s1 s call → Removes r s0 s call
moved_removes r s0 s1 s (Rename old new) h = tt
moved_removes r s0 s1 s Settle h = tt
moved_removes r s0 s1 s (MakeDir p) h = tt
moved_removes r s0 s1 s (Create p) h = tt
moved_removes r s0 s1 s (Append p piece) h = tt
moved_removes r s0 s1 s (Sync p) h = tt
moved_removes r s0 s1 s (RemoveFile p) h = absurd h.0
moved_removes r s0 s1 s (RemoveDir p) h = absurd h.0

pub removes_moved : (r : Retiring) (t u : Option Told) → MovesHeldOnly r t u → RemovesOnly r t u
removes_moved r t u moves =
    let R = apart_from_both r.from r.work in
    from_to_more (λ a b. Went (IsAsBefore R a.state) (λ s e. MovesHeld r a.state s e.call) a b) (λ a b. Went (λ s. Unit {0}) (λ s e. Removes r a.state s e.call) a b) t u
    (λ a b is went. went_more (IsAsBefore R a.state) (λ s. Unit {0}) (λ s e. MovesHeld r a.state s e.call) (λ s e. Removes r a.state s e.call) a b
    (λ s h. tt) (λ s e h. moved_removes r a.state a.state s e.call h) went) moves

-- where the source was when the call began, and is no more
module _ (r : Retiring) (s0 s1 s : State) (apart : AreApart r.from r.work) (sound : IsSound s1) (done : r.phase ≡ phase.Done) (gone : seen s1 r.from ≡ NoEntry)
    (unmoved : seen s0 r.from ≡ NoEntry → s1 ≡ s0) (stayed : IsAsBefore (apart_from r.work) s1 s) where
  may_empty : seen s1 (old_path r.work) ≢ NoEntry → MayEmpty r s0 s
  may_empty there = by_source (seen s0 r.from) refl
    where
      gone_still : seen s r.from ≡ NoEntry
      gone_still = seen_as_before (apart_from r.work) s1 s sound stayed r.from (ap is_none apart.other) ∙ gone

      was : {x : Found} → seen s0 r.from ≡ x → x ≢ NoEntry → MayEmpty r s0 s
      was e isnt = inl ((λ none. isnt (sym e ∙ none)), gone_still)

      by_source : (x : Found) → seen s0 r.from ≡ x → MayEmpty r s0 s
      by_source NoEntry e = inr (subst (λ (z : State). seen z (old_path r.work) ≢ NoEntry) (unmoved e) there, e, done)
      by_source Folder e = was e (λ c. cc c)
      by_source (FileOf bytes) e = was e (λ c. cc c)
      by_source Special e = was e (λ c. cc c)

  not_beside : (p : Path) → below (old_path r.work) p ≡ None → IsTrue (at_or_below (old_path r.work) p) → ⊥
  not_beside p none inside = let isnt : at_or_below (old_path r.work) p ≡ false = ap is_some none in cc (isnt, inside)

  cleared_removes : (call : Call) → Clears r.work s1 call → Removes r s0 s call
  cleared_removes (RemoveFile p) (inl at) = λ inside. may_empty at.1
  cleared_removes (RemoveFile p) (inr beside) = λ inside. absurd (not_beside p beside.1 inside)
  cleared_removes (RemoveDir p) (inl at) = λ inside. may_empty at.1
  cleared_removes (RemoveDir p) (inr beside) = λ inside. absurd (not_beside p beside.1 inside)
  cleared_removes Settle h = tt
  cleared_removes (MakeDir p) h = tt
  cleared_removes (Create p) h = tt
  cleared_removes (Append p piece) h = tt
  cleared_removes (Sync p) h = tt
  cleared_removes (Rename old new) h = tt

pub removes_cleared : (r : Retiring) (t u w : Option Told) → AreApart r.from r.work → AreSound u → r.phase ≡ phase.Done → IsGone r.from u
    → IfSeen t (λ v. v r.from ≡ NoEntry → u ≡ t) → MovesHeldOnly r t u → ClearsOnly r.work u w → RemovesOnly r t w
removes_cleared r (Some a) (Some b) (Some c) apart sound done gone unmoved moves clears =
    went_on (λ s. Unit {0}) (λ s e. Removes r a.state s e.call) a b c (removes_moved r (Some a) (Some b) moves)
    (went_with (IsAsBefore (apart_from r.work) b.state) (λ s. Unit {0}) (λ s e. Clears r.work b.state e.call) (λ s e. Removes r a.state s e.call) b c
    (λ s h. tt) (λ s e stayed h. cleared_removes r a.state b.state s apart (sound b refl) done (gone (seen b.state) refl) (λ none. same (unmoved (seen a.state) refl none)) stayed e.call h) clears)
  where
    same : Some b ≡ Some a → b.state ≡ a.state
    same e = let is : b ≡ a = cc e in ap (λ (x : Told). x.state) is
removes_cleared r None None None apart sound done gone unmoved moves clears = tt
removes_cleared r None (Some b) w apart sound done gone unmoved moves clears = absurd moves
removes_cleared r (Some a) None w apart sound done gone unmoved moves clears = absurd moves
removes_cleared r None None (Some c) apart sound done gone unmoved moves clears = absurd clears
removes_cleared r (Some a) (Some b) None apart sound done gone unmoved moves clears = absurd clears

-- ---- guarded

pub rest_then : RootsAreAlike → ImagesShow → (g : Migration) (t u w : Option Told) → KeepsFromRest g t u → ComesToRetiring g t u → KeepsRetiring g u w → KeepsFromRest g t w
rest_then alike shown g (Some a) (Some b) (Some c) keeps comes goes = λ at. went_on (Guarded g) (λ s e. Unit {0}) a b c (keeps at) (retiring_stays alike shown g b c (goes (comes at)))
rest_then alike shown g None None None keeps comes goes = tt
rest_then alike shown g None (Some b) w keeps comes goes = absurd keeps
rest_then alike shown g (Some a) None w keeps comes goes = absurd keeps
rest_then alike shown g None None (Some c) keeps comes goes = absurd goes
rest_then alike shown g (Some a) (Some b) None keeps comes goes = absurd goes

-- a settle, and what follows it
at_rest : SettlesGuarded → (g : Migration) (a b : Told) → IsSound b.state → Guarded g a.state → b ≡ told_after a Settle Done → IsAtRest g b.state
at_rest settles g a b sound guarded is = record {
  sound = sound;
  guarded = subst (λ (c : Told). Guarded g c.state) (sym is) (settles g a.state guarded);
  settled = ap (λ (c : Told). c.state.later) is;
}

pub settle_goes : SettlesGuarded → (g : Migration) (t u w : Option Told) (done : Unit {0}) → AreSound u → Changes Settle t u (Ok done) → KeepsFromRest g u w → KeepsGuarded g t w
settle_goes settles g t u w done sound = settle_then settles (IsAtRest g) g t u w done (λ a b is is_then guarded. at_rest settles g a b (sound b is_then) guarded)

-- ---- a settle before the rest of the run

pub settle_touches : (r : Retiring) (t u : Option Told) (result : Result (Unit {0}) FolderFault) → Changes Settle t u result → TouchesOnly r t u
settle_touches r t u result = stays_settled (apart_from_both r.from r.work) (λ s0 s e. Touches r s e.call) t u result (λ s outcome. tt)

pub settle_removes : (r : Retiring) (t u : Option Told) (result : Result (Unit {0}) FolderFault) → Changes Settle t u result → RemovesOnly r t u
settle_removes r t u result changes =
    from_to_more (λ a b. Steps Settle a b result) (λ a b. Went (λ s. Unit {0}) (λ s e. Removes r a.state s e.call) a b) t u
    (λ a b is steps. went_by_call (λ s. Unit {0}) (λ s e. Removes r a.state s e.call) Settle a b result tt (λ allowed. tt) (λ added allowed. tt) (λ outcome. tt) steps) changes

pub touches_then : (r : Retiring) (t u w : Option Told) → TouchesOnly r t u → TouchesOnly r u w → TouchesOnly r t w
touches_then r t u w =
    let R = apart_from_both r.from r.work in
    let Q : Kind = λ s0 s e. Touches r s e.call in
    stays_on R R Q Q t u w (λ q apart. apart) (λ s0 s1 s e is. is)

-- the same is seen after it, so the same may be emptied
empty_seen : (r : Retiring) (s0 s1 s : State) → seen s1 ≡ seen s0 → MayEmpty r s1 s → MayEmpty r s0 s
empty_seen r s0 s1 s same (inl moved) = inl (subst (λ (v : View). v r.from ≢ NoEntry) same moved.0, moved.1)
empty_seen r s0 s1 s same (inr there) = inr (subst (λ (v : View). v (old_path r.work) ≢ NoEntry) same there.0, subst (λ (v : View). v r.from ≡ NoEntry) same there.1, there.2)

removes_seen : (r : Retiring) (s0 s1 s : State) (call : Call) → seen s1 ≡ seen s0 → Removes r s1 s call → Removes r s0 s call
removes_seen r s0 s1 s (RemoveFile p) same h = λ inside. empty_seen r s0 s1 s same (h inside)
removes_seen r s0 s1 s (RemoveDir p) same h = λ inside. empty_seen r s0 s1 s same (h inside)
removes_seen r s0 s1 s Settle same h = tt
removes_seen r s0 s1 s (MakeDir p) same h = tt
removes_seen r s0 s1 s (Create p) same h = tt
removes_seen r s0 s1 s (Append p piece) same h = tt
removes_seen r s0 s1 s (Sync p) same h = tt
removes_seen r s0 s1 s (Rename old new) same h = tt

pub removes_settled : (r : Retiring) (t u w : Option Told) (done : Unit {0}) → Changes Settle t u (Ok done) → RemovesOnly r u w → RemovesOnly r t w
removes_settled r t u w done changes removes =
    from_to_on (λ a b. Steps Settle a b (Ok done)) (λ a b. Went (λ s. Unit {0}) (λ s e. Removes r a.state s e.call) a b) (λ a b. Went (λ s. Unit {0}) (λ s e. Removes r a.state s e.call) a b) t u w
    (λ a b c steps two.
    went_on (λ s. Unit {0}) (λ s e. Removes r a.state s e.call) a b c
    (went_by_call (λ s. Unit {0}) (λ s e. Removes r a.state s e.call) Settle a b (Ok done) tt (λ allowed. tt) (λ added allowed. tt) (λ outcome. tt) steps)
    (went_more (λ s. Unit {0}) (λ s. Unit {0}) (λ s e. Removes r b.state s e.call) (λ s e. Removes r a.state s e.call) b c (λ s h. tt)
    (λ s e h. removes_seen r a.state b.state s e.call (ap (λ (x : Told). seen x.state) steps.1) h) two)) changes removes

-- ---- the work folder

-- where nothing is foreign, what isn't named here isn't there
pub none_else : (v : View) (work : Path) → HasNoForeign true v work → (name : Part) → name ≢ codes "journal" → name ≢ codes "journal.new" → name ≢ codes "stage" → name ≢ codes "old" → v (child work name) ≡ NoEntry
none_else v work none name journal new stage old = by_found (v (child work name)) refl
  where
    isnt : (other : Part) → name ≢ other → bytes_eq name other ≡ false
    isnt other apart = isnt_eq other name (λ same. apart (sym same))

    foreign : {x : Found} → v (child work name) ≡ x → is_foreign true name (kind_found x) ≡ true → ⊥
    foreign e is = none name (ap (λ y. is_foreign true name (kind_found y)) e ∙ is)

    by_found : (x : Found) → v (child work name) ≡ x → v (child work name) ≡ NoEntry
    by_found NoEntry e = e
    by_found (FileOf bytes) e = absurd (foreign e (rw (isnt (codes "journal") journal, isnt (codes "journal.new") new) refl))
    by_found Folder e = absurd (foreign e (rw (isnt (codes "stage") stage, isnt (codes "old") old) refl))
    by_found Special e = absurd (foreign e refl)

pub in_order : (t : Option Told) → AreSound t → IfSeen t (λ v. (work : Path) (text : List ℕ) → v (journal_path work) ≡ FileOf text → TestsEntries true v work (Ok tt) → IsInOrder v work)
in_order t sound v is work text stands tests = record {
  folder = folders_of t sound v is work (codes "journal") (λ none. clash (sym none ∙ stands));
  journal = (text, stands);
  others = none_else v work (entries_pass true v work tests);
}
  where
    clash : NoEntry ≡ FileOf text → ⊥
    clash e = cc e

-- ---- nothing has changed

pub touches_same : (r : Retiring) (t u : Option Told) → u ≡ t → TouchesOnly r t u
touches_same r = stays_same (apart_from_both r.from r.work) (λ s0 s e. Touches r s e.call)

pub removes_same : (r : Retiring) (t u : Option Told) → u ≡ t → RemovesOnly r t u
removes_same r t u same =
    from_to_same (λ a b. Went (λ s. Unit {0}) (λ s e. Removes r a.state s e.call) a b) t u same (λ a. went_nowhere (λ s. Unit {0}) (λ s e. Removes r a.state s e.call) a tt)

-- ---- at the end

-- what is apart from the work folder is still gone
pub gone_still : (from work : Path) (u w : Option Told) → AreApart from work → AreSound u → ClearsOnly work u w → IsGone from u → IsGone from w
gone_still from work (Some b) (Some c) apart sound clears gone v is =
    ap (λ (x : View). x from) is
    ∙ seen_as_before (apart_from work) b.state c.state (sound b refl) (went_to (IsAsBefore (apart_from work) b.state) (λ s e. Clears work b.state e.call) b c clears) from (ap is_none apart.other)
    ∙ gone (seen b.state) refl
gone_still from work None (Some c) apart sound clears gone v is = absurd clears
gone_still from work u None apart sound clears gone v is = absurd is

pub retired_by : (work : Path) (journal : Journal) (t u : Option Told) (result : Result Retired RetireFault) → IsJournal journal → journal.phase ≡ phase.Done → IfSeen t (λ v. StandsIn work journal v)
    → OnOk result (IsGone journal.source u) → OnOk result (IsGone work u) → IfOk result (λ x. x.items ≡ journal.items) → IfOk result (λ x. IfSeen t (λ v. HasRetired work x.items u v))
retired_by work journal t u (Ok x) is done stands source folder items = λ v seen_now.
    record { journal = journal; is = is; phase = done; stands = stands v seen_now; items = items; source_gone = source; work_gone = folder }
retired_by work journal t u (Err fault) is done stands source folder items = tt

pub retired_earlier : (work : Path) (t u w : Option Told) (result : Result Retired RetireFault) → IfSeen t (λ v. IsSeen u v)
    → IfOk result (λ x. IfSeen u (λ v. HasRetired work x.items w v)) → IfOk result (λ x. IfSeen t (λ v. HasRetired work x.items w v))
retired_earlier work t u w (Ok x) earlier has = λ v is. has v (earlier v is)
retired_earlier work t u w (Err fault) earlier has = tt
