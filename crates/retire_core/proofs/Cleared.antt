-- What is removed of a work folder, call by call, and what is seen of it then.
use Rattle.std.proofs.Common.{◌≡◌, ◌≢◌, ℕ, Bool, true, false, [], ◌∷◌, Option, Some, None, Result, Ok, Err, OnOk, refl, sym, ap, ◌∙◌, inl, inr, subst, append-nil, append_assoc, codes, bytes_eq, is_none, is_some, IsTrue, arith}
use Rattle.std.proofs.lemmas.Slice.Eq.{bytes_eq-Decides}
use Rattle.folder_spec.proofs.Moments.{went_by_call, went_more, went_to}
use Rattle.folder_spec.proofs.Paths.{below-both, child-apart, child-last, path_eq-apart, path_eq-same}
use Rattle.folder_spec.proofs.Regions.{as_before, as_before_on, seen_as_before}
use Rattle.folder_spec.proofs.Seen.{may_call_allowed, seen_changed}
use Rattle.folder_spec.proofs.Tellings.{from_to_more}
use Rattle.folder_spec.specs.declared.FolderFault.{FolderFault}
use Rattle.folder_spec.specs.Event.{Call, MakeDir, Create, Append, Sync, Settle, Rename, RemoveFile, RemoveDir, Allowed, Changes, Steps, Told}
use Rattle.folder_spec.specs.Moments.{Went}
use Rattle.folder_spec.specs.Path.{Part, Path, below, child}
use Rattle.folder_spec.specs.Region.{IsAsBefore, Spares, WritesOnlyNew, apart_from, at_or_below}
use Rattle.folder_spec.specs.Seen.{IfSeen, IsSeen, put_found, seen, seen_after}
use Rattle.folder_spec.specs.State.{State}
use Rattle.folder_spec.specs.View.{Folder, NoEntry, View}
use Rattle.folder_staging.specs.Removal.{IsBare, IsRemoving, IsWithin, Reach, Removes, RemovesWithin, deepest, from}
use Rattle.folder_staging.specs.declared.removal.RemovalFault.{RemovalFault}
use Rattle.migration_spec.proofs.Kept.{behind_none, is_below}
use Rattle.migration_spec.proofs.Tellings.{seen_before, AreSound}
use Rattle.migration_spec.specs.Guard.{old_path}
use Rattle.work_folder.specs.Entries.{journal_path}
use Rattle.retire_core.proofs.Going.{IsWhole, behind_inside, fallen_same}
use Rattle.retire_core.specs.Clearing.{Clears, ClearsAt, ClearsBeside, ClearsEntry, ClearsOnly, ClearsRest, HasOnlyJournal, IsGone, IsInOrder, Leaves}
use Rattle.migration_spec.proofs.Staying.{Kind, stays_more, stays_on, stays_same}
use Rattle.folder_spec.proofs.Replaces.{apart-below}

-- ---- regions

pub apart_within : (work : Path) (name : Part) (q : Path) → IsTrue (apart_from work q) → IsTrue (apart_from (child work name) q)
apart_within work name q apart = ap is_none (behind_none work (name ∷ []) q (apart-below work q apart))

-- ---- an entry that is removed

abbrev pub RemovalsLeave : Type 0
RemovalsLeave = (r : Reach) (s0 s : State) → IsRemoving r s0 s → IsAsBefore (apart_from r.at) s0 s

within_at : (at p : Path) → IsWithin (from at deepest) p → IsTrue (at_or_below at p)
within_at at p within = subst (λ q. IsTrue (at_or_below at q)) (sym within.is) (behind_inside at within.rest)

clears_within : (at : Path) (s0 : State) (call : Call) → seen s0 at ≢ NoEntry → RemovesWithin (from at deepest) call → ClearsAt at s0 call
clears_within at s0 (RemoveFile p) there within = (within_at at p within, there)
clears_within at s0 (RemoveDir p) there within = (within_at at p within, there)
clears_within at s0 (MakeDir p) there within = absurd within
clears_within at s0 (Create p) there within = absurd within
clears_within at s0 (Append p piece) there within = absurd within
clears_within at s0 (Sync p) there within = absurd within
clears_within at s0 Settle there within = absurd within
clears_within at s0 (Rename old new) there within = absurd within

pub entry_cleared : RemovalsLeave → (at : Path) (t u : Option Told) (n m : ℕ) (result : Result (Unit {0}) RemovalFault) → IfSeen t (λ v. v at ≢ NoEntry)
    → Removes (from at deepest) t u n m result → ClearsEntry at t u
entry_cleared leave at t u n m result there removes =
    from_to_more (λ a b. Went (IsRemoving (from at deepest) a.state) (λ s e. RemovesWithin (from at deepest) e.call) a b) (λ a b. Went (IsAsBefore (apart_from at) a.state) (λ s e. ClearsAt at a.state e.call) a b) t u
    (λ a b is went. went_more (IsRemoving (from at deepest) a.state) (IsAsBefore (apart_from at) a.state) (λ s e. RemovesWithin (from at deepest) e.call) (λ s e. ClearsAt at a.state e.call) a b
    (λ s h. leave (from at deepest) a.state s h)
    (λ s e within. clears_within at a.state e.call (there (seen a.state) (subst (λ o. IsSeen o (seen a.state)) (sym is) refl)) within) went) removes.moments

pub entry_same : (at : Path) (t u : Option Told) → u ≡ t → ClearsEntry at t u
entry_same at = stays_same (apart_from at) (λ s0 s e. ClearsAt at s0 e.call)

-- what is seen elsewhere stays
pub entry_leaves : (at : Path) (t u : Option Told) → AreSound t → ClearsEntry at t u → Leaves at t u
entry_leaves at (Some a) (Some b) sound went v w is is_now q none =
    ap (λ (x : View). x q) is_now ∙ seen_as_before (apart_from at) a.state b.state (sound a refl) (went_to (IsAsBefore (apart_from at) a.state) (λ s e. ClearsAt at a.state e.call) a b went) q (ap is_none none)
    ∙ ap (λ (x : View). x q) (sym is)
entry_leaves at (Some a) None sound went v w is is_now q none = absurd is_now
entry_leaves at None u sound went v w is is_now q none = absurd is

-- ---- entries that are removed one after the other

old_beside : (work : Path) (name : Part) (p : Path) → bytes_eq (codes "old") name ≡ false → IsTrue (at_or_below (child work name) p) → below (old_path work) p ≡ None
old_beside work name p other inside =
    let there = is_below (child work name) p inside in
    ap (below (old_path work)) (there.1 ∙ append_assoc work (name ∷ []) there.0) ∙ below-both work (codes "old" ∷ []) (name ∷ there.0) ∙ rw other refl

pub inside_work : (work : Path) (name : Part) (p : Path) → IsTrue (at_or_below (child work name) p) → IsTrue (at_or_below work p)
inside_work work name p inside =
    let there = is_below (child work name) p inside in
    subst (λ q. IsTrue (at_or_below work q)) (sym (there.1 ∙ append_assoc work (name ∷ []) there.0)) (behind_inside work (name ∷ there.0))

beside : (work : Path) (name : Part) (s0 : State) (call : Call) → bytes_eq (codes "old") name ≡ false → ClearsAt (child work name) s0 call → ClearsBeside work call
beside work name s0 (RemoveFile p) other at = (inside_work work name p at.0, old_beside work name p other at.0)
beside work name s0 (RemoveDir p) other at = (inside_work work name p at.0, old_beside work name p other at.0)
beside work name s0 (MakeDir p) other at = absurd at
beside work name s0 (Create p) other at = absurd at
beside work name s0 (Append p piece) other at = absurd at
beside work name s0 (Sync p) other at = absurd at
beside work name s0 Settle other at = absurd at
beside work name s0 (Rename old new) other at = absurd at

-- another entry than `old`
pub rest_by_entry : (work : Path) (name : Part) (t u : Option Told) → bytes_eq (codes "old") name ≡ false → ClearsEntry (child work name) t u → ClearsRest work t u
rest_by_entry work name t u other =
    stays_more (apart_from work) (apart_from (child work name)) (λ s0 s e. ClearsAt (child work name) s0 e.call) (λ s0 s e. ClearsBeside work e.call) t u (apart_within work name) (λ s0 s e is. beside work name s0 e.call other is)

-- `old`
pub only_by_old : (work : Path) (t u : Option Told) → ClearsEntry (old_path work) t u → ClearsOnly work t u
only_by_old work t u =
    stays_more (apart_from work) (apart_from (old_path work)) (λ s0 s e. ClearsAt (old_path work) s0 e.call) (λ s0 s e. Clears work s0 e.call) t u (apart_within work (codes "old")) (λ s0 s e is. inl is)

pub rest_same : (work : Path) (t u : Option Told) → u ≡ t → ClearsRest work t u
rest_same work = stays_same (apart_from work) (λ s0 s e. ClearsBeside work e.call)

pub rest_then : (work : Path) (t u w : Option Told) → ClearsRest work t u → ClearsRest work u w → ClearsRest work t w
rest_then work t u w =
    let Q : Kind = λ s0 s e. ClearsBeside work e.call in
    stays_on (apart_from work) (apart_from work) Q Q t u w (λ q apart. apart) (λ s0 s1 s e is. is)

pub only_then : (work : Path) (t u w : Option Told) → ClearsOnly work t u → ClearsRest work u w → ClearsOnly work t w
only_then work t u w =
    stays_on (apart_from work) (apart_from work) (λ s0 s e. Clears work s0 e.call) (λ s0 s e. ClearsBeside work e.call) t u w (λ q apart. apart) (λ s0 s1 s e is. inr is)

-- ---- what is seen of the work folder

pub entry_apart : (work : Path) (name other : Part) → bytes_eq name other ≡ false → below (child work name) (child work other) ≡ None
entry_apart work name other isnt = below-both work (name ∷ []) (other ∷ []) ∙ rw isnt refl

root_apart : (work : Path) (name : Part) → below (child work name) work ≡ None
root_apart work name = subst (λ q. below (child work name) q ≡ None) (append-nil work) (below-both work (name ∷ []) [])

pub isnt_eq : (name other : Part) → name ≢ other → bytes_eq other name ≡ false
isnt_eq name other apart = by_test (bytes_eq other name) refl
  where
    by_test : (b : Bool) → bytes_eq other name ≡ b → bytes_eq other name ≡ false
    by_test true e = absurd (apart (sym ((bytes_eq-Decides other name).0 e)))
    by_test false e = e

-- once these are gone, the journal is alone
pub only_journal : (work : Path) (t0 t1 t2 t3 : Option Told) → IfSeen t0 (λ v. IsInOrder v work)
    → ClearsEntry (child work (codes "old")) t0 t1 → ClearsEntry (child work (codes "stage")) t1 t2 → ClearsEntry (child work (codes "journal.new")) t2 t3
    → Leaves (child work (codes "old")) t0 t1 → Leaves (child work (codes "stage")) t1 t2 → Leaves (child work (codes "journal.new")) t2 t3
    → IsGone (child work (codes "old")) t1 → IsGone (child work (codes "stage")) t2 → IsGone (child work (codes "journal.new")) t3
    → IfSeen t3 (λ w. HasOnlyJournal w work)
only_journal work t0 t1 t2 t3 order one two three leaves1 leaves2 leaves3 gone1 gone2 gone3 w is = record {
  folder = stays work (root_apart work (codes "old")) (root_apart work (codes "stage")) (root_apart work (codes "journal.new")) ∙ before.folder;
  journal = (
    before.journal.0,
    stays (journal_path work) (entry_apart work (codes "old") (codes "journal") refl) (entry_apart work (codes "stage") (codes "journal") refl) (entry_apart work (codes "journal.new") (codes "journal") refl)
        ∙ before.journal.1,
  );
  others = λ name isnt. by_new name isnt (bytes_eq (codes "journal.new") name) refl;
}
  where
    at2 : (v : View) × IsSeen t2 v
    at2 = seen_before _ t2 t3 three w is

    at1 : (v : View) × IsSeen t1 v
    at1 = seen_before _ t1 t2 two at2.0 at2.1

    at0 : (v : View) × IsSeen t0 v
    at0 = seen_before _ t0 t1 one at1.0 at1.1

    before : IsInOrder at0.0 work
    before = order at0.0 at0.1

    stays : (q : Path) → below (child work (codes "old")) q ≡ None → below (child work (codes "stage")) q ≡ None → below (child work (codes "journal.new")) q ≡ None → w q ≡ at0.0 q
    stays q none1 none2 none3 = leaves3 at2.0 w at2.1 is q none3 ∙ leaves2 at1.0 at2.0 at1.1 at2.1 q none2 ∙ leaves1 at0.0 at1.0 at0.1 at1.1 q none1

    named : (name other : Part) → bytes_eq other name ≡ true → other ≡ name
    named name other e = (bytes_eq-Decides other name).0 e

    differs : (name other : Part) → bytes_eq other name ≡ false → name ≢ other
    differs name other e same = let is_eq : bytes_eq other name ≡ true = (bytes_eq-Decides other name).1 (sym same) in cc (e, is_eq)

    by_old : (name : Part) → name ≢ codes "journal" → bytes_eq (codes "journal.new") name ≡ false → bytes_eq (codes "stage") name ≡ false → (b : Bool) → bytes_eq (codes "old") name ≡ b → w (child work name) ≡ NoEntry
    by_old name isnt new stage true e =
        subst (λ a. w (child work a) ≡ NoEntry) (named name (codes "old") e)
        (leaves3 at2.0 w at2.1 is (child work (codes "old")) (entry_apart work (codes "journal.new") (codes "old") refl)
        ∙ leaves2 at1.0 at2.0 at1.1 at2.1 (child work (codes "old")) (entry_apart work (codes "stage") (codes "old") refl) ∙ gone1 at1.0 at1.1)
    by_old name isnt new stage false e =
        stays (child work name) (entry_apart work (codes "old") name e) (entry_apart work (codes "stage") name stage) (entry_apart work (codes "journal.new") name new)
        ∙ before.others name isnt (differs name (codes "journal.new") new) (differs name (codes "stage") stage) (differs name (codes "old") e)

    by_stage : (name : Part) → name ≢ codes "journal" → bytes_eq (codes "journal.new") name ≡ false → (b : Bool) → bytes_eq (codes "stage") name ≡ b → w (child work name) ≡ NoEntry
    by_stage name isnt new true e =
        subst (λ a. w (child work a) ≡ NoEntry) (named name (codes "stage") e)
        (leaves3 at2.0 w at2.1 is (child work (codes "stage")) (entry_apart work (codes "journal.new") (codes "stage") refl) ∙ gone2 at2.0 at2.1)
    by_stage name isnt new false e = by_old name isnt new e (bytes_eq (codes "old") name) refl

    by_new : (name : Part) → name ≢ codes "journal" → (b : Bool) → bytes_eq (codes "journal.new") name ≡ b → w (child work name) ≡ NoEntry
    by_new name isnt true e = subst (λ a. w (child work a) ≡ NoEntry) (named name (codes "journal.new") e) (gone3 w is)
    by_new name isnt false e = by_stage name isnt e (bytes_eq (codes "stage") name) refl

pub on_ok_journal : {E : Type 0} (work : Path) (t0 t1 t2 t3 : Option Told) (result : Result (Unit {0}) E) → IfSeen t0 (λ v. IsInOrder v work)
    → ClearsEntry (child work (codes "old")) t0 t1 → ClearsEntry (child work (codes "stage")) t1 t2 → ClearsEntry (child work (codes "journal.new")) t2 t3
    → Leaves (child work (codes "old")) t0 t1 → Leaves (child work (codes "stage")) t1 t2 → Leaves (child work (codes "journal.new")) t2 t3
    → IsGone (child work (codes "old")) t1 → IsGone (child work (codes "stage")) t2 → OnOk result (IsGone (child work (codes "journal.new")) t3)
    → OnOk result (IfSeen t3 (λ w. HasOnlyJournal w work))
on_ok_journal work t0 t1 t2 t3 (Ok done) order one two three leaves1 leaves2 leaves3 gone1 gone2 gone3 = only_journal work t0 t1 t2 t3 order one two three leaves1 leaves2 leaves3 gone1 gone2 gone3
on_ok_journal work t0 t1 t2 t3 (Err fault) order one two three leaves1 leaves2 leaves3 gone1 gone2 gone3 = tt

-- ---- the journal and the work folder

pub rest_call : (work : Path) (call : Call) (t u : Option Told) (result : Result (Unit {0}) FolderFault) → IsWhole call → ((s : State) → Spares (apart_from work) call × WritesOnlyNew s.made s call) → ClearsBeside work call
    → Changes call t u result → ClearsRest work t u
rest_call work call t u result whole spares clears changes =
    from_to_more (λ a b. Steps call a b result) (λ a b. Went (IsAsBefore (apart_from work) a.state) (λ s e. ClearsBeside work e.call) a b) t u
    (λ a b is steps. went_by_call (IsAsBefore (apart_from work) a.state) (λ s e. ClearsBeside work e.call) call a b result (as_before (apart_from work) a.state)
    (λ allowed. as_before_on (apart_from work) a.state a.state call (spares a.state).0 (spares a.state).1 (as_before (apart_from work) a.state))
    (λ added allowed. fallen_same (IsAsBefore (apart_from work) a.state) a.state call added whole (as_before (apart_from work) a.state)) (λ outcome. clears) steps) changes

-- what is in the work folder is none that is apart from it
pub inside_apart : (work p q : Path) → IsTrue (at_or_below work p) → IsTrue (apart_from work q) → p ≢ q
inside_apart work p q inside apart same = clash (below work q) (subst (λ z. IsTrue (at_or_below work z)) same inside) apart
  where
    clash : (o : Option Path) → IsTrue (is_some o) → IsTrue (is_none o) → ⊥
    clash None there none = cc there
    clash (Some rest) there none = cc none

-- the journal may be removed, and then the work folder
pub journal_allowed : (work : Path) (t : Option Told) → IfSeen t (λ v. HasOnlyJournal v work) → (a : Told) → t ≡ Some a → Allowed a.state (RemoveFile (journal_path work))
journal_allowed work t alone a is = may_call_allowed a.state (RemoveFile (journal_path work)) (alone (seen a.state) (subst (λ o. IsSeen o (seen a.state)) (sym is) refl)).journal

-- what is seen after a call that was done
pub seen_then : (call : Call) (t u : Option Told) (done : Unit {0}) → AreSound t → Changes call t u (Ok done) → IfSeen u (λ w. (v : View) × IsSeen t v × (w ≡ seen_after v call))
seen_then call (Some a) (Some b) done sound changes w is = (seen a.state, refl, is ∙ ap (λ (c : Told). seen c.state) changes.1 ∙ seen_changed a.state call (sound a refl) changes.0)
seen_then call None (Some b) done sound changes w is = absurd changes
seen_then call t None done sound changes w is = absurd is

pub folder_allowed : (work : Path) (t u : Option Told) (done : Unit {0}) → work ≢ [] → AreSound t → IfSeen t (λ v. HasOnlyJournal v work)
    → Changes (RemoveFile (journal_path work)) t u (Ok done) → (b : Told) → u ≡ Some b → Allowed b.state (RemoveDir work)
folder_allowed work t u done below_base sound alone changes b is =
    let then_ = seen_then (RemoveFile (journal_path work)) t u done sound changes (seen b.state) (subst (λ o. IsSeen o (seen b.state)) (sym is) refl) in
    may_call_allowed b.state (RemoveDir work) (bare then_.0 (alone then_.0 then_.1) (seen b.state) then_.2)
  where
    bare : (v : View) → HasOnlyJournal v work → (w : View) → w ≡ put_found v (journal_path work) NoEntry → (work ≢ []) × (w work ≡ Folder) × ((name : Part) → w (child work name) ≡ NoEntry)
    bare v only w is = (
      below_base,
      ap (λ (x : View). x work) is ∙ rw (path_eq-apart (journal_path work) work (child-apart work (codes "journal"))) only.folder,
      λ name. ap (λ (x : View). x (child work name)) is ∙ by_name name (bytes_eq (codes "journal") name) refl,
    )
      where
        by_name : (name : Part) (b : Bool) → bytes_eq (codes "journal") name ≡ b → put_found v (journal_path work) NoEntry (child work name) ≡ NoEntry
        by_name name true e = subst (λ a. put_found v (journal_path work) NoEntry (child work a) ≡ NoEntry) ((bytes_eq-Decides (codes "journal") name).0 e) (rw (path_eq-same (journal_path work)) refl)
        by_name name false e =
            let differs : journal_path work ≢ child work name = (λ same. let eq : bytes_eq (codes "journal") name ≡ true = (bytes_eq-Decides (codes "journal") name).1 (child-last work (codes "journal") name same) in cc (e, eq)) in
            rw (path_eq-apart (journal_path work) (child work name) differs) (only.others name (λ same. differs (ap (child work) (sym same))))

-- in the end it is gone
pub folder_gone : (work : Path) (t u w : Option Told) (one two : Unit {0}) → AreSound t → AreSound u → Changes (RemoveDir work) t u (Ok one) → Changes Settle u w (Ok two) → IsGone work w
folder_gone work t u w one two sound sound_then removes settles v is =
    let settled = seen_then Settle u w two sound_then settles v is in
    let removed = seen_then (RemoveDir work) t u one sound removes settled.0 settled.1 in
    ap (λ (x : View). x work) (settled.2 ∙ removed.2) ∙ rw (path_eq-same work) refl

-- nothing is left at the path of a removal that was done
pub bare_of : (at : Path) (u : Option Told) (result : Result (Unit {0}) RemovalFault) (done : Unit {0}) → result ≡ Ok done → OnOk result (IfSeen u (λ v. IsBare (from at deepest) v)) → IsGone at u
bare_of at u (Ok value) done is bare = λ v seen_now. ap v (sym (append-nil at)) ∙ bare v seen_now [] (omega arith)
bare_of at u (Err fault) done is bare = absurd (cc is)
