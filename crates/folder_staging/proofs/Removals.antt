-- How removals go on, from call to call.
use Rattle.std.proofs.Common.{◌≡◌, ◌≢◌, ◌⊎◌, ℕ, ◌<◌, ◌≤◌, List, [], ◌∷◌, ◌++◌, length, Option, Some, None, Result, Ok, Err, refl, sym, ap, ◌∙◌, subst, inl, inr, arith, append-nil, IsTrue}
use Rattle.port_model.specs.Counts.{CountRose}
use Rattle.folder_spec.specs.declared.FolderFault.{FolderFault}
use Rattle.folder_spec.specs.declared.FolderFault.TheVariants as folder
use Rattle.folder_spec.specs.Path.{Part, Path, below}
use Rattle.folder_spec.specs.Region.{AlikeIn, IsAsBefore, SparesOld, apart_from}
use Rattle.folder_spec.specs.Written.{HoldFronts}
use Rattle.folder_spec.proofs.Replaces.{apart-below}
use Rattle.folder_spec.specs.declared.Spot.{Spot}
use Rattle.folder_spec.specs.declared.Spot.TheVariants.{Nothing, Directory, FileNode, Odd}
use Rattle.folder_spec.specs.State.{Table, State, present, put, IsTableOf, IsSound}
use Rattle.folder_spec.specs.Event.{Call, MakeDir, Create, Append, Sync, Settle, Rename, RemoveFile, RemoveDir, Allowed, with_table, changed, fallen, Told, Steps, Changes, FromTo}
use Rattle.folder_spec.specs.Moments.{Went}
use Rattle.folder_spec.specs.View.{Found, NoEntry, Folder, FileOf, Special, View, kind_found, found}
use Rattle.folder_spec.specs.declared.Kind.{Kind}
use Rattle.folder_spec.specs.declared.Kind.TheVariants.{Missing, Dir, File}
use Rattle.folder_spec.specs.declared.Kind.TheVariants as kind
use Rattle.folder_spec.specs.Seen.{IfSeen, IsSeen, put_found, seen, seen_after}
use Rattle.folder_spec.proofs.Paths.{not_below, path_eq-same, one_or_not, append-cancel}
use Rattle.folder_spec.proofs.Tables.{put-same, put-other, present_is_table, last_of-push, among-push}
use Rattle.folder_spec.proofs.Moments.{went_nowhere, went_on, went_by_call, went_more, went_to}
use Rattle.folder_spec.proofs.Tellings.{from_to_more, from_to_on, from_to_same}
use Rattle.folder_spec.proofs.Seen.{none_seen, seen_changed, has_file_seen, may_call_allowed, seen_of}
use Rattle.folder_model.specs.Answers.{Answers, Counts, CountsAbove}
use Rattle.folder_model.proofs.Counting.{never_falls, rose_since, counts_after, counts_at_fault}
use Rattle.folder_spec.proofs.Edits.{nothing_below_file}
use Rattle.folder_staging.specs.declared.removal.RemovalFault.{RemovalFault}
use Rattle.folder_staging.specs.declared.removal.RemovalFault.TheVariants.{Depth, Other, Failed, NoMemory}
use Rattle.folder_staging.specs.Removal.{Reach, from, below_only, IsWithin, IsThinned, IsRemoving, RemovesWithin, IsBare, RemovesAs, Removes, fault_of, ended_as}
use Rattle.folder_staging.proofs.Blame.{risen_by}

-- Tables.
thinned_none : (r : Reach) (t : Table) → IsThinned r t t
thinned_none r t q = inl refl

thinned_then : (r : Reach) (t u w : Table) → IsThinned r t u → IsThinned r u w → IsThinned r t w
thinned_then r t u w second first q = elim (second q) as (λ _. (t q ≡ w q) ⊎ (IsWithin r q × (t q ≡ Nothing) × (w q ≢ Odd))) [
  | inl same ↦ elim (first q) as (λ _. (t q ≡ w q) ⊎ (IsWithin r q × (t q ≡ Nothing) × (w q ≢ Odd))) [
    | inl before ↦ inl (same ∙ before)
    | inr gone ↦ inr (gone.0, same ∙ gone.1, gone.2)
  ]
  | inr gone ↦ elim (first q) as (λ _. (t q ≡ w q) ⊎ (IsWithin r q × (t q ≡ Nothing) × (w q ≢ Odd))) [
    | inl before ↦ inr (gone.0, gone.1, λ odd. gone.2 (before ∙ odd))
    | inr earlier ↦ inr (gone.0, gone.1, earlier.2)
  ]
]

thinned_in : (r r' : Reach) (t u : Table) → ((q : Path) → IsWithin r q → IsWithin r' q) → IsThinned r t u → IsThinned r' t u
thinned_in r r' t u within thinned q = elim (thinned q) as (λ _. (t q ≡ u q) ⊎ (IsWithin r' q × (t q ≡ Nothing) × (u q ≢ Odd))) [
  | inl same ↦ inl same
  | inr gone ↦ inr (within q gone.0, gone.1, gone.2)
]

thinned_put : (r : Reach) (t : Table) (p : Path) → IsWithin r p → t p ≢ Odd → IsThinned r (put t p Nothing) t
thinned_put r t p within ordinary q = elim (one_or_not p q) as (λ _. (put t p Nothing q ≡ t q) ⊎ (IsWithin r q × (put t p Nothing q ≡ Nothing) × (t q ≢ Odd))) [
  | inl e ↦ inr (subst (IsWithin r) e within, ap (put t p Nothing) (sym e) ∙ put-same t p Nothing, λ odd. ordinary (ap t e ∙ odd))
  | inr k ↦ inl (put-other t p Nothing q k.0)
]

-- what stood nowhere comes to stand nowhere
thinned_nothing : (r : Reach) (t u : Table) (q : Path) → IsThinned r t u → u q ≡ Nothing → t q ≡ Nothing
thinned_nothing r t u q thinned none = elim (thinned q) [ inl same ↦ same ∙ none | inr gone ↦ gone.1 ]

-- States.
removing_none : (r : Reach) (s : State) → IsRemoving r s s
removing_none r s = record { tables = λ t is_table. (t, is_table, thinned_none r t); seen = thinned_none r (present s); nodes = refl; made = refl }

removing_then : (r : Reach) (s0 s1 s : State) → IsRemoving r s0 s1 → IsRemoving r s1 s → IsRemoving r s0 s
removing_then r s0 s1 s first second = record {
  tables = λ t is_table.
      let mid : (u : Table) × IsTableOf s1 u × IsThinned r t u = second.tables t is_table in
      let old : (w : Table) × IsTableOf s0 w × IsThinned r (mid.0) w = first.tables (mid.0) mid.1 in
      (old.0, old.1, thinned_then r t (mid.0) (old.0) mid.2 old.2);
  seen = thinned_then r (present s) (present s1) (present s0) second.seen first.seen;
  nodes = second.nodes ∙ first.nodes;
  made = second.made ∙ first.made;
}

removing_in : (r r' : Reach) (s0 s : State) → ((q : Path) → IsWithin r q → IsWithin r' q) → IsRemoving r s0 s → IsRemoving r' s0 s
removing_in r r' s0 s within h = record {
  tables = λ t is_table.
      let old : (u : Table) × IsTableOf s0 u × IsThinned r t u = h.tables t is_table in (old.0, old.1, thinned_in r r' t (old.0) within old.2);
  seen = thinned_in r r' (present s) (present s0) within h.seen;
  nodes = h.nodes;
  made = h.made;
}

put_removes : (r : Reach) (s : State) (p : Path) → IsWithin r p → present s p ≢ Odd → IsRemoving r s (with_table s (put (present s) p Nothing))
put_removes r s p within ordinary = record {
  tables = λ t is_table. elim is_table as (λ _. (u : Table) × IsTableOf s u × IsThinned r t u) [
    | inl kept ↦ (t, inl kept, thinned_none r t)
    | inr more ↦ elim (among-push t (put (present s) p Nothing) s.later more) as (λ _. (u : Table) × IsTableOf s u × IsThinned r t u) [
      | inl before ↦ (t, inr before, thinned_none r t)
      | inr new ↦ (present s, present_is_table s, subst (λ u. IsThinned r u (present s)) (sym new) (thinned_put r (present s) p within ordinary))
    ]
  ];
  seen = subst (λ u. IsThinned r u (present s)) (sym (last_of-push s.kept s.later (put (present s) p Nothing))) (thinned_put r (present s) p within ordinary);
  nodes = refl;
  made = refl;
}

removes_on : (r : Reach) (s : State) (call : Call) → RemovesWithin r call → Allowed s call → IsRemoving r s (changed s call)
removes_on r s (RemoveFile p) within file = put_removes r s p within (λ odd. let here : present s p ≡ FileNode (file.0) = file.1 in cc)
removes_on r s (RemoveDir p) within dir = put_removes r s p within (λ odd. let here : present s p ≡ Directory = dir.1.0 in cc)
removes_on r s (MakeDir p) within allowed = absurd within
removes_on r s (Create p) within allowed = absurd within
removes_on r s (Append p piece) within allowed = absurd within
removes_on r s (Sync p) within allowed = absurd within
removes_on r s Settle within allowed = absurd within
removes_on r s (Rename old new) within allowed = absurd within

fallen_removes : (r : Reach) (s : State) (call : Call) (added : ℕ) → RemovesWithin r call → IsRemoving r s (fallen s call added)
fallen_removes r s (RemoveFile p) added within = removing_none r s
fallen_removes r s (RemoveDir p) added within = removing_none r s
fallen_removes r s (MakeDir p) added within = absurd within
fallen_removes r s (Create p) added within = absurd within
fallen_removes r s (Append p piece) added within = absurd within
fallen_removes r s (Sync p) added within = absurd within
fallen_removes r s Settle added within = absurd within
fallen_removes r s (Rename old new) added within = absurd within

-- Runs.
abbrev pub Removing : Reach → Told → Told → Type 0
Removing r a b = Went (IsRemoving r a.state) (λ s e. RemovesWithin r e.call) a b

pub removing_so_far : (r : Reach) (a b : Told) → Removing r a b → IsRemoving r a.state b.state
removing_so_far r a b went = went_to (IsRemoving r a.state) (λ s e. RemovesWithin r e.call) a b went

pub run_none : (r : Reach) (a : Told) → Removing r a a
run_none r a = went_nowhere (IsRemoving r a.state) (λ s e. RemovesWithin r e.call) a (removing_none r a.state)

pub run_then : (r : Reach) (a b c : Told) → Removing r a b → Removing r b c → Removing r a c
run_then r a b c first second =
    went_on (IsRemoving r a.state) (λ s e. RemovesWithin r e.call) a b c first
    (went_more (IsRemoving r b.state) (IsRemoving r a.state) (λ s e. RemovesWithin r e.call) (λ s e. RemovesWithin r e.call) b c
    (λ s h. removing_then r a.state b.state s (removing_so_far r a b first) h) (λ s e h. h) second)

pub run_in : (r r' : Reach) (a b : Told) → ((q : Path) → IsWithin r q → IsWithin r' q) → Removing r a b → Removing r' a b
run_in r r' a b within went =
    went_more (IsRemoving r a.state) (IsRemoving r' a.state) (λ s e. RemovesWithin r e.call) (λ s e. RemovesWithin r' e.call) a b
    (λ s h. removing_in r r' a.state s within h) (λ s e h. calls e.call h) went
  where
    calls : (call : Call) → RemovesWithin r call → RemovesWithin r' call
    calls (RemoveFile p) h = within p h
    calls (RemoveDir p) h = within p h
    calls (MakeDir p) h = absurd h
    calls (Create p) h = absurd h
    calls (Append p piece) h = absurd h
    calls (Sync p) h = absurd h
    calls Settle h = absurd h
    calls (Rename old new) h = absurd h

pub run_call : (r : Reach) (call : Call) (a b : Told) (result : Result (Unit {0}) FolderFault) → RemovesWithin r call → Steps call a b result → Removing r a b
run_call r call a b result within steps =
    went_by_call (IsRemoving r a.state) (λ s e. RemovesWithin r e.call) call a b result (removing_none r a.state) (λ allowed. removes_on r a.state call within allowed)
    (λ added allowed. fallen_removes r a.state call added within) (λ outcome. within) steps

-- What is seen.
pub seen_nothing : (s : State) (q : Path) → seen s q ≡ NoEntry → present s q ≡ Nothing
seen_nothing s q none = none_seen (λ n. (s.nodes n).now) (present s q) none

-- what is gone stays so
pub stays_gone : (r : Reach) (s0 s : State) (q : Path) → IsRemoving r s0 s → seen s0 q ≡ NoEntry → seen s q ≡ NoEntry
stays_gone r s0 s q h none = ap (found (λ n. (s.nodes n).now)) (thinned_nothing r (present s) (present s0) q h.seen (seen_nothing s0 q none))

-- what is seen was seen
pub was_seen : (r : Reach) (s0 s : State) (q : Path) → IsRemoving r s0 s → present s q ≡ present s0 q → seen s q ≡ seen s0 q
was_seen r s0 s q h same = ap (λ nodes. found (λ n. (nodes n).now) (present s q)) h.nodes ∙ ap (found (λ n. (s0.nodes n).now)) same

pub still_there : (r : Reach) (s0 s : State) (q : Path) → IsRemoving r s0 s → seen s q ≢ NoEntry → seen s q ≡ seen s0 q
still_there r s0 s q h there = elim (h.seen q) [
  | inl same ↦ was_seen r s0 s q h same
  | inr gone ↦ absurd (there (ap (found (λ n. (s.nodes n).now)) gone.1))
]

-- nothing is seen below what is no directory
pub bare_below : (s : State) (p : Path) (a : Part) (rest : Path) → IsSound s → seen s p ≢ Folder → seen s (p ++ a ∷ rest) ≡ NoEntry
bare_below s p a rest sound other =
    ap (found (λ n. (s.nodes n).now))
    (nothing_below_file s.made (present s) (sound.tables (present s) (present_is_table s)) p a rest (λ dir. other (ap (found (λ n. (s.nodes n).now)) dir)))

-- nor where nothing is seen
pub bare_at : (s : State) (at : Path) (most : ℕ) → IsSound s → seen s at ≡ NoEntry → IsBare (from at most) (seen s)
bare_at s at most sound none [] least = ap (seen s) (append-nil at) ∙ none
bare_at s at most sound none (a ∷ rest) least = bare_below s at a rest sound (λ dir. let both : NoEntry ≡ Folder = sym none ∙ dir in cc)

-- a removal that leaves nothing met nothing that it may not remove
pub done_as : (r : Reach) (s0 s : State) → IsRemoving r s0 s → IsBare r (seen s) → RemovesAs r (seen s0) (Ok tt)
done_as r s0 s h bare rest least = elim (h.seen (r.at ++ rest)) as (λ _. (seen s0 (r.at ++ rest) ≢ Special) × (r.most < length rest → seen s0 (r.at ++ rest) ≡ NoEntry)) [
  | inl same ↦
      let none : seen s0 (r.at ++ rest) ≡ NoEntry = sym (was_seen r s0 s (r.at ++ rest) h same) ∙ bare rest least in
      (λ odd. let both : NoEntry ≡ Special = sym none ∙ odd in cc, λ deep. none)
  | inr gone ↦ (
    λ odd. gone.2 (odd_seen (present s0 (r.at ++ rest)) odd),
    λ deep. absurd (
        let same : rest ≡ gone.0.rest = append-cancel r.at rest gone.0.rest gone.0.is in
        let shallow : length rest ≤ r.most = subst (λ p. length p ≤ r.most) (sym same) gone.0.most in
        omega (arith, deep, shallow)),
  )
]
  where
    odd_seen : (x : Spot) → found (λ n. (s0.nodes n).now) x ≡ Special → x ≡ Odd
    odd_seen Odd e = refl
    odd_seen Nothing e = cc
    odd_seen Directory e = cc
    odd_seen (FileNode n) e = cc

-- the path itself
itself : (at : Path) (most : ℕ) → IsWithin (from at most) at
itself at most = record { rest = []; is = sym (append-nil at); least = omega arith; most = omega arith }

-- what is below a path is at or below it
pub beneath_within : (at : Path) (most : ℕ) (q : Path) → IsWithin (below_only at most) q → IsWithin (from at most) q
beneath_within at most q h = record { rest = h.rest; is = h.is; least = omega arith; most = h.most }

-- nothing is seen where a call removed what stood there
removed_seen : (at : Path) (call : Call) (a b : Told) → IsSound a.state → seen_after (seen a.state) call ≡ put_found (seen a.state) at NoEntry → Steps call a b (Ok tt)
    → seen b.state at ≡ NoEntry
removed_seen at call a b sound puts steps =
    ap (λ (c : Told). seen c.state at) steps.1 ∙ ap (λ v. v at) (seen_changed a.state call sound steps.0 ∙ puts) ∙ put_there
  where
    put_there : put_found (seen a.state) at NoEntry at ≡ NoEntry
    put_there = rw (path_eq-same at) refl

-- What the exits of a removal say.
pub folder_fault_as : (r : Reach) (v : View) (fault : FolderFault) → RemovesAs r v (Err (fault_of fault))
folder_fault_as r v folder.Failed = tt
folder_fault_as r v folder.Refused = tt
folder_fault_as r v folder.NoMemory = tt

pub none_from : (r : Reach) (t u : Option Told) → u ≡ t → FromTo (Removing r) t u
none_from r t u same = from_to_same (Removing r) t u same (run_none r)

-- all is done
pub done_exit : (r : Reach) (t u : Option Told) (n0 n1 : ℕ) → FromTo (Removing r) t u → IfSeen u (λ v. IsBare r v) → n0 ≤ n1 → Removes r t u n0 n1 (Ok tt)
done_exit r t u n0 n1 went bare le = record { moments = went; bare = bare; answer = answer t u went bare; grows = le; failed = λ e. cc e }
  where
    answer : (t u : Option Told) → FromTo (Removing r) t u → IfSeen u (λ v. IsBare r v) → IfSeen t (λ v. RemovesAs r v (Ok tt))
    answer (Some a) (Some b) went bare v is =
        subst (λ w. RemovesAs r w (Ok tt)) (sym is) (done_as r a.state b.state (removing_so_far r a b went) (bare (seen b.state) refl))
    answer (Some a) None went bare v is = absurd went
    answer None u went bare v is = absurd is

-- it ends before any call
pub no_call_exit : (r : Reach) (t : Option Told) (n : ℕ) (fault : RemovalFault) → fault ≢ Failed → IfSeen t (λ v. RemovesAs r v (Err fault))
    → Removes r t t n n (Err fault)
no_call_exit r t n fault other answer = record {
  moments = none_from r t t refl;
  bare = tt;
  answer = answer;
  grows = omega arith;
  failed = λ e. absurd (other (let same : fault ≡ Failed = cc e in same));
}

-- a part of it ends with a fault, after other calls
module _ (r r' : Reach) (within : (q : Path) → IsWithin r q → IsWithin r' q)
    (deeper : (rest : Path) → r.most < length rest → (more : Path) × (r'.most < length more) × (r'.at ++ more ≡ r.at ++ rest)) where
  fault_back : (a b : Told) (fault : RemovalFault) → Removing r' a b → RemovesAs r (seen b.state) (Err fault) → RemovesAs r' (seen a.state) (Err fault)
  fault_back a b Depth went met =
      let there : (more : Path) × (r'.most < length more) × (r'.at ++ more ≡ r.at ++ met.0) = deeper met.0 met.1 in
      let q : Path = r.at ++ met.0 in
      let same : seen b.state q ≡ seen a.state q = still_there r' a.state b.state q (removing_so_far r' a b went) met.2 in
      (there.0, there.1, λ none. met.2 (same ∙ ap (seen a.state) (sym there.2) ∙ none))
  fault_back a b (Other p) went met =
      let same : seen b.state p ≡ seen a.state p = still_there r' a.state b.state p (removing_so_far r' a b went) (λ none. let both : NoEntry ≡ Special = sym none ∙ met.1 in cc) in
      (within p met.0, sym same ∙ met.1)
  fault_back a b Failed went met = tt
  fault_back a b NoMemory went met = tt

  answer_back : (t u : Option Told) (fault : RemovalFault) → FromTo (Removing r') t u → IfSeen u (λ w. RemovesAs r w (Err fault)) → (v : View) → IsSeen t v
      → RemovesAs r' v (Err fault)
  answer_back (Some a) (Some b) fault went met v is = subst (λ w. RemovesAs r' w (Err fault)) (sym is) (fault_back a b fault went (met (seen b.state) refl))
  answer_back (Some a) None fault went met v is = absurd went
  answer_back None u fault went met v is = absurd is

  pub fault_exit : (t0 t1 t2 : Option Told) (n0 n1 n2 : ℕ) (fault : RemovalFault) → FromTo (Removing r') t0 t1 → n0 ≤ n1 → Removes r t1 t2 n1 n2 (Err fault)
      → Removes r' t0 t2 n0 n2 (Err fault)
  fault_exit t0 t1 t2 n0 n1 n2 fault went le h = record {
    moments = from_to_on (Removing r') (Removing r) (Removing r') t0 t1 t2 (λ a b c first second. run_then r' a b c first (run_in r r' b c within second)) went h.moments;
    bare = tt;
    answer = answer_back t0 t1 fault went h.answer;
    grows = (let more : n1 ≤ n2 = h.grows in omega (arith, le, more));
    failed = λ e. rose_since n0 n1 n2 le (h.failed e);
  }

-- its last part, after other calls
pub exit_after : (r : Reach) (t0 t1 t2 : Option Told) (n0 n1 n2 : ℕ) (result : Result (Unit {0}) RemovalFault) → FromTo (Removing r) t0 t1 → n0 ≤ n1
    → Removes r t1 t2 n1 n2 result → Removes r t0 t2 n0 n2 result
exit_after r t0 t1 t2 n0 n1 n2 (Ok done) went le h =
    done_exit r t0 t2 n0 n2 (from_to_on (Removing r) (Removing r) (Removing r) t0 t1 t2 (run_then r) went h.moments) h.bare
    (let more : n1 ≤ n2 = h.grows in omega (arith, le, more))
exit_after r t0 t1 t2 n0 n1 n2 (Err fault) went le h =
    fault_exit r r (λ q inside. inside) (λ rest deep. (rest, deep, refl)) t0 t1 t2 n0 n1 n2 fault went le h

-- one call removes what is left
pub call_exit : (at : Path) (most : ℕ) (call : Call) (t u : Option Told) (n0 n1 : ℕ) (result : Result (Unit {0}) FolderFault) → RemovesWithin (from at most) call
    → ((a : Told) → t ≡ Some a → Allowed a.state call) → ((a b : Told) → t ≡ Some a → Steps call a b (Ok tt) → seen b.state at ≡ NoEntry)
    → ((b : Told) → u ≡ Some b → IsSound b.state) → Changes call t u result → Counts t n0 n1 result → Removes (from at most) t u n0 n1 (ended_as result)
call_exit at most call t u n0 n1 (Err fault) within allowed gone sound changes counts = record {
  moments = from_to_more (λ a b. Steps call a b (Err fault)) (Removing (from at most)) t u (λ a b is. run_call (from at most) call a b (Err fault) within) changes;
  bare = tt;
  answer = λ v is. folder_fault_as (from at most) v fault;
  grows = never_falls {T = Unit {0}} t n0 n1 (Err fault) counts;
  failed = λ e. risen_by fault_of Failed (λ none. cc none) n0 n1 fault (counts_after call t u n0 n0 n1 (Err fault) (omega arith) allowed changes counts) (cc e);
}
call_exit at most call t u n0 n1 (Ok done) within allowed gone sound changes counts =
    done_exit (from at most) t u n0 n1
    (from_to_more (λ a b. Steps call a b (Ok done)) (Removing (from at most)) t u (λ a b is. run_call (from at most) call a b (Ok done) within) changes)
    (bare t u gone sound changes) (never_falls {T = Unit {0}} t n0 n1 (Ok done) counts)
  where
    bare : (t u : Option Told) → ((a b : Told) → t ≡ Some a → Steps call a b (Ok tt) → seen b.state at ≡ NoEntry) → ((b : Told) → u ≡ Some b → IsSound b.state)
        → Changes call t u (Ok done) → IfSeen u (λ v. IsBare (from at most) v)
    bare (Some a) (Some b) gone sound changes v is =
        subst (IsBare (from at most)) (sym is) (bare_at b.state at most (sound b refl) (gone a b refl changes))
    bare None (Some b) gone sound changes v is = absurd changes
    bare t None gone sound changes v is = absurd is

-- What stands at a path is removed, by its kind.
pub missing_exit : (at : Path) (most : ℕ) (t : Option Told) (n : ℕ) → ((a : Told) → t ≡ Some a → IsSound a.state) → IfSeen t (λ v. Missing ≡ kind_found (v at))
    → Removes (from at most) t t n n (Ok tt)
missing_exit at most t n sound kind = done_exit (from at most) t t n n (none_from (from at most) t t refl) (bare t sound kind) (omega arith)
  where
    nothing : (x : Found) → Missing ≡ kind_found x → x ≡ NoEntry
    nothing NoEntry e = refl
    nothing Folder e = cc
    nothing (FileOf bytes) e = cc
    nothing Special e = cc

    bare : (t : Option Told) → ((a : Told) → t ≡ Some a → IsSound a.state) → IfSeen t (λ v. Missing ≡ kind_found (v at)) → (v : View) → IsSeen t v
        → IsBare (from at most) v
    bare (Some a) sound kind v is = subst (IsBare (from at most)) (sym is) (bare_at a.state at most (sound a refl) (nothing (seen a.state at) (kind (seen a.state) refl)))
    bare None sound kind v is = absurd is

pub file_exit : (at : Path) (most : ℕ) (t u : Option Told) (n0 n1 : ℕ) (result : Result (Unit {0}) FolderFault)
    → ((a : Told) → t ≡ Some a → IsSound a.state) → ((b : Told) → u ≡ Some b → IsSound b.state) → IfSeen t (λ v. File ≡ kind_found (v at))
    → Changes (RemoveFile at) t u result → Counts t n0 n1 result → Removes (from at most) t u n0 n1 (ended_as result)
file_exit at most t u n0 n1 result before sound kind changes counts =
    call_exit at most (RemoveFile at) t u n0 n1 result (itself at most)
    (λ a is. has_file_seen a.state at (file (seen a.state at) (kind (seen a.state) (seen_of t a is))))
    (λ a b is steps. removed_seen at (RemoveFile at) a b (before a is) refl steps) sound changes counts
  where
    file : (x : Found) → File ≡ kind_found x → (bytes : List ℕ) × (x ≡ FileOf bytes)
    file (FileOf bytes) e = (bytes, refl)
    file NoEntry e = cc
    file Folder e = cc
    file Special e = cc

-- a directory, after what stood below it
pub dir_exit : (at : Path) (most : ℕ) (t0 t1 t2 : Option Told) (n0 n1 n2 : ℕ) (result : Result (Unit {0}) FolderFault) → at ≢ []
    → ((a : Told) → t1 ≡ Some a → IsSound a.state) → ((b : Told) → t2 ≡ Some b → IsSound b.state) → IfSeen t0 (λ v. Dir ≡ kind_found (v at))
    → Removes (below_only at most) t0 t1 n0 n1 (Ok tt) → Changes (RemoveDir at) t1 t2 result → Counts t1 n1 n2 result → Removes (from at most) t0 t2 n0 n2 (ended_as result)
dir_exit at most t0 t1 t2 n0 n1 n2 result some before sound kind emptied changes counts =
    exit_after (from at most) t0 t1 t2 n0 n1 n2 (ended_as result)
    (from_to_more (Removing (below_only at most)) (Removing (from at most)) t0 t1 (λ a b is. run_in (below_only at most) (from at most) a b (beneath_within at most)) emptied.moments)
    emptied.grows
    (call_exit at most (RemoveDir at) t1 t2 n1 n2 result (itself at most) (allowed t0 t1 kind emptied.moments emptied.bare)
    (λ a b is steps. removed_seen at (RemoveDir at) a b (before a is) refl steps) sound changes counts)
  where
    folder_at : (x : Found) → Dir ≡ kind_found x → x ≡ Folder
    folder_at Folder e = refl
    folder_at NoEntry e = cc
    folder_at (FileOf bytes) e = cc
    folder_at Special e = cc

    allowed : (t0 t1 : Option Told) → IfSeen t0 (λ v. Dir ≡ kind_found (v at)) → FromTo (Removing (below_only at most)) t0 t1
        → IfSeen t1 (λ v. IsBare (below_only at most) v) → (b : Told) → t1 ≡ Some b → Allowed b.state (RemoveDir at)
    allowed (Some a) (Some c) kind went bare b is =
        let same : c ≡ b = cc is in
        let h : IsRemoving (below_only at most) a.state c.state = removing_so_far (below_only at most) a c went in
        let was : seen a.state at ≡ Folder = folder_at (seen a.state at) (kind (seen a.state) refl) in
        let here : seen c.state at ≡ Folder = was_seen (below_only at most) a.state c.state at h (elim (h.seen at) [
          | inl stays ↦ stays
          | inr gone ↦ absurd (
              let none : [] ≡ gone.0.rest = append-cancel at [] gone.0.rest (append-nil at ∙ gone.0.is) in
              let longer : 1 ≤ length gone.0.rest = gone.0.least in
              let nothing : length gone.0.rest ≡ 0 = ap length (sym none) in
              omega (arith, longer, nothing))
        ]) ∙ was in
        subst (λ (d : Told). Allowed d.state (RemoveDir at)) same
        (may_call_allowed c.state (RemoveDir at) (some, here, λ name. bare (seen c.state) refl (name ∷ []) (omega arith)))
    allowed (Some a) None kind went bare b is = absurd went
    allowed None (Some c) kind went bare b is = absurd went
    allowed None None kind went bare b is = cc is

-- what is neither a file nor a directory
pub other_exit : (at p : Path) (most : ℕ) (t : Option Told) (n : ℕ) → p ≡ at → IfSeen t (λ v. kind.Other ≡ kind_found (v at))
    → Removes (from at most) t t n n (Err (Other p))
other_exit at p most t n copied odd =
    no_call_exit (from at most) t n (Other p) (λ e. cc e)
    (λ v is. (subst (IsWithin (from at most)) (sym copied) (itself at most), ap v copied ∙ special (v at) (odd v is)))
  where
    special : (x : Found) → kind.Other ≡ kind_found x → x ≡ Special
    special Special e = refl
    special NoEntry e = cc
    special Folder e = cc
    special (FileOf bytes) e = cc

-- a first call that fell, as one that asks for a kind does only where the count rose
pub kind_exit : (r : Reach) (at : Path) (t u : Option Told) (n0 n1 : ℕ) (fault : FolderFault) → u ≡ t
    → Answers {T = Kind} t (λ v. Unit {0}) (λ v k. k ≡ kind_found (v at)) (Err fault) → Counts {T = Kind} t n0 n1 (Err fault) → Removes r t u n0 n1 (Err (fault_of fault))
kind_exit r at t u n0 n1 fault same answer counts = record {
  moments = none_from r t u same;
  bare = tt;
  answer = λ v is. folder_fault_as r v fault;
  grows = never_falls {T = Kind} t n0 n1 (Err fault) counts;
  failed = λ e. risen_by fault_of Failed (λ none. cc none) n0 n1 fault
      (counts_at_fault Kind (Unit {0}) t n0 n0 n1 (λ v. Unit {0}) (λ v k. k ≡ kind_found (v at)) fault (omega arith) (λ v is. tt) answer counts) (cc e);
}

-- A removal leaves all else.
within_not_apart : (r : Reach) (q : Path) → IsWithin r q → IsTrue (apart_from r.at q) → ⊥
within_not_apart r q within apart = not_below r.at within.rest (ap (below r.at) (sym within.is) ∙ apart-below r.at q apart)

thinned_apart : (r : Reach) (t u : Table) → IsThinned r t u → AlikeIn (apart_from r.at) t u
thinned_apart r t u thinned q apart = elim (thinned q) [ inl same ↦ same | inr gone ↦ absurd (within_not_apart r q gone.0 apart) ]

pub removing_as_before : (r : Reach) (s0 s : State) → IsRemoving r s0 s → IsAsBefore (apart_from r.at) s0 s
removing_as_before r s0 s h = record {
  tables = λ t is_table.
      let old : (u : Table) × IsTableOf s0 u × IsThinned r t u = h.tables t is_table in (old.0, old.1, thinned_apart r t (old.0) old.2);
  seen = thinned_apart r (present s) (present s0) h.seen;
  nodes = λ n less. ap (λ nodes. nodes n) h.nodes;
  made = omega (arith, h.made);
}

pub removals_spare : (r : Reach) (s0 s : State) (call : Call) → RemovesWithin r call → SparesOld (apart_from r.at) s0 s call
removals_spare r s0 s (RemoveFile p) within = (λ q apart e. within_not_apart r q (subst (IsWithin r) e within) apart, tt)
removals_spare r s0 s (RemoveDir p) within = (λ q apart e. within_not_apart r q (subst (IsWithin r) e within) apart, tt)
removals_spare r s0 s (MakeDir p) within = absurd within
removals_spare r s0 s (Create p) within = absurd within
removals_spare r s0 s (Append p piece) within = absurd within
removals_spare r s0 s (Sync p) within = absurd within
removals_spare r s0 s Settle within = absurd within
removals_spare r s0 s (Rename old new) within = absurd within

pub removing_writes_nothing : (r : Reach) (files : List (List ℕ)) (s0 s : State) → IsRemoving r s0 s → HoldFronts files s0 s
removing_writes_nothing r files s0 s h n new made = absurd (omega (arith, new, made, h.made))
