-- What is seen after each call, and when a call may be made, by what is seen.
use Rattle.std.proofs.Common.{◌≡◌, ◌≢◌, ◌⊎◌, ℕ, ◌<◌, Bool, true, false, cond, nat_eq, List, [], ◌++◌, Option, Some, None, IfSome, refl, sym, ap, ◌∙◌, subst, inl, inr, arith, eqb-true}
use Rattle.std.proofs.lemmas.Bool.{eq-eqb}
use mathlib.Core.Path.{fun_ext}
use Rattle.folder_spec.specs.Path.{Path, path_eq, below, parent, child}
use Rattle.folder_spec.specs.State.{Spot, Nothing, Directory, FileNode, Odd, Table, Node, State, kind_of, present, put, moved, moved_spot, put_node, HasFile, IsSound}
use Rattle.folder_spec.specs.Event.{Call, MakeDir, Create, Append, Sync, Settle, Rename, RemoveFile, RemoveDir, IsFree, IsFilePlace, Allowed, with_table, with_file, grown, synced, empty_node, changed, Told}
use Rattle.folder_spec.specs.View.{NoEntry, Folder, FileOf, View, kind_found, found}
use Rattle.folder_spec.specs.Seen.{IfSeen, IsSeen, MayCall, ShowsFile, ShowsFilePlace, ShowsFree, appended, moved_found, moved_view, put_found, seen, seen_after}
use Rattle.folder_spec.proofs.Paths.{path_eq-Decides, one_or_not}
use Rattle.folder_spec.proofs.Tables.{put-same, put-other, last_of-push, present_is_table}
use Rattle.folder_spec.proofs.Regions.{put_node-other}

-- the present view is the one that is seen, where the state is told
pub seen_of : (t : Option Told) (a : Told) → t ≡ Some a → IsSeen t (seen a.state)
seen_of t a is = subst (λ o. IsSeen o (seen a.state)) (sym is) refl

pub one_view : (t : Option Told) (v w : View) → IsSeen t v → IsSeen t w → v ≡ w
one_view (Some a) v w is_v is_w = is_v ∙ sym is_w
one_view None v w is_v is_w = absurd is_v

now_of : State → ℕ → List ℕ
now_of s = λ n. (s.nodes n).now

put_seen : (bytes : ℕ → List ℕ) (t : Table) (p : Path) (x : Spot) (q : Path) → found bytes (put t p x q) ≡ put_found (λ r. found bytes (t r)) p (found bytes x) q
put_seen bytes t p x q = elim (path_eq p q) as (λ b. found bytes (cond b x (t q)) ≡ cond b (found bytes x) (found bytes (t q))) [ true ↦ refl | false ↦ refl ]

moved_seen : (bytes : ℕ → List ℕ) (t : Table) (old new q : Path) → found bytes (moved t old new q) ≡ moved_view (λ r. found bytes (t r)) old new q
moved_seen bytes t old new q = by_places (below new q) (below old q)
  where
    by_places : (a b : Option Path) → found bytes (moved_spot t old q a b) ≡ moved_found (λ r. found bytes (t r)) old q a b
    by_places (Some rest) b = refl
    by_places None (Some rest) = refl
    by_places None None = refl

-- what is seen in a table that a call makes
table_seen : (s : State) (u : Table) (v : View) → ((q : Path) → found (λ n. (s.nodes n).now) (u q) ≡ v q) → seen (with_table s u) ≡ v
table_seen s u v same = ap (λ (t : Table). λ q. found (λ n. (s.nodes n).now) (t q)) (last_of-push s.kept s.later u) ∙ fun_ext same

-- a spot with no changed node is seen as before
same_found : (old new : ℕ → List ℕ) (x : Spot) → ((n : ℕ) → x ≡ FileNode n → new n ≡ old n) → found new x ≡ found old x
same_found old new Nothing same = refl
same_found old new Directory same = refl
same_found old new Odd same = refl
same_found old new (FileNode n) same = ap (λ bytes. found (λ _. bytes) (FileNode n)) (same n refl)

create_seen : (s : State) (p : Path) → IsSound s → seen (changed s (Create p)) ≡ put_found (seen s) p (FileOf [])
create_seen s p sound =
    ap (λ (t : Table). λ q. found (λ n. (put_node s.nodes s.made empty_node n).now) (t q)) (last_of-push s.kept s.later (put (present s) p (FileNode s.made)))
    ∙ fun_ext (λ q. at q (path_eq p q) refl)
  where
    made_is_empty : (put_node s.nodes s.made empty_node s.made).now ≡ []
    made_is_empty = rw (eq-eqb s.made s.made refl) refl

    old_stays : (q : Path) (n : ℕ) → present s q ≡ FileNode n → (put_node s.nodes s.made empty_node n).now ≡ (s.nodes n).now
    old_stays q n here =
        let less : n < s.made = (sound.tables (present s) (present_is_table s)).is_made q n here in
        ap (λ (node : Node). node.now) (put_node-other s.nodes s.made empty_node n (λ e. omega (arith, e, less)))

    at : (q : Path) (b : Bool) → path_eq p q ≡ b → found (λ n. (put_node s.nodes s.made empty_node n).now) (put (present s) p (FileNode s.made) q) ≡ put_found (seen s) p (FileOf []) q
    at q true e = rw (e) (ap FileOf made_is_empty)
    at q false e = rw (e) (same_found (λ n. (s.nodes n).now) (λ n. (put_node s.nodes s.made empty_node n).now) (present s q) (old_stays q))

append_seen : (s : State) (p : Path) (piece : List ℕ) → IsSound s → HasFile (present s) p → seen (changed s (Append p piece)) ≡ put_found (seen s) p (appended piece (seen s p))
append_seen s p piece sound file =
    ap (λ (x : Spot). seen (with_file s x (grown piece))) file.1 ∙ fun_ext (λ q. at q (path_eq p q) refl)
  where
    k : ℕ
    k = file.0

    new_now : ℕ → List ℕ
    new_now = λ n. (put_node s.nodes (file.0) (grown piece (s.nodes (file.0))) n).now

    grown_there : (put_node s.nodes (file.0) (grown piece (s.nodes (file.0))) (file.0)).now ≡ (s.nodes (file.0)).now ++ piece
    grown_there = rw (eq-eqb (file.0) (file.0) refl) refl

    others_stay : (q : Path) → p ≢ q → (n : ℕ) → present s q ≡ FileNode n → (put_node s.nodes (file.0) (grown piece (s.nodes (file.0))) n).now ≡ (s.nodes n).now
    others_stay q apart n here =
        ap (λ (node : Node). node.now) (put_node-other s.nodes (file.0) (grown piece (s.nodes (file.0))) n
        (λ e. apart ((sound.tables (present s) (present_is_table s)).alone p q n (file.1 ∙ ap FileNode e) here)))

    at : (q : Path) (b : Bool) → path_eq p q ≡ b
        → found (λ n. (put_node s.nodes (file.0) (grown piece (s.nodes (file.0))) n).now) (present s q) ≡ put_found (seen s) p (appended piece (seen s p)) q
    at q true e =
        let one : p ≡ q = (path_eq-Decides p q).0 e in
        rw e (ap (found (λ n. (put_node s.nodes (file.0) (grown piece (s.nodes (file.0))) n).now)) (ap (present s) (sym one) ∙ file.1) ∙ ap FileOf grown_there
        ∙ sym (ap (λ (x : Spot). appended piece (found (λ n. (s.nodes n).now) x)) file.1))
    at q false e =
        let apart : p ≢ q = λ one. (let yes_ : path_eq p q ≡ true = (path_eq-Decides p q).1 one in cc) in
        rw e (same_found (λ n. (s.nodes n).now) (λ n. (put_node s.nodes (file.0) (grown piece (s.nodes (file.0))) n).now) (present s q) (others_stay q apart))

sync_seen : (s : State) (p : Path) → seen (changed s (Sync p)) ≡ seen s
sync_seen s p = by_spot (present s p)
  where
    same_now : (n m : ℕ) → (put_node s.nodes n (synced (s.nodes n)) m).now ≡ (s.nodes m).now
    same_now n m = elim (nat_eq n m) as (λ b. nat_eq n m ≡ b → (cond b (synced (s.nodes n)) (s.nodes m)).now ≡ (s.nodes m).now) [
      | true ↦ λ e. ap (λ j. (s.nodes j).now) (eqb-true n m e)
      | false ↦ λ e. refl
    ] refl

    by_spot : (x : Spot) → seen (with_file s x synced) ≡ seen s
    by_spot Nothing = refl
    by_spot Directory = refl
    by_spot Odd = refl
    by_spot (FileNode n) = fun_ext (λ q. same_found (λ m. (s.nodes m).now) (λ m. (put_node s.nodes n (synced (s.nodes n)) m).now) (present s q) (λ m here. same_now n m))

-- what is seen after a call that is done
pub seen_changed : (s : State) (call : Call) → IsSound s → Allowed s call → seen (changed s call) ≡ seen_after (seen s) call
seen_changed s (MakeDir p) sound allowed = table_seen s (put (present s) p Directory) (put_found (seen s) p Folder) (put_seen (λ n. (s.nodes n).now) (present s) p Directory)
seen_changed s (Create p) sound allowed = create_seen s p sound
seen_changed s (Append p piece) sound allowed = append_seen s p piece sound allowed
seen_changed s (Sync p) sound allowed = sync_seen s p
seen_changed s Settle sound allowed = refl
seen_changed s (Rename old new) sound allowed =
    table_seen s (moved (present s) old new) (moved_view (seen s) old new) (moved_seen (λ n. (s.nodes n).now) (present s) old new)
seen_changed s (RemoveFile p) sound allowed = table_seen s (put (present s) p Nothing) (put_found (seen s) p NoEntry) (put_seen (λ n. (s.nodes n).now) (present s) p Nothing)
seen_changed s (RemoveDir p) sound allowed = table_seen s (put (present s) p Nothing) (put_found (seen s) p NoEntry) (put_seen (λ n. (s.nodes n).now) (present s) p Nothing)

-- What stands, by what is seen.
pub none_seen : (bytes : ℕ → List ℕ) (x : Spot) → found bytes x ≡ NoEntry → x ≡ Nothing
none_seen bytes Nothing e = refl
none_seen bytes Directory e = cc
none_seen bytes (FileNode n) e = cc
none_seen bytes Odd e = cc

pub folder_seen : (bytes : ℕ → List ℕ) (x : Spot) → found bytes x ≡ Folder → x ≡ Directory
folder_seen bytes Directory e = refl
folder_seen bytes Nothing e = cc
folder_seen bytes (FileNode n) e = cc
folder_seen bytes Odd e = cc

pub file_seen : (bytes : ℕ → List ℕ) (x : Spot) (file : List ℕ) → found bytes x ≡ FileOf file → (n : ℕ) × (x ≡ FileNode n)
file_seen bytes (FileNode n) file e = (n, refl)
file_seen bytes Nothing file e = cc
file_seen bytes Directory file e = cc
file_seen bytes Odd file e = cc

pub kind_seen : (bytes : ℕ → List ℕ) (x : Spot) → kind_of x ≡ kind_found (found bytes x)
kind_seen bytes Nothing = refl
kind_seen bytes Directory = refl
kind_seen bytes (FileNode n) = refl
kind_seen bytes Odd = refl

pub free_shown : (s : State) (p : Path) → IsFree (present s) p → ShowsFree (seen s) p
free_shown s p free = (ap (found (λ n. (s.nodes n).now)) free.0, ap (found (λ n. (s.nodes n).now)) free.1)

pub free_seen : (s : State) (p : Path) → ShowsFree (seen s) p → IsFree (present s) p
free_seen s p free = (none_seen (λ n. (s.nodes n).now) (present s p) free.0, folder_seen (λ n. (s.nodes n).now) (present s (parent p)) free.1)

pub file_shown : (s : State) (p : Path) → HasFile (present s) p → ShowsFile (seen s) p
file_shown s p file = ((s.nodes (file.0)).now, ap (found (λ n. (s.nodes n).now)) file.1)

pub has_file_seen : (s : State) (p : Path) → ShowsFile (seen s) p → HasFile (present s) p
has_file_seen s p file = file_seen (λ n. (s.nodes n).now) (present s p) file.0 file.1

-- a place for a file, by what is seen of a folder that tells its state
pub file_place_seen : (t : Option Told) (p : Path) → IfSeen t (λ v. ShowsFilePlace v p) → IfSome t (λ a. IsFilePlace (present a.state) p)
file_place_seen None p shown = tt
file_place_seen (Some a) p shown = elim (shown (seen a.state) refl) as (λ _. IsFilePlace (present a.state) p) [
  | inl free ↦ inl (free_seen a.state p free)
  | inr file ↦ inr (has_file_seen a.state p file)
]

pub file_place_shown : (t : Option Told) (p : Path) → IfSome t (λ a. IsFilePlace (present a.state) p) → IfSeen t (λ v. ShowsFilePlace v p)
file_place_shown None p place v is = absurd is
file_place_shown (Some a) p place v is = elim place as (λ _. ShowsFilePlace v p) [
  | inl free ↦ inl (subst (λ w. ShowsFree w p) (sym is) (free_shown a.state p free))
  | inr file ↦ inr (subst (λ w. ShowsFile w p) (sym is) (file_shown a.state p file))
]

-- a call may be made where what is seen says so
pub may_call_allowed : (s : State) (call : Call) → MayCall (seen s) call → Allowed s call
may_call_allowed s (MakeDir p) may = free_seen s p may
may_call_allowed s (Create p) may = free_seen s p may
may_call_allowed s (Append p piece) may = has_file_seen s p may
may_call_allowed s (Sync p) may = has_file_seen s p may
may_call_allowed s Settle may = tt
may_call_allowed s (Rename old new) may = (
  may.0,
  λ none. may.1 (ap (found (λ n. (s.nodes n).now)) none),
  may.2,
  elim may.3 as (λ _. IsFree (present s) new ⊎ (HasFile (present s) old × HasFile (present s) new)) [
    | inl free ↦ inl (free_seen s new free)
    | inr files ↦ inr (has_file_seen s old files.0, has_file_seen s new files.1)
  ],
)
may_call_allowed s (RemoveFile p) may = has_file_seen s p may
may_call_allowed s (RemoveDir p) may = (
  may.0,
  (folder_seen (λ n. (s.nodes n).now) (present s p) may.1, λ a. none_seen (λ n. (s.nodes n).now) (present s (child p a)) (may.2 a)),
)

pub allowed_may_call : (s : State) (call : Call) → Allowed s call → MayCall (seen s) call
allowed_may_call s (MakeDir p) allowed = free_shown s p allowed
allowed_may_call s (Create p) allowed = free_shown s p allowed
allowed_may_call s (Append p piece) allowed = file_shown s p allowed
allowed_may_call s (Sync p) allowed = file_shown s p allowed
allowed_may_call s Settle allowed = tt
allowed_may_call s (Rename old new) allowed = (
  allowed.0,
  λ none. allowed.1 (none_seen (λ n. (s.nodes n).now) (present s old) none),
  allowed.2,
  elim allowed.3 as (λ _. ShowsFree (seen s) new ⊎ (ShowsFile (seen s) old × ShowsFile (seen s) new)) [
    | inl free ↦ inl (free_shown s new free)
    | inr files ↦ inr (file_shown s old files.0, file_shown s new files.1)
  ],
)
allowed_may_call s (RemoveFile p) allowed = file_shown s p allowed
allowed_may_call s (RemoveDir p) allowed = (
  allowed.0,
  ap (found (λ n. (s.nodes n).now)) allowed.1.0,
  λ a. ap (found (λ n. (s.nodes n).now)) (allowed.1.1 a),
)

-- an entry that is neither file nor directory stood somewhere before
pub none_made_odd : (s : State) (call : Call) (q : Path) → present (changed s call) q ≡ Odd → (p : Path) × (present s p ≡ Odd)
none_made_odd s call q odd = by_call call odd
  where
    put_odd : (p : Path) (x : Spot) → x ≢ Odd → present (with_table s (put (present s) p x)) q ≡ Odd → (r : Path) × (present s r ≡ Odd)
    put_odd p x other odd =
        let here : put (present s) p x q ≡ Odd = sym (ap (λ t. t q) (last_of-push s.kept s.later (put (present s) p x))) ∙ odd in
        elim (one_or_not p q) as (λ _. (r : Path) × (present s r ≡ Odd)) [
          | inl e ↦ absurd (other (sym (put-same (present s) p x) ∙ ap (put (present s) p x) e ∙ here))
          | inr k ↦ (q, sym (put-other (present s) p x q k.0) ∙ here)
        ]

    file_odd : (x : Spot) (change : Node → Node) → present (with_file s x change) q ≡ Odd → (r : Path) × (present s r ≡ Odd)
    file_odd Nothing change odd = (q, odd)
    file_odd Directory change odd = (q, odd)
    file_odd Odd change odd = (q, odd)
    file_odd (FileNode n) change odd = (q, odd)

    by_call : (call : Call) → present (changed s call) q ≡ Odd → (r : Path) × (present s r ≡ Odd)
    by_call (MakeDir p) odd = put_odd p Directory (λ e. cc) odd
    by_call (Create p) odd = put_odd p (FileNode s.made) (λ e. cc) odd
    by_call (Append p piece) odd = file_odd (present s p) (grown piece) odd
    by_call (Sync p) odd = file_odd (present s p) synced odd
    by_call Settle odd = (q, odd)
    by_call (Rename old new) odd =
        let here : moved (present s) old new q ≡ Odd = sym (ap (λ t. t q) (last_of-push s.kept s.later (moved (present s) old new))) ∙ odd in
        moved_odd (below new q) (below old q) here
      where
        moved_odd : (a b : Option Path) → moved_spot (present s) old q a b ≡ Odd → (r : Path) × (present s r ≡ Odd)
        moved_odd (Some rest) b e = (old ++ rest, e)
        moved_odd None (Some rest) e = cc e
        moved_odd None None e = (q, e)
    by_call (RemoveFile p) odd = put_odd p Nothing (λ e. cc) odd
    by_call (RemoveDir p) odd = put_odd p Nothing (λ e. cc) odd
