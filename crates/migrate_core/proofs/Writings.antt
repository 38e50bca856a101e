-- What is written, one item after the other.
use Rattle.std.proofs.Common.{◌≡◌, ◌≢◌, ◌+◌, inl, inr, ◌≤◌, ◌<◌, ℕ, zero, suc, nat_lt, Bool, true, false, not, List, [], ◌∷◌, ◌++◌, Contains, Option, Some, None, IsErrAnd, IsTrue, Result, Ok, Err, refl, sym, ap, ◌∙◌, subst, arith, append_assoc, append-nil}
use Rattle.std.specs.List.{concat}
use Rattle.std.proofs.lemmas.Bool.{ltb-true, ltb-false}
use Rattle.std.proofs.lemmas.List.Elements.{filter-append}
use Rattle.folder_spec.proofs.Moments.{went_nowhere, went_on, went_more, went_to, went_by_call}
use Rattle.folder_spec.proofs.Tellings.{from_to_more, from_to_on, from_to_same}
use Rattle.folder_spec.specs.Event.{Append, Call, Create, Event, MakeDir, RemoveDir, RemoveFile, Rename, Sync, Told, FromTo, Changes, Settle, Steps, changed}
use Rattle.folder_spec.specs.Moments.{Went, Moments}
use Rattle.folder_spec.specs.Seen.{IfSeen, IsSeen, seen, under}
use Rattle.folder_spec.specs.State.{Node, State, BeginsWith}
use Rattle.folder_spec.specs.View.{Found, View}
use Rattle.folder_spec.specs.Path.{Path}
use Rattle.folder_spec.specs.Region.{Spares, SparesOld, apart_from}
use Rattle.folder_spec.specs.Written.{HoldFronts}
use Rattle.folder_spec.specs.declared.FolderFault.{FolderFault}
use Rattle.vault_write.specs.ContentsComing.{ending_of}
use Rattle.item_making.specs.declared.fault.PutFault.{PutFault}
use Rattle.item_making.specs.declared.fault.PutFault.TheVariants as put
use Rattle.vault_write.specs.Refusing.{Answers}
use Rattle.migrate_core.specs.Faults.{IsOfTest}
use Rattle.migrate_core.specs.declared.fault.MoveFault.{MoveFault}
use Rattle.migrate_core.specs.declared.fault.MoveFault.TheVariants.{Work, Journal as Unread, Overlap, Load, Walk, NotEmpty, NotAllowed, Meet, Changed, Match as Matching, Differ, Place, SourceGone, Failed, NoMemory}
use Rattle.move_journal.specs.Journal.{journal_text}
use Rattle.move_journal.specs.Writing.{IsWriting, elsewhere}
use Rattle.move_journal.specs.Writing as journal
use Rattle.move_journal.specs.declared.journal.Journal.{Journal}
use Rattle.port_model.specs.Draws.{ByteStream, Draws}
use Rattle.tree_match.specs.Comparing.{bytes_found}
use Rattle.vault_read.specs.Contents.{limited_reading}
use Rattle.vault_spec.specs.Opened.{OpenedVault}
use Rattle.vault_spec.specs.Making.{NewFile}
use Rattle.vault_spec.specs.Plan.{Planned}
use Rattle.vault_spec.specs.Vault.{format_of}
use Rattle.item_making.specs.Making.{IsPlace, Making, StagesOrPlaces}
use Rattle.work_folder.specs.Changing.{ChangesAt, ChangesOnly, IsChangingAt}
use Rattle.migrate_core.proofs.Placings.{below_root}
use Rattle.migrate_core.proofs.WorkFolders.{apart_at, elsewhere_at, not_in_root, not_moved}
use Rattle.folder_spec.specs.Apart.{AreApart}
use Rattle.migration_sides.proofs.Chains.{refused_as}
use Rattle.migrate_core.specs.Moved.{is_there}
use Rattle.migrate_core.specs.Causes.{IsStop, nothing_stops}
use Rattle.migrate_core.specs.Written.{HasGone, IsOfNoItem, WasAnswered, WasSeen, WereAnswered, ending_by, last_answer, placing_in, BringsOnlyTo, IsMadePlace, WritesBeside, AreCopies, HoldsOnly, IsOneOf, MadeItem, Writes, WritesAll, WritesBy, WritesFirst, WritesOnly, lacked, slices, IsMadeIn}

-- ---- members

pub in_first : {X : Type 0} (xs ys : List X) (x : X) → Contains xs x → Contains (xs ++ ys) x
in_first [] ys x c = absurd (omega (arith, c.1))
in_first (z ∷ zs) ys x (zero, lt, is) = (zero, omega arith, is)
in_first (z ∷ zs) ys x (suc k, lt, is) = let c = in_first zs ys x (k, omega (arith, lt), is) in (suc c.0, omega (arith, c.1), c.2)

pub in_second : {X : Type 0} (xs ys : List X) (x : X) → Contains ys x → Contains (xs ++ ys) x
in_second [] ys x c = c
in_second (z ∷ zs) ys x c = let d = in_second zs ys x c in (suc d.0, omega (arith, d.1), d.2)

-- ---- files

pub holds_same : (P : List ℕ → Type 0) (s : State) → HoldsOnly P s s
holds_same P s = record { nodes = λ n old. refl; made = omega arith; fronts = λ n new made. absurd (omega (arith, new, made)) }

holds_on : (P Q R : List ℕ → Type 0) → ((file : List ℕ) → P file → R file) → ((file : List ℕ) → Q file → R file) → (s0 s1 s : State) → HoldsOnly P s0 s1 → HoldsOnly Q s1 s → HoldsOnly R s0 s
holds_on P Q R one other s0 s1 s p q = record {
  nodes = λ n old. q.nodes n (omega (arith, old, p.made)) ∙ p.nodes n old;
  made = omega (arith, p.made, q.made);
  fronts = λ n new made. by n new made (nat_lt n s1.made) refl;
}
  where
    by : (n : ℕ) → s0.made ≤ n → n < s.made → (b : Bool) → nat_lt n s1.made ≡ b → (file : List ℕ) × R file × BeginsWith file (s.nodes n).now
    by n new made true is =
        let lt : n < s1.made = ltb-true n s1.made is in
        let f = p.fronts n new lt in
        (f.0, one f.0 f.1, subst (λ (node : Node). BeginsWith f.0 node.now) (sym (q.nodes n lt)) f.2)
    by n new made false is = let f = q.fronts n (ltb-false n s1.made is) made in (f.0, other f.0 f.1, f.2)

holds_more : (P R : List ℕ → Type 0) → ((file : List ℕ) → P file → R file) → (s0 s : State) → HoldsOnly P s0 s → HoldsOnly R s0 s
holds_more P R one s0 s p = record { nodes = p.nodes; made = p.made; fronts = λ n new made. let f = p.fronts n new made in (f.0, one f.0 f.1, f.2) }

abbrev pub Calls : (Call → Type 0) → State → Event → Type 0
Calls Q s e = Q e.call

pub only_nowhere : (C : Call → Type 0) (P : List ℕ → Type 0) (t u : Option Told) → u ≡ t → WritesOnly C P t u
only_nowhere C P t u is = from_to_same (λ a b. Went (HoldsOnly P a.state) (Calls C) a b) t u is (λ a. went_nowhere (HoldsOnly P a.state) (Calls C) a (holds_same P a.state))

pub only_more : (C D : Call → Type 0) (P R : List ℕ → Type 0) → ((call : Call) → C call → D call) → ((file : List ℕ) → P file → R file) → (t u : Option Told) → WritesOnly C P t u → WritesOnly D R t u
only_more C D P R more one t u writes =
    from_to_more (λ a b. Went (HoldsOnly P a.state) (Calls C) a b) (λ a b. Went (HoldsOnly R a.state) (Calls D) a b) t u
    (λ a b is went. went_more (HoldsOnly P a.state) (HoldsOnly R a.state) (Calls C) (Calls D) a b (λ s h. holds_more P R one a.state s h) (λ s e h. more e.call h) went) writes

pub only_on : (C D E : Call → Type 0) (P Q R : List ℕ → Type 0) → ((call : Call) → C call → E call) → ((call : Call) → D call → E call) → ((file : List ℕ) → P file → R file) → ((file : List ℕ) → Q file → R file)
    → (t u w : Option Told) → WritesOnly C P t u → WritesOnly D Q u w → WritesOnly E R t w
only_on C D E P Q R more further one other t u w first later =
    from_to_on (λ a b. Went (HoldsOnly P a.state) (Calls C) a b) (λ a b. Went (HoldsOnly Q a.state) (Calls D) a b) (λ a b. Went (HoldsOnly R a.state) (Calls E) a b) t u w
    (λ a b c p q. went_on (HoldsOnly R a.state) (Calls E) a b c
    (went_more (HoldsOnly P a.state) (HoldsOnly R a.state) (Calls C) (Calls E) a b (λ s h. holds_more P R one a.state s h) (λ s e h. more e.call h) p)
    (went_more (HoldsOnly Q b.state) (HoldsOnly R a.state) (Calls D) (Calls E) b c (λ s h. holds_on P Q R one other a.state b.state s (went_to (HoldsOnly P a.state) (Calls C) a b p) h) (λ s e h. further e.call h) q)) first later

pub beside_on : (root : Path) (P Q R : List ℕ → Type 0) → ((file : List ℕ) → P file → R file) → ((file : List ℕ) → Q file → R file) → (t u w : Option Told) → WritesBeside root P t u → WritesBeside root Q u w → WritesBeside root R t w
beside_on root P Q R = only_on (BringsOnlyTo root (λ at. ⊥)) (BringsOnlyTo root (λ at. ⊥)) (BringsOnlyTo root (λ at. ⊥)) P Q R (λ call is. is) (λ call is. is)

-- ---- places

-- what comes to some places comes to more
pub brings_more : (root : Path) (P Q : Path → Type 0) → ((at : Path) → P at → Q at) → (call : Call) → BringsOnlyTo root P call → BringsOnlyTo root Q call
brings_more root P Q more (MakeDir at) h = elim h [ inl none ↦ inl none | inr is ↦ inr (more at is) ]
brings_more root P Q more (Create at) h = elim h [ inl none ↦ inl none | inr is ↦ inr (more at is) ]
brings_more root P Q more (Rename old at) h = elim h [ inl none ↦ inl none | inr is ↦ inr (more at is) ]
brings_more root P Q more (Append at piece) h = tt
brings_more root P Q more (Sync at) h = tt
brings_more root P Q more Settle h = tt
brings_more root P Q more (RemoveFile at) h = tt
brings_more root P Q more (RemoveDir at) h = tt

-- what brings nothing anywhere
pub brings_none : (root : Path) (P : Path → Type 0) (call : Call) → BringsOnlyTo [] (λ at. ⊥) call → BringsOnlyTo root P call
brings_none root P (MakeDir at) h = elim h [ inl none ↦ cc none | inr never ↦ absurd never ]
brings_none root P (Create at) h = elim h [ inl none ↦ cc none | inr never ↦ absurd never ]
brings_none root P (Rename old at) h = elim h [ inl none ↦ cc none | inr never ↦ absurd never ]
brings_none root P (Append at piece) h = tt
brings_none root P (Sync at) h = tt
brings_none root P Settle h = tt
brings_none root P (RemoveFile at) h = tt
brings_none root P (RemoveDir at) h = tt

-- what spares all at a root
spares_root : (region : Path → Bool) (root : Path) → ((rest : Path) → IsTrue (region (root ++ rest))) → (call : Call) → Spares region call → BringsOnlyTo root (λ at. ⊥) call
spares_root region root inside (MakeDir p) h = inl (not_in_root region root p inside h)
spares_root region root inside (Create p) h = inl (not_in_root region root p inside h)
spares_root region root inside (Rename old new) h = inl (not_moved region root new inside (λ q is. (h q is).0))
spares_root region root inside (Append p piece) h = tt
spares_root region root inside (Sync p) h = tt
spares_root region root inside Settle h = tt
spares_root region root inside (RemoveFile p) h = tt
spares_root region root inside (RemoveDir p) h = tt

-- what brings an item to its places
pub places_bring : (root work : Path) → AreApart root work → (m : Making) (P : Path → Type 0) → ((at : Path) → IsPlace m.edits at → P at) → (s : State) (call : Call) → StagesOrPlaces work m s call → BringsOnlyTo root P call
places_bring root work apart m P among s (MakeDir at) h = elim h [ inl staged ↦ inl (below_root root work apart at staged) | inr place ↦ inr (among at place) ]
places_bring root work apart m P among s (Create at) h = inl (below_root root work apart at h)
places_bring root work apart m P among s (Rename staged at) h = inr (among at h.1)
places_bring root work apart m P among s (Append at piece) h = tt
places_bring root work apart m P among s (Sync at) h = tt
places_bring root work apart m P among s Settle h = tt
places_bring root work apart m P among s (RemoveFile at) h = tt
places_bring root work apart m P among s (RemoveDir at) h = tt

-- ---- items

copies_on : (from : OpenedVault) (v : View) (items more : List Planned) (made others : List MadeItem) → AreCopies from v items made → AreCopies from v more others → AreCopies from v (items ++ more) (made ++ others)
copies_on from v [] more [] others one other = other
copies_on from v (item ∷ items) more (x ∷ made) others one other = (one.0, copies_on from v items more made others one.1 other)
copies_on from v [] more (x ∷ made) others one other = absurd one
copies_on from v (item ∷ items) more [] others one other = absurd one

slices_on : (made others : List MadeItem) → slices (made ++ others) ≡ slices made ++ slices others
slices_on [] others = refl
slices_on (x ∷ made) others = ap (λ (ys : List ℕ). x.drawn ++ ys) (slices_on made others) ∙ sym (append_assoc x.drawn (slices made) (slices others))

-- what stands where these items are is as it was
abbrev pub Kept : List Planned → Option Told → Option Told → Type 0
Kept items = FromTo (λ a b. (item : Planned) → Contains items item → seen b.state item.at ≡ seen a.state item.at)

copies_as : (from : OpenedVault) (v w : View) (items : List Planned) (made : List MadeItem) → ((item : Planned) → Contains items item → w item.at ≡ v item.at) → AreCopies from w items made → AreCopies from v items made
copies_as from v w [] [] same copies = tt
copies_as from v w (item ∷ items) (x ∷ made) same copies = (
  record {
    path = copies.0.path;
    directory = copies.0.directory;
    file = λ is. copies.0.file is ∙ ap (λ (found : Found). NewFile (concat (limited_reading (format_of from.vault).content (bytes_found found)).chunks)) (same item (zero, omega arith, refl));
  },
  copies_as from v w items made (λ other among. same other (suc among.0, omega (arith, among.1), among.2)) copies.1,
)
copies_as from v w [] (x ∷ made) same copies = absurd copies
copies_as from v w (item ∷ items) [] same copies = absurd copies

copies_before : (from : OpenedVault) (items : List Planned) (made : List MadeItem) (t u : Option Told) → Kept items t u → IfSeen u (λ w. AreCopies from w items made)
    → IfSeen t (λ v. AreCopies from v items made)
copies_before from items made (Some a) (Some b) kept later v is = copies_as from v (seen b.state) items made (λ item among. kept item among ∙ sym (ap (λ (w : View). w item.at) is)) (later (seen b.state) refl)
copies_before from items made None u kept later v is = absurd is
copies_before from items made (Some a) None kept later v is = absurd kept

-- ---- what placing each came to

-- no item is why, unless it isn't placed
pub is_test : (fault : MoveFault) → ((why : PutFault) → fault ≢ Place why) → IsOfTest fault
is_test (Place why) other = other why refl
is_test (Work fault) other = tt
is_test (Unread fault) other = tt
is_test (Overlap p q) other = tt
is_test (Load side fault) other = tt
is_test (Walk fault) other = tt
is_test (NotEmpty at) other = tt
is_test (NotAllowed path) other = tt
is_test (Meet one more) other = tt
is_test (Changed plan items plan' items') other = tt
is_test (Matching fault) other = tt
is_test (Differ path how) other = tt
is_test SourceGone other = tt
is_test Failed other = tt
is_test NoMemory other = tt

pub stop_is_test : (fault : MoveFault) (Is : Type 0) → IsStop Is nothing_stops fault → IsOfTest fault
stop_is_test fault Is stops = is_test fault (λ why is. subst (IsStop Is nothing_stops) is stops)

untold : (fault : MoveFault) → IsOfTest fault → last_answer (Err fault) ≡ Err put.NoMemory
untold (Place why) none = absurd none
untold (Work fault) none = refl
untold (Unread fault) none = refl
untold (Overlap p q) none = refl
untold (Load side fault) none = refl
untold (Walk fault) none = refl
untold (NotEmpty at) none = refl
untold (NotAllowed path) none = refl
untold (Meet one other) none = refl
untold (Changed plan items plan' items') none = refl
untold (Matching fault) none = refl
untold (Differ path how) none = refl
untold SourceGone none = refl
untold Failed none = refl
untold NoMemory none = refl

passed_of : (P : State → Type 0) (Q : State → Event → Type 0) (a b : Told) → Went P Q a b → HasGone a b
passed_of P Q a b went = went_more P (λ s. Unit {0}) Q (λ s e. Unit {0}) a b (λ s h. tt) (λ s e h. tt) went

was_seen_on : (C : Call → Type 0) (P : List ℕ → Type 0) (t u w : Option Told) (v : View) → WritesOnly C P t u → WasSeen u w v → WasSeen t w v
was_seen_on C P t u w v =
    from_to_on (λ a b. Went (HoldsOnly P a.state) (Calls C) a b) (λ b e. (c : Told) × HasGone b c × HasGone c e × (v ≡ seen c.state)) (λ a e. (c : Told) × HasGone a c × HasGone c e × (v ≡ seen c.state)) t u w
    (λ a b e went was. (was.0, went_on (λ s. Unit {0}) (λ s e. Unit {0}) a b was.0 (passed_of (HoldsOnly P a.state) (Calls C) a b went) was.1, was.2, was.3))

was_seen_then : (C : Call → Type 0) (P : List ℕ → Type 0) (t u w : Option Told) (v : View) → WritesOnly C P u w → WasSeen t u v → WasSeen t w v
was_seen_then C P t u w v went was =
    from_to_on (λ a b. (c : Told) × HasGone a c × HasGone c b × (v ≡ seen c.state)) (λ b e. Went (HoldsOnly P b.state) (Calls C) b e) (λ a e. (c : Told) × HasGone a c × HasGone c e × (v ≡ seen c.state)) t u w
    (λ a b e was went. (was.0, was.1, went_on (λ s. Unit {0}) (λ s e. Unit {0}) was.0 b e was.2 (passed_of (HoldsOnly P b.state) (Calls C) b e went), was.3)) was went

-- what is seen at first
pub was_first : (P : State → State → Type 0) (Q : State → State → Event → Type 0) (t u : Option Told) (v : View) → Moments P Q t u → IsSeen t v → WasSeen t u v
was_first P Q (Some a) (Some b) v went is = (a, went_nowhere (λ s. Unit {0}) (λ s e. Unit {0}) a tt, passed_of (P a.state) (Q a.state) a b went, is)
was_first P Q (Some a) None v went is = absurd went
was_first P Q None u v went is = absurd is

-- ---- places and files of items

abbrev made_in_more : (to : OpenedVault) (Shown More : View → Type 0) → ((v : View) → Shown v → More v) → (x : MadeItem) → IsMadeIn to Shown x → IsMadeIn to More x
made_in_more to Shown More more x m = record { front = m.front; name = m.name; is = m.is; moment = m.moment; shown = more m.moment m.shown; dir = m.dir; entered = m.entered }

-- of more items, at more moments, and with more texts
module _ (to : OpenedVault) (Shown More : View → Type 0) (more : (v : View) → Shown v → More v) (made others : List MadeItem) (within : (x : MadeItem) → Contains made x → Contains others x) where
  pub places_more : (at : Path) → IsMadePlace to Shown made at → IsMadePlace to More others at
  places_more at (x, among, (m, place)) = (x, within x among, (made_in_more to Shown More more x m, place))

  pub brings_places : (call : Call) → BringsOnlyTo to.root (IsMadePlace to Shown made) call → BringsOnlyTo to.root (IsMadePlace to More others) call
  brings_places = brings_more to.root (IsMadePlace to Shown made) (IsMadePlace to More others) places_more

  pub files_more : (texts further : List (List ℕ)) → ((text : List ℕ) → Contains texts text → Contains further text) → (file : List ℕ) → IsOneOf to Shown made texts file → IsOneOf to More others further file
  files_more texts further text_within file (inl text) = inl (text_within file text)
  files_more texts further text_within file (inr (x, among, (m, is))) = inr (x, within x among, (made_in_more to Shown More more x m, is))

-- of which the item tells nothing
answered_test : (from to : OpenedVault) (t u : Option Told) (v : View) (item : Planned) (x : MadeItem) (answer : Result (Unit {0}) MoveFault) → IsOfNoItem answer → WasAnswered from to t u v item x (Ok tt)
    → WasAnswered from to t u v item x (last_answer answer)
answered_test from to t u v item x (Ok value) test was = was
answered_test from to t u v item x (Err fault) test was =
    subst (WasAnswered from to t u v item x) (sym (untold fault test))
    (record { enough = was.enough; moment = was.moment; seen = was.seen; named = λ front name is. tt; root = λ is other. refl })

pub answered_tests : (from to : OpenedVault) (t u : Option Told) (v : View) (items : List Planned) (made : List MadeItem) (answer : Result (Unit {0}) MoveFault) → IsOfNoItem answer → WereAnswered from to t u v items made (Ok tt)
    → WereAnswered from to t u v items made answer
answered_tests from to t u v [] [] answer test were = test
answered_tests from to t u v (item ∷ []) (x ∷ []) answer test were = answered_test from to t u v item x answer test were
answered_tests from to t u v (item ∷ next ∷ items) (x ∷ made) answer test were = (were.0, answered_tests from to t u v (next ∷ items) made answer test were.1)
answered_tests from to t u v (item ∷ []) (x ∷ y ∷ made) answer test were = absurd were
answered_tests from to t u v (item ∷ []) [] answer test were = absurd were
answered_tests from to t u v (item ∷ next ∷ items) [] answer test were = absurd were
answered_tests from to t u v [] (x ∷ made) answer test were = absurd were

-- one after another
answered_on : (from to : OpenedVault) (t u : Option Told) (v : View) (items more : List Planned) (made others : List MadeItem) (answer : Result (Unit {0}) MoveFault) → WereAnswered from to t u v items made (Ok tt) → WereAnswered from to t u v more others answer
    → WereAnswered from to t u v (items ++ more) (made ++ others) answer
answered_on from to t u v [] more [] others answer one other = other
answered_on from to t u v (item ∷ []) [] (x ∷ []) [] answer one other = answered_test from to t u v item x answer other one
answered_on from to t u v (item ∷ []) (next ∷ more) (x ∷ []) others answer one other = (one, other)
answered_on from to t u v (item ∷ next ∷ items) more (x ∷ made) others answer one other = (one.0, answered_on from to t u v (next ∷ items) more made others answer one.1 other)
answered_on from to t u v (item ∷ []) [] (x ∷ []) (y ∷ others) answer one other = absurd other
answered_on from to t u v (item ∷ []) more (x ∷ y ∷ made) others answer one other = absurd one
answered_on from to t u v (item ∷ []) more [] others answer one other = absurd one
answered_on from to t u v (item ∷ next ∷ items) more [] others answer one other = absurd one
answered_on from to t u v [] more (x ∷ made) others answer one other = absurd one

-- what is so of each is so of all
answered_each : (from to : OpenedVault) (t u t' u' : Option Told) (v w : View) (items : List Planned) (made : List MadeItem) (answer : Result (Unit {0}) MoveFault)
    → ((item : Planned) → Contains items item → (x : MadeItem) (given : Result (Unit {0}) PutFault) → WasAnswered from to t u w item x given → WasAnswered from to t' u' v item x given)
    → WereAnswered from to t u w items made answer → WereAnswered from to t' u' v items made answer
answered_each from to t u t' u' v w [] [] answer each were = were
answered_each from to t u t' u' v w (item ∷ []) (x ∷ []) answer each were = each item (zero, omega arith, refl) x (last_answer answer) were
answered_each from to t u t' u' v w (item ∷ next ∷ items) (x ∷ made) answer each were = (
  each item (zero, omega arith, refl) x (Ok tt) were.0,
  answered_each from to t u t' u' v w (next ∷ items) made answer (λ other among. each other (suc among.0, omega (arith, among.1), among.2)) were.1,
)
answered_each from to t u t' u' v w (item ∷ []) (x ∷ y ∷ made) answer each were = absurd were
answered_each from to t u t' u' v w (item ∷ []) [] answer each were = absurd were
answered_each from to t u t' u' v w (item ∷ next ∷ items) [] answer each were = absurd were
answered_each from to t u t' u' v w [] (x ∷ made) answer each were = absurd were

-- before other calls
pub answered_then : (C : Call → Type 0) (P : List ℕ → Type 0) (from to : OpenedVault) (t u w : Option Told) (v : View) (items : List Planned) (made : List MadeItem) (answer : Result (Unit {0}) MoveFault) → WritesOnly C P u w
    → WereAnswered from to t u v items made answer → WereAnswered from to t w v items made answer
answered_then C P from to t u w v items made answer went =
    answered_each from to t u t w v v items made answer
    (λ item among x given was. record { enough = was.enough; moment = was.moment; seen = was_seen_then C P t u w was.moment went was.seen; named = was.named; root = was.root })

-- and behind them, where what stands where these items are stays
answered_behind : (C : Call → Type 0) (P : List ℕ → Type 0) (from to : OpenedVault) (t u w : Option Told) (items : List Planned) (made : List MadeItem) (answer : Result (Unit {0}) MoveFault) → WritesOnly C P t u → Kept items t u
    → IfSeen u (λ v. WereAnswered from to u w v items made answer) → IfSeen t (λ v. WereAnswered from to t w v items made answer)
answered_behind C P from to (Some a) (Some b) w items made answer went kept later v is =
    answered_each from to (Some b) w (Some a) w v (seen b.state) items made answer
    (λ item among x given was. record {
      enough = was.enough;
      moment = was.moment;
      seen = was_seen_on C P (Some a) (Some b) w was.moment went was.seen;
      named = λ front name named. subst (λ ending. Answers (placing_in to front name x.item) x.drawn ending (under to.root was.moment) given)
          (ap (λ (found : Found). ending_by item.node (ending_of item.at (limited_reading (format_of from.vault).content (bytes_found found)).ending)) (kept item among ∙ sym (ap (λ (z : View). z item.at) is)))
          (was.named front name named);
      root = was.root;
    }) (later (seen b.state) refl)
answered_behind C P from to None u w items made answer went kept later v is = absurd is
answered_behind C P from to (Some a) None w items made answer went kept later v is = absurd kept

-- ---- one part after another

abbrev pub Compose : Type 0
Compose = (first second third : Option ByteStream) (xs ys : List ℕ) → Draws first second xs → Draws second third ys → Draws first third (xs ++ ys)

module _ (compose : Compose) (from to : OpenedVault) (items more : List Planned) (texts others : List (List ℕ)) (s s1 s2 : Option ByteStream) (t u w : Option Told) where
  writes_on : (answer : Result (Unit {0}) MoveFault) (m n : List MadeItem) → Kept more t u → Writes (Ok tt) from to items m texts s s1 t u → Writes answer from to more n others s1 s2 u w → Writes answer from to (items ++ more) (m ++ n) (texts ++ others) s s2 t w
  writes_on answer m n kept one other = record {
    drawn = subst (Draws s s2) (sym (slices_on m n)) (compose s s1 s2 (slices m) (slices n) one.drawn other.drawn);
    copies = λ v is. copies_on from v items more m n (one.copies v is) (copies_before from more n t u kept other.copies v is);
    answered = λ v is. answered_on from to t w v items more m n answer
        (answered_then (BringsOnlyTo to.root (IsMadePlace to (WasSeen u w) n)) (IsOneOf to (WasSeen u w) n others) from to t u w v items m (Ok tt) other.files (one.answered v is))
        (answered_behind (BringsOnlyTo to.root (IsMadePlace to (WasSeen t u) m)) (IsOneOf to (WasSeen t u) m texts) from to t u w more n answer one.files kept other.answered v is);
    files = only_on (BringsOnlyTo to.root (IsMadePlace to (WasSeen t u) m)) (BringsOnlyTo to.root (IsMadePlace to (WasSeen u w) n)) (BringsOnlyTo to.root (IsMadePlace to (WasSeen t w) (m ++ n)))
        (IsOneOf to (WasSeen t u) m texts) (IsOneOf to (WasSeen u w) n others) (IsOneOf to (WasSeen t w) (m ++ n) (texts ++ others))
        (brings_places to (WasSeen t u) (WasSeen t w) seen_first m (m ++ n) (in_first m n)) (brings_places to (WasSeen u w) (WasSeen t w) seen_later n (m ++ n) (in_second m n))
        (files_more to (WasSeen t u) (WasSeen t w) seen_first m (m ++ n) (in_first m n) texts (texts ++ others) (in_first texts others))
        (files_more to (WasSeen u w) (WasSeen t w) seen_later n (m ++ n) (in_second m n) others (texts ++ others) (in_second texts others)) t u w one.files other.files;
  }
    where
      seen_first : (v : View) → WasSeen t u v → WasSeen t w v
      seen_first v = was_seen_then (BringsOnlyTo to.root (IsMadePlace to (WasSeen u w) n)) (IsOneOf to (WasSeen u w) n others) t u w v other.files

      seen_later : (v : View) → WasSeen u w v → WasSeen t w v
      seen_later v = was_seen_on (BringsOnlyTo to.root (IsMadePlace to (WasSeen t u) m)) (IsOneOf to (WasSeen t u) m texts) t u w v one.files

  pub all_on : Kept more t u → WritesAll from to items texts s s1 t u → WritesAll from to more others s1 s2 u w → WritesAll from to (items ++ more) (texts ++ others) s s2 t w
  all_on kept one other = record {
    made = one.made ++ other.made;
    writes = writes_on (Ok tt) one.made other.made kept one.writes other.writes;
  }

module _ (compose : Compose) (from to : OpenedVault) (items more : List Planned) (texts others : List (List ℕ)) (s s1 s2 : Option ByteStream) (t u w : Option Told) where
  pub first_on : Kept more t u → WritesAll from to items texts s s1 t u → (fault : MoveFault) → WritesFirst fault from to more others s1 s2 u w → WritesFirst fault from to (items ++ more) (texts ++ others) s s2 t w
  first_on kept one fault other = record {
    made = one.made ++ other.made;
    first = items ++ other.first;
    rest = other.rest;
    are = ap (λ (xs : List Planned). items ++ xs) other.are ∙ sym (append_assoc items other.first other.rest);
    writes = writes_on compose from to items other.first texts others s s1 s2 t u w (Err fault) one.made other.made
        (from_to_more _ _ t u (λ a b is kept item among. kept item (subst (λ (xs : List Planned). Contains xs item) (sym other.are) (in_first other.first other.rest item among))) kept) one.writes other.writes;
  }

-- what comes nowhere in the target comes to places of items
beside_made : (to : OpenedVault) (Shown : View → Type 0) (made : List MadeItem) (P R : List ℕ → Type 0) → ((file : List ℕ) → P file → R file) → (t u : Option Told) → WritesBeside to.root P t u → WritesOnly (BringsOnlyTo to.root (IsMadePlace to Shown made)) R t u
beside_made to Shown made P R more = only_more (BringsOnlyTo to.root (λ at. ⊥)) (BringsOnlyTo to.root (IsMadePlace to Shown made)) P R (brings_more to.root (λ at. ⊥) (IsMadePlace to Shown made) (λ at none. absurd none)) more

module _ (from to : OpenedVault) (items : List Planned) (texts : List (List ℕ)) (s s' : Option ByteStream) (t t' : Option Told) where
  pub first_of_all : (fault : MoveFault) → IfSeen t (λ v. IsOfTest fault) → WritesAll from to items texts s s' t t' → WritesFirst fault from to items texts s s' t t'
  first_of_all fault test all = record {
    made = all.made;
    first = items;
    rest = [];
    are = sym (append-nil items);
    writes = record {
      drawn = all.writes.drawn;
      copies = all.writes.copies;
      answered = λ v is. answered_tests from to t t' v items all.made (Err fault) (test v is) (all.writes.answered v is);
      files = all.writes.files;
    };
  }

  pub first_of_more : (more : List Planned) (fault : MoveFault) → WritesFirst fault from to items texts s s' t t' → WritesFirst fault from to (items ++ more) texts s s' t t'
  first_of_more more fault some = record {
    made = some.made;
    first = some.first;
    rest = some.rest ++ more;
    are = ap (λ (xs : List Planned). xs ++ more) some.are ∙ append_assoc some.first some.rest more;
    writes = some.writes;
  }

  -- no item, and only a text
  pub texts_alone : Draws s s' [] → WritesBeside to.root (λ file. Contains texts file) t t' → WritesAll from to [] texts s s' t t'
  texts_alone undrawn files = record {
    made = [];
    writes = record { drawn = undrawn; copies = λ v is. tt; answered = λ v is. tt; files = beside_made to (WasSeen t t') [] (λ file. Contains texts file) (IsOneOf to (WasSeen t t') [] texts) (λ file text. inl text) t t' files };
  }

-- ---- the items that are lacked

pub lacked_more : (there xs ys : List Planned) → lacked there (xs ++ ys) ≡ lacked there xs ++ lacked there ys
lacked_more there xs ys = filter-append (λ (item : Planned). not (is_there there item)) xs ys

-- ---- what makes no file of an item

writing_only : (text : List ℕ) (s0 s : State) → ((n : ℕ) → n < s0.made → s.nodes n ≡ s0.nodes n) → s0.made ≤ s.made → HoldFronts (text ∷ []) s0 s → HoldsOnly (λ file. Contains (text ∷ []) file) s0 s
writing_only text s0 s nodes made fronts = record { nodes = nodes; made = made; fronts = λ n new inside. let f = fronts n new inside in (f.file, f.among, f.front) }

pub journal_written : (work root : Path) → AreApart root work → (j : Journal) (t u : Option Told) → journal.Writes work j t u → WritesBeside root (λ file. Contains (journal_text j ∷ []) file) t u
journal_written work root apart j t u writes =
    from_to_more (λ a b. Went (IsWriting work (journal_text j) a.state) (λ s e. SparesOld (elsewhere work) a.state s e.call) a b)
    (λ a b. Went (HoldsOnly (λ file. Contains (journal_text j ∷ []) file) a.state) (Calls (BringsOnlyTo root (λ at. ⊥))) a b) t u
    (λ a b is went. went_more (IsWriting work (journal_text j) a.state) (HoldsOnly (λ file. Contains (journal_text j ∷ []) file) a.state) (λ s e. SparesOld (elsewhere work) a.state s e.call) (Calls (BringsOnlyTo root (λ at. ⊥))) a b
    (λ s h. writing_only (journal_text j) a.state s h.journal.nodes h.journal.made h.fronts) (λ s e spares. spares_root (elsewhere work) root (elsewhere_at work root apart) e.call spares.0) went) writes

none_made : (s0 s : State) → s.nodes ≡ s0.nodes → s.made ≡ s0.made → HoldsOnly (λ file. ⊥) s0 s
none_made s0 s nodes made = record { nodes = λ n old. ap (λ (x : ℕ → Node). x n) nodes; made = omega (arith, made); fronts = λ n new inside. absurd (omega (arith, new, inside, made)) }

pub changing_writes : (at : Path) (Comes Goes : Path → Type 0) (root : Path) → AreApart root at → (t u : Option Told) → ChangesAt at Comes Goes t u → WritesBeside root (λ file. ⊥) t u
changing_writes at Comes Goes root apart t u changes =
    from_to_more (λ a b. Went (IsChangingAt at Comes Goes a.state) (λ s e. ChangesOnly Comes Goes e.call × SparesOld (apart_from at) a.state s e.call) a b)
    (λ a b. Went (HoldsOnly (λ file. ⊥) a.state) (Calls (BringsOnlyTo root (λ place. ⊥))) a b) t u
    (λ a b is went. went_more (IsChangingAt at Comes Goes a.state) (HoldsOnly (λ file. ⊥) a.state) (λ s e. ChangesOnly Comes Goes e.call × SparesOld (apart_from at) a.state s e.call) (Calls (BringsOnlyTo root (λ place. ⊥))) a b
    (λ s h. none_made a.state s h.changing.nodes h.changing.made) (λ s e spares. spares_root (apart_from at) root (apart_at at root apart) e.call spares.1.0) went) changes

pub settle_writes : (t u : Option Told) (result : Result (Unit {0}) FolderFault) → Changes Settle t u result → WritesBeside [] (λ file. ⊥) t u
settle_writes t u result changes =
    from_to_more (λ a b. Steps Settle a b result) (λ a b. Went (HoldsOnly (λ file. ⊥) a.state) (Calls (BringsOnlyTo [] (λ at. ⊥))) a b) t u
    (λ a b is steps. went_by_call (HoldsOnly (λ file. ⊥) a.state) (Calls (BringsOnlyTo [] (λ at. ⊥))) Settle a b result (holds_same (λ file. ⊥) a.state)
    (λ allowed. none_made a.state (changed a.state Settle) refl refl) (λ added allowed. holds_same (λ file. ⊥) a.state) (λ outcome. tt) steps) changes

-- beside any root
pub settle_beside : (root : Path) (P : List ℕ → Type 0) (t u : Option Told) (result : Result (Unit {0}) FolderFault) → Changes Settle t u result → WritesBeside root P t u
settle_beside root P t u result changes =
    only_more (BringsOnlyTo [] (λ at. ⊥)) (BringsOnlyTo root (λ at. ⊥)) (λ file. ⊥) P (brings_none root (λ at. ⊥)) (λ file none. absurd none) t u (settle_writes t u result changes)

-- ---- before and after

module _ (from to : OpenedVault) (items : List Planned) (texts : List (List ℕ)) (s s' : Option ByteStream) (t u w : Option Told) (known : IfSeen t (λ v. IsSeen u v)) (before : WritesBeside [] (λ file. ⊥) t u) where
  writes_after : (answer : Result (Unit {0}) MoveFault) (first : List Planned) (made : List MadeItem) → Writes answer from to first made texts s s' u w → Writes answer from to first made texts s s' t w
  writes_after answer first made h = record {
    drawn = h.drawn;
    copies = λ v is. h.copies v (known v is);
    answered = λ v is. answered_each from to u w t w v v first made answer
        (λ item among x given was. record { enough = was.enough; moment = was.moment; seen = was_seen_on (BringsOnlyTo [] (λ at. ⊥)) (λ file. ⊥) t u w was.moment before was.seen; named = was.named; root = was.root })
        (h.answered v (known v is));
    files = only_on (BringsOnlyTo [] (λ at. ⊥)) (BringsOnlyTo to.root (IsMadePlace to (WasSeen u w) made)) (BringsOnlyTo to.root (IsMadePlace to (WasSeen t w) made)) (λ file. ⊥) (IsOneOf to (WasSeen u w) made texts) (IsOneOf to (WasSeen t w) made texts)
        (brings_none to.root (IsMadePlace to (WasSeen t w) made)) (brings_places to (WasSeen u w) (WasSeen t w) later made made (λ x among. among)) (λ file none. absurd none)
        (files_more to (WasSeen u w) (WasSeen t w) later made made (λ x among. among) texts texts (λ text among. among)) t u w before h.files;
  }
    where
      later : (v : View) → WasSeen u w v → WasSeen t w v
      later v = was_seen_on (BringsOnlyTo [] (λ at. ⊥)) (λ file. ⊥) t u w v before

  pub by_after : {T : Type 0} (result : Result T MoveFault) → WritesBy result from to items texts s s' u w → WritesBy result from to items texts s s' t w
  by_after (Ok value) h = record { made = h.made; writes = writes_after (Ok tt) items h.made h.writes }
  by_after (Err fault) h = record { made = h.made; first = h.first; rest = h.rest; are = h.are; writes = writes_after (Err fault) h.first h.made h.writes }

-- with further texts
module _ (from to : OpenedVault) (items : List Planned) (texts more : List (List ℕ)) (s s' : Option ByteStream) (t t' : Option Told) (within : (text : List ℕ) → Contains texts text → Contains more text) where
  writes_texts : (answer : Result (Unit {0}) MoveFault) (first : List Planned) (made : List MadeItem) → Writes answer from to first made texts s s' t t' → Writes answer from to first made more s s' t t'
  writes_texts answer first made h = record {
    drawn = h.drawn;
    copies = h.copies;
    answered = h.answered;
    files = only_more (BringsOnlyTo to.root (IsMadePlace to (WasSeen t t') made)) (BringsOnlyTo to.root (IsMadePlace to (WasSeen t t') made)) (IsOneOf to (WasSeen t t') made texts) (IsOneOf to (WasSeen t t') made more) (λ call is. is)
        (files_more to (WasSeen t t') (WasSeen t t') (λ v was. was) made made (λ x among. among) texts more within) t t' h.files;
  }

  pub by_texts : {T : Type 0} (result : Result T MoveFault) → WritesBy result from to items texts s s' t t' → WritesBy result from to items more s s' t t'
  by_texts (Ok value) h = record { made = h.made; writes = writes_texts (Ok tt) items h.made h.writes }
  by_texts (Err fault) h = record { made = h.made; first = h.first; rest = h.rest; are = h.are; writes = writes_texts (Err fault) h.first h.made h.writes }

-- a further text is written
module _ (compose : Compose) (from to : OpenedVault) (items : List Planned) (texts others : List (List ℕ)) (s s1 s2 : Option ByteStream) (t u w : Option Told) where
  pub texts_then : {T : Type 0} (result : Result T MoveFault) → Kept items t u → Draws s s1 [] → WritesBeside to.root (λ file. Contains texts file) t u → WritesBy result from to items others s1 s2 u w
      → WritesBy result from to items (texts ++ others) s s2 t w
  texts_then (Ok value) kept undrawn files h = all_on compose from to [] items texts others s s1 s2 t u w kept (texts_alone from to [] texts s s1 t u undrawn files) h
  texts_then (Err fault) kept undrawn files h = first_on compose from to [] items texts others s s1 s2 t u w kept (texts_alone from to [] texts s s1 t u undrawn files) fault h

  pub then_texts : WritesAll from to items texts s s1 t u → Draws s1 s2 [] → WritesBeside to.root (λ file. Contains others file) u w → WritesAll from to items (texts ++ others) s s2 t w
  then_texts all undrawn files = record {
    made = all.made;
    writes = record {
      drawn = subst (Draws s s2) (append-nil (slices all.made)) (compose s s1 s2 (slices all.made) [] all.writes.drawn undrawn);
      copies = all.writes.copies;
      answered = λ v is. answered_then (BringsOnlyTo to.root (λ at. ⊥)) (λ file. Contains others file) from to t u w v items all.made (Ok tt) files (all.writes.answered v is);
      files = only_on (BringsOnlyTo to.root (IsMadePlace to (WasSeen t u) all.made)) (BringsOnlyTo to.root (λ at. ⊥)) (BringsOnlyTo to.root (IsMadePlace to (WasSeen t w) all.made))
          (IsOneOf to (WasSeen t u) all.made texts) (λ file. Contains others file) (IsOneOf to (WasSeen t w) all.made (texts ++ others)) (brings_places to (WasSeen t u) (WasSeen t w) still all.made all.made (λ x among. among))
          (brings_more to.root (λ at. ⊥) (IsMadePlace to (WasSeen t w) all.made) (λ at none. absurd none)) (files_more to (WasSeen t u) (WasSeen t w) still all.made all.made (λ x among. among) texts (texts ++ others) (in_first texts others))
          (λ file text. inl (in_second texts others file text)) t u w all.writes.files files;
    };
  }
    where
      still : (v : View) → WasSeen t u v → WasSeen t w v
      still v = was_seen_then (BringsOnlyTo to.root (λ at. ⊥)) (λ file. Contains others file) t u w v files

-- a test refuses before any item is placed, and at most texts are written
pub texts_first : {T : Type 0} (result : Result T MoveFault) (why : MoveFault) → IsErrAnd result (λ fault. fault ≡ why) → IsOfTest why → (from to : OpenedVault) (items : List Planned) (texts : List (List ℕ)) (s s' : Option ByteStream) (t u : Option Told)
    → (P : List ℕ → Type 0) → ((file : List ℕ) → P file → Contains texts file) → Draws s s' [] → WritesBeside to.root P t u → WritesBy result from to items texts s s' t u
texts_first result why is test from to items texts s s' t u P among undrawn files =
    refused_as (λ answer. WritesBy answer from to items texts s s' t u) result is (record {
      made = [];
      first = [];
      rest = items;
      are = refl;
      writes = record { drawn = undrawn; copies = λ v is. tt; answered = λ v is. test; files = beside_made to (WasSeen t u) [] P (IsOneOf to (WasSeen t u) [] texts) (λ file text. inl (among file text)) t u files };
    })

pub nothing_yet : {T : Type 0} (result : Result T MoveFault) (why : MoveFault) → IsErrAnd result (λ fault. fault ≡ why) → IsOfTest why → (from to : OpenedVault) (items : List Planned) (texts : List (List ℕ)) (s s' : Option ByteStream) (t u : Option Told)
    → Draws s s' [] → WritesBeside to.root (λ file. ⊥) t u → WritesBy result from to items texts s s' t u
nothing_yet result why is test from to items texts s s' t u undrawn files = texts_first result why is test from to items texts s s' t u (λ file. ⊥) (λ file none. absurd none) undrawn files
