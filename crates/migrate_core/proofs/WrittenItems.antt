-- What is written of one item, and what placing it came to.
use Rattle.folder_spec.proofs.Seen.{seen_of}
use Rattle.std.proofs.Common.{◌≡◌, ◌⊎◌, inl, inr, ◌≤◌, ℕ, zero, List, [], ◌∷◌, length, Contains, Option, Some, None, IsErrAnd, Result, Ok, Err, refl, sym, ap, ◌∙◌, subst, arith, append-nil}
use Rattle.folder_spec.proofs.Moments.{went_more}
use Rattle.folder_spec.proofs.Tellings.{from_to_more}
use Rattle.folder_spec.specs.Event.{Told}
use Rattle.folder_spec.specs.Moments.{Went}
use Rattle.folder_spec.specs.Seen.{IfSeen, seen, under, ShowsFile}
use Rattle.folder_spec.specs.State.{State}
use Rattle.folder_spec.specs.View.{View}
use Rattle.folder_spec.proofs.Paths.{base_or_child}
use Rattle.folder_spec.specs.Path.{Path}
use Rattle.item_making.specs.Ending.{Ending, Whole}
use Rattle.content_writing.specs.Content.{Coming}
use Rattle.vault_faults.specs.Limits.{content_limit}
use Rattle.vault_write.specs.ContentsComing.{coming_read, ending_of, held_before}
use Rattle.item_making.specs.declared.fault.PutFault.{PutFault}
use Rattle.item_making.specs.declared.fault.PutFault.TheVariants as put
use Rattle.vault_write.specs.Refusing.{Answers, HasTaken, MayDraw}
use Rattle.migrate_core.specs.Faults.{of_put}
use Rattle.migrate_core.specs.declared.fault.MoveFault.{MoveFault}
use Rattle.plain_tree.specs.Names as plain
use Rattle.plain_tree.specs.declared.NodeKind.TheVariants.{Dir, File}
use Rattle.plain_tree.specs.declared.name_map.NameMap.{NameMap}
use Rattle.port_model.specs.Draws.{ByteStream, Draws}
use Rattle.tree_match.specs.Comparing.{bytes_found, content_at}
use Rattle.vault_read.specs.Contents.{limited_reading}
use Rattle.vault_spec.specs.Opened.{OpenedVault}
use Rattle.vault_spec.specs.Find.{Refusal, enter}
use Rattle.vault_spec.specs.Format.{Directory}
use Rattle.vault_spec.specs.Making.{NewDirectory, NewFile, NewItem, draws}
use Rattle.vault_spec.specs.Plan.{Planned}
use Rattle.vault_spec.specs.Vault.{format_of}
use Rattle.chunk_files.specs.Keys.{Keys}
use Rattle.vault_write.specs.Calls.{MakesAt, MakesOne, New}
use Rattle.item_making.specs.Making.{IsPlace, Placing, StagesOrPlaces, format, making_in, new_item, path_of}
use Rattle.item_making.specs.Placing.{IsMaking, making_at}
use Rattle.folder_spec.specs.Apart.{AreApart}
use Rattle.migrate_core.proofs.Planned.{FilesFit, mapped_files, reader_of}
use Rattle.migration_sides.proofs.Chains.{refused_as}
use Rattle.migrate_core.specs.Sides.{IsItemOf}
use Rattle.migrate_core.specs.Written.{WasAnswered, ending_by, ending_in, last_answer, placing_in, BringsOnlyTo, IsMadePlace, IsPlaceOf, HoldsOnly, IsCopyOf, IsFileOf, IsOneOf, MadeItem, Writes, WritesAll, WritesBy, WritesOnly, slices, IsMadeIn, WasSeen}
use Rattle.migrate_core.proofs.Writings.{Calls, brings_more, only_more, only_nowhere, places_bring, was_first}

-- ---- one item

abbrev placed_item : Placing → List ℕ → MadeItem
placed_item p drawn = record { path = path_of p; item = p.item; drawn = drawn }

-- by what the target showed when the call began
module _ (p : Placing) (drawn : List ℕ) (Shown : View → Type 0) (v : View) (shown : Shown v) where
  abbrev made_in : (dir : Directory) → enter (format p) (under p.vault.root v) p.front ≡ Ok dir → IsMadeIn p.vault Shown (placed_item p drawn)
  made_in dir entered = record { front = p.front; name = p.name; is = refl; moment = v; shown = shown; dir = dir; entered = entered }

  files_among : (file : List ℕ) → Contains (new_item p drawn (under p.vault.root v)).files file → IsFileOf p.vault Shown (placed_item p drawn) file
  files_among file = by (enter (format p) (under p.vault.root v) p.front) refl
    where
      by : (entered : Result Directory Refusal) → enter (format p) (under p.vault.root v) p.front ≡ entered → Contains (making_in p (under p.vault.root v) drawn entered).files file → IsFileOf p.vault Shown (placed_item p drawn) file
      by (Err refusal) is among = absurd (omega (arith, among.1))
      by (Ok dir) is among = (made_in dir is, among)

  places_among : (at : Path) → IsPlace (new_item p drawn (under p.vault.root v)).edits at → IsPlaceOf p.vault Shown (placed_item p drawn) at
  places_among at = by (enter (format p) (under p.vault.root v) p.front) refl
    where
      by : (entered : Result Directory Refusal) → enter (format p) (under p.vault.root v) p.front ≡ entered → IsPlace (making_in p (under p.vault.root v) drawn entered).edits at → IsPlaceOf p.vault Shown (placed_item p drawn) at
      by (Err refusal) is place = absurd (omega (arith, place.1.1))
      by (Ok dir) is place = (made_in dir is, place)

making_writes : (p : Placing) (ending : Ending) (drawn : List ℕ) (Shown : View → Type 0) (s0 s : State) → Shown (seen s0) → IsMaking p ending (making_at p (new_item p drawn) s0) s0 s → HoldsOnly (IsFileOf p.vault Shown (placed_item p drawn)) s0 s
making_writes p ending drawn Shown s0 s shown making = record {
  nodes = making.others.nodes;
  made = making.others.made;
  fronts = λ n new made. let f = making.fronts n new made in (f.file, files_among p drawn Shown (seen s0) shown f.file f.among, f.front);
}

-- what a call makes of one item
pub record MakesItem (to : OpenedVault) (x : MadeItem) (t u : Option Told) : Type 0 where
  pub files : WritesOnly (BringsOnlyTo to.root (IsPlaceOf to (WasSeen t u) x)) (IsFileOf to (WasSeen t u) x) t u
  pub enough : length x.drawn ≤ draws (format_of to.vault) x.item

pub item_made : (to : OpenedVault) (work : Path) → AreApart to.root work → (x : MadeItem) (ending : Ending) (t u : Option Told) (result : Result (Unit {0}) PutFault) → MakesAt New to work x.path x.item ending x.drawn t u result → MakesItem to x t u
item_made to work apart x ending t u result made = elim (base_or_child x.path) [
  | inl root ↦
      let none = made.root root in
      record {
        files = only_nowhere (BringsOnlyTo to.root (IsPlaceOf to (WasSeen t u) x)) (IsFileOf to (WasSeen t u) x) t u none.0;
        enough = omega (arith, ap (λ (ys : List ℕ). length ys) none.1);
      }
  | inr named ↦
      let p : Placing = record { vault = to; work = work; front = named.0; name = named.1; item = x.item } in
      let one : MakesOne New p ending x.drawn t u result = made.named named.0 named.1 named.2 in
      let at_path : (path : plain.Path) → MadeItem = λ path. record { path = path; item = x.item; drawn = x.drawn } in
      record {
        files = from_to_more
            (λ a b. Went (IsMaking p ending (making_at p (new_item p x.drawn) a.state) a.state) (λ s e. StagesOrPlaces work (making_at p (new_item p x.drawn) a.state) s e.call) a b)
            (λ a b. Went (HoldsOnly (IsFileOf to (WasSeen t u) x) a.state) (Calls (BringsOnlyTo to.root (IsPlaceOf to (WasSeen t u) x))) a b) t u
            (λ a b is went.
            let shown : WasSeen t u (seen a.state) = was_first (λ s0 s. IsMaking p ending (making_at p (new_item p x.drawn) s0) s0 s) (λ s0 s e. StagesOrPlaces work (making_at p (new_item p x.drawn) s0) s e.call) t u (seen a.state) one.makes.moments (seen_of t a is) in
            went_more (IsMaking p ending (making_at p (new_item p x.drawn) a.state) a.state) (HoldsOnly (IsFileOf to (WasSeen t u) x) a.state)
            (λ s e. StagesOrPlaces work (making_at p (new_item p x.drawn) a.state) s e.call) (Calls (BringsOnlyTo to.root (IsPlaceOf to (WasSeen t u) x))) a b
            (λ s making. subst (λ path. HoldsOnly (IsFileOf to (WasSeen t u) (at_path path)) a.state s) (sym named.2) (making_writes p ending x.drawn (WasSeen t u) a.state s shown making))
            (λ s e h. places_bring to.root work apart (making_at p (new_item p x.drawn) a.state) (IsPlaceOf to (WasSeen t u) x)
            (λ at place. subst (λ path. IsPlaceOf to (WasSeen t u) (at_path path) at) (sym named.2) (places_among p x.drawn (WasSeen t u) (seen a.state) shown at place)) s e.call h) went) one.makes.moments;
        enough = one.enough;
      }
]

-- from whichever work folder
taken_from : (to : OpenedVault) (work : Path) (front : plain.Path) (name : List ℕ) (item : NewItem) (drawn : List ℕ) (u : View) (place : Option Path)
    → HasTaken (record { vault = to; work = work; front = front; name = name; item = item }) drawn u place → HasTaken (placing_in to front name item) drawn u place
taken_from to work front name item drawn u place h = record { dir = h.dir; there = record { entered = h.there.entered; allowed = h.there.allowed }; is = h.is }

may_from : (to : OpenedVault) (work : Path) (front : plain.Path) (name : List ℕ) (item : NewItem) (u : View) → MayDraw (record { vault = to; work = work; front = front; name = name; item = item }) u → MayDraw (placing_in to front name item) u
may_from to work front name item u h = record { dir = h.dir; there = record { entered = h.there.entered; allowed = h.there.allowed }; free = h.free }

drew_from : (to : OpenedVault) (work : Path) (front : plain.Path) (name : List ℕ) (item : NewItem) (drawn : List ℕ) (u : View) → (drawn ≡ []) ⊎ MayDraw (record { vault = to; work = work; front = front; name = name; item = item }) u
    → (drawn ≡ []) ⊎ MayDraw (placing_in to front name item) u
drew_from to work front name item drawn u (inl none) = inl none
drew_from to work front name item drawn u (inr may) = inr (may_from to work front name item u may)

answers_from : (to : OpenedVault) (work : Path) (front : plain.Path) (name : List ℕ) (item : NewItem) (drawn : List ℕ) (ending : Ending) (u : View) (result : Result (Unit {0}) PutFault)
    → Answers (record { vault = to; work = work; front = front; name = name; item = item }) drawn ending u result → Answers (placing_in to front name item) drawn ending u result
answers_from to work front name item drawn ending u (Ok value) h = (taken_from to work front name item drawn u None h.0, h.1, h.2, h.3)
answers_from to work front name item drawn ending u (Err (put.Find fault)) h = h
answers_from to work front name item drawn ending u (Err (put.NotAllowed path)) h = (h.0, record { dir = h.1.dir; entered = h.1.entered; forbidden = h.1.forbidden }, h.2)
answers_from to work front name item drawn ending u (Err (put.Taken at)) h = (h.0, h.1, taken_from to work front name item drawn u (Some h.0) h.2, drew_from to work front name item drawn u h.3)
answers_from to work front name item drawn ending u (Err (put.Damaged at fault)) h = (taken_from to work front name item drawn u None h.0, h.1)
answers_from to work front name item drawn ending u (Err (put.Limit limit)) h = (taken_from to work front name item drawn u None h.0, h.1)
answers_from to work front name item drawn ending u (Err put.ZeroRandom) h = (may_from to work front name item u h.0, h.1)
answers_from to work front name item drawn ending u (Err put.Source) h = may_from to work front name item u h
answers_from to work front name item drawn ending u (Err put.Random) h = may_from to work front name item u h
answers_from to work front name item drawn ending u (Err put.Failed) h = tt
answers_from to work front name item drawn ending u (Err put.NoMemory) h = tt

-- its content ends so in the source
abbrev pub EndsIn : OpenedVault → Planned → Option Told → Ending → Type 0
EndsIn from item t ending = IfSeen t (λ v. ending ≡ ending_in from v item)

pub item_answered : (from to : OpenedVault) (work : Path) (item : Planned) (x : MadeItem) (ending : Ending) (t u : Option Told) (result : Result (Unit {0}) PutFault) → MakesItem to x t u → EndsIn from item t ending
    → MakesAt New to work x.path x.item ending x.drawn t u result → IfSeen t (λ v. WasAnswered from to t u v item x result)
item_answered from to work item x ending t u result makes ends made v is = record {
  enough = makes.enough;
  moment = v;
  seen = was_first (λ s0 s. HoldsOnly (IsFileOf to (WasSeen t u) x) s0 s) (λ s0 s e. BringsOnlyTo to.root (IsPlaceOf to (WasSeen t u) x) e.call) t u v makes.files is;
  named = λ front name named. subst (λ e. Answers (placing_in to front name x.item) x.drawn e (under to.root v) result) (ends v is)
      (answers_from to work front name x.item x.drawn ending (under to.root v) result ((made.named front name named).answer v is));
  root = λ root. (made.root root).2;
}

-- as a migration tells it
told_as : (from to : OpenedVault) (t u : Option Told) (v : View) (item : Planned) (x : MadeItem) (why : PutFault) → WasAnswered from to t u v item x (Err why) → WasAnswered from to t u v item x (last_answer (Err (of_put why)))
told_as from to t u v item x (put.Find fault) was = was
told_as from to t u v item x (put.NotAllowed path) was = was
told_as from to t u v item x (put.Taken at) was = was
told_as from to t u v item x (put.Damaged at fault) was = was
told_as from to t u v item x (put.Limit which) was = was
told_as from to t u v item x put.ZeroRandom was = was
told_as from to t u v item x put.Source was = was
told_as from to t u v item x put.Random was = was
told_as from to t u v item x put.Failed was = record { enough = was.enough; moment = was.moment; seen = was.seen; named = λ front name is. tt; root = λ is other. refl }
told_as from to t u v item x put.NoMemory was = was

-- it is the item of the source
abbrev pub IsCopy : OpenedVault → Planned → Option Told → MadeItem → Type 0
IsCopy from item t x = IfSeen t (λ v. IsCopyOf from v item x)

one_slice : (x : MadeItem) → x.drawn ≡ slices (x ∷ [])
one_slice x = sym (append-nil x.drawn)

writes_one : (answer : Result (Unit {0}) MoveFault) (from to : OpenedVault) (item : Planned) (x : MadeItem) (s s' : Option ByteStream) (t u : Option Told) → Draws s s' x.drawn → IsCopy from item t x → MakesItem to x t u
    → IfSeen t (λ v. WasAnswered from to t u v item x (last_answer answer)) → Writes answer from to (item ∷ []) (x ∷ []) [] s s' t u
writes_one answer from to item x s s' t u drawn copy makes answered = record {
  drawn = subst (Draws s s') (one_slice x) drawn;
  copies = λ v is. (copy v is, tt);
  answered = answered;
  files = only_more (BringsOnlyTo to.root (IsPlaceOf to (WasSeen t u) x)) (BringsOnlyTo to.root (IsMadePlace to (WasSeen t u) (x ∷ []))) (IsFileOf to (WasSeen t u) x) (IsOneOf to (WasSeen t u) (x ∷ []) [])
      (brings_more to.root (IsPlaceOf to (WasSeen t u) x) (IsMadePlace to (WasSeen t u) (x ∷ [])) (λ at is. (x, (zero, omega arith, refl), is))) (λ file h. inr (x, (zero, omega arith, refl), h)) t u makes.files;
}

module _ (from to : OpenedVault) (work : Path) (apart : AreApart to.root work) (item : Planned) (x : MadeItem) (ending : Ending) (s s' : Option ByteStream) (t u : Option Told) (drawn : Draws s s' x.drawn) (copy : IsCopy from item t x)
    (ends : EndsIn from item t ending) where
  pub one_written : MakesAt New to work x.path x.item ending x.drawn t u (Ok tt) → WritesAll from to (item ∷ []) [] s s' t u
  one_written made =
      let makes : MakesItem to x t u = item_made to work apart x ending t u (Ok tt) made in
      record { made = x ∷ []; writes = writes_one (Ok tt) from to item x s s' t u drawn copy makes (item_answered from to work item x ending t u (Ok tt) makes ends made) }

  pub one_begun : {T : Type 0} (result : Result T MoveFault) (why : PutFault) → IsErrAnd result (λ fault. fault ≡ of_put why) → MakesAt New to work x.path x.item ending x.drawn t u (Err why) → WritesBy result from to (item ∷ []) [] s s' t u
  one_begun result why is made =
      let makes : MakesItem to x t u = item_made to work apart x ending t u (Err why) made in
      refused_as (λ answer. WritesBy answer from to (item ∷ []) [] s s' t u) result is (record {
        made = x ∷ [];
        first = item ∷ [];
        rest = [];
        are = refl;
        writes = writes_one (Err (of_put why)) from to item x s s' t u drawn copy makes
            (λ v is. told_as from to t u v item x why (item_answered from to work item x ending t u (Err why) makes ends made v is));
      })

pub directory_copy : (from : OpenedVault) (item : Planned) (t : Option Told) (path : plain.Path) (drawn : List ℕ) → path ≡ item.path → item.node ≡ Dir → IsCopy from item t (record { path = path; item = NewDirectory; drawn = drawn })
directory_copy from item t path drawn at node v is = record { path = at; directory = λ dir. refl; file = λ file. absurd (other (sym node ∙ file)) }
  where
    other : Dir ≡ File → ⊥
    other e = cc e

pub directory_ends : (from : OpenedVault) (item : Planned) (t : Option Told) → item.node ≡ Dir → EndsIn from item t Whole
directory_ends from item t node v is = ap (λ node. ending_by node (ending_of item.at (content_at (format_of from.vault).content v item.at).ending)) (sym node)

-- the content that was written is what the source's file gives
abbrev pub ToldContent : OpenedVault → Planned → Option Told → List ℕ → Ending → Type 0
ToldContent from item t content ending = (a : Told) → t ≡ Some a → (c : Coming) → coming_read (reader_of from item) content_limit [] (seen a.state item.at) ≡ Some c → c ≡ record { bytes = content; ending = ending }

pub content_told : FilesFit → (rule : NameMap) (from : OpenedVault) (item : Planned) (t : Option Told) (content : List ℕ) (ending : Ending) → item.node ≡ File → IsItemOf rule t from item → ToldContent from item t content ending
    → IfSeen t (λ v. record { bytes = content; ending = ending } ≡ held_before item.at [] (limited_reading (format_of from.vault).content (bytes_found (v item.at))))
content_told fits rule from item None content ending node of told v is = absurd is
content_told fits rule from item (Some a) content ending node of told v is =
    let keys : Keys = (format_of from.vault).content in
    let there : ShowsFile (seen a.state) item.at = mapped_files rule from of.items (Some a) of.walked (seen a.state) refl item of.among node in
    let coming : held_before item.at [] (limited_reading keys there.0) ≡ record { bytes = content; ending = ending } =
    told a refl (held_before item.at [] (limited_reading keys there.0)) (ap (coming_read (reader_of from item) content_limit []) there.1 ∙ fits keys item.at there.0) in
    let found : bytes_found (v item.at) ≡ there.0 = ap (λ (w : View). bytes_found (w item.at)) is ∙ ap bytes_found there.1 in
    sym coming ∙ ap (λ (bytes : List ℕ). held_before item.at [] (limited_reading keys bytes)) (sym found)

pub file_copy : FilesFit → (rule : NameMap) (from : OpenedVault) (item : Planned) (t : Option Told) (path : plain.Path) (content drawn : List ℕ) (ending : Ending) → path ≡ item.path → item.node ≡ File → IsItemOf rule t from item → ToldContent from item t content ending
    → IsCopy from item t (record { path = path; item = NewFile content; drawn = drawn })
file_copy fits rule from item t path content drawn ending at node of told v is = record {
  path = at;
  directory = λ dir. absurd (other (sym node ∙ dir));
  file = λ file. ap (λ (c : Coming). NewFile c.bytes) (content_told fits rule from item t content ending node of told v is);
}
  where
    other : File ≡ Dir → ⊥
    other e = cc e

pub file_ends : FilesFit → (rule : NameMap) (from : OpenedVault) (item : Planned) (t : Option Told) (content : List ℕ) (ending : Ending) → item.node ≡ File → IsItemOf rule t from item → ToldContent from item t content ending → EndsIn from item t ending
file_ends fits rule from item t content ending node of told v is =
    ap (λ (c : Coming). c.ending) (content_told fits rule from item t content ending node of told v is)
    ∙ ap (λ node. ending_by node (ending_of item.at (content_at (format_of from.vault).content v item.at).ending)) (sym node)
