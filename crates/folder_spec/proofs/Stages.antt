-- A new file: made, written and synced where no name table showed a file of then.
use Rattle.std.proofs.Common.{◌≡◌, ◌≢◌, ◌⊎◌, ℕ, ◌<◌, ◌≤◌, List, [], ◌∷◌, ◌++◌, Option, Some, None, Result, Ok, Err, OnOk, take, refl, sym, ap, ◌∙◌, subst, inl, inr, IsTrue, append-nil, arith}
use Rattle.std.specs.Prelude.{Contains, true, is_none, is_some}
use Rattle.std.proofs.lemmas.Bool.{eq-eqb}
use Rattle.std.specs.Cmp.{first_so, second_so}
use Rattle.folder_spec.specs.declared.FolderFault.{FolderFault}
use Rattle.folder_spec.specs.declared.Kind.{Kind}
use Rattle.folder_spec.specs.declared.Kind.TheVariants.{Missing, File}
use Rattle.folder_spec.specs.Path.{Part, Path, below, parent, child}
use Rattle.folder_spec.specs.State.{Nothing, Directory, FileNode, Table, Node, State, present, put, moved, put_node, kind_of, HasFile, IsClean, IsSound, IsSoundTable}
use Rattle.folder_spec.specs.Event.{Call, MakeDir, Create, Append, Sync, Settle, Rename, RemoveFile, RemoveDir, Event, IsFree, IsFilePlace, Allowed, with_file, grown, synced, empty_node, changed, fallen, Told, Steps, Changes, FromTo}
use Rattle.folder_spec.specs.Moments.{Went}
use Rattle.folder_spec.specs.Region.{Spares, WritesOnlyNew, SparesOld, WorksAt, StagesAt, StagesOrPuts, IsAsBefore, PutsOnlyFiles, apart_from, apart_from_both, at_or_below}
use Rattle.folder_spec.specs.Written.{IsFrontOfOne, WritesFronts}
use Rattle.folder_spec.specs.Replace.{IsNewNode, IsNewFile, IsStaging, IsReplacing, HasReplaced}
use Rattle.folder_spec.proofs.Paths.{below-append, below-parent, parent-apart, parent-child, child_of_parent}
use Rattle.folder_spec.proofs.Tables.{put-same, put-other, moved-old, last_of-push, present_is_table}
use Rattle.folder_spec.proofs.Moments.{went_nowhere, went_on, went_by_call, went_more, went_to}
use Rattle.folder_spec.proofs.Tellings.{from_to_on, from_to_more, from_to_same, from_to_known, from_to_then}
use Rattle.folder_spec.specs.View.{FileOf, found}
use Rattle.folder_spec.specs.Edit.{file_view, file_edit, IsStagedView, HasPublished}
use Rattle.folder_spec.proofs.Edits.{nothing_below_file, publishes_nothing, published, settle_publishes, settled}
use Rattle.folder_spec.proofs.Regions.{as_before, as_before_on, old_or_file_on, old_or_file_at_first}
use Rattle.folder_spec.proofs.Written.{shorter_piece, fronts_on, fronts_of_none, fronts_of_more}
use Rattle.folder_spec.proofs.Replaces.{apart-below, apart-from_below, old_or_new_so_far, old_or_new_renamed, new_renamed, replaced_by_settle}

put_node-same : (nodes : ℕ → Node) (n : ℕ) (node : Node) → put_node nodes n node n ≡ node
put_node-same nodes n node = rw (eq-eqb n n refl) refl

pub created_new : (s0 s : State) (p : Path) → s0.made ≤ s.made → IsNewNode empty_node s0 (changed s (Create p)) (present (changed s (Create p)) p)
created_new s0 s p le = record {
  number = s.made;
  is = ap (λ t. t p) (last_of-push s.kept s.later (put (present s) p (FileNode s.made))) ∙ put-same (present s) p (FileNode s.made);
  new = le;
  holds = put_node-same s.nodes s.made empty_node;
}

with_file_new : (s0 s : State) (p : Path) (node : Node) (change : Node → Node) → IsNewNode node s0 s (present s p)
    → IsNewNode (change node) s0 (with_file s (present s p) change) (present (with_file s (present s p) change) p)
with_file_new s0 s p node change new =
    subst (λ x. IsNewNode (change node) s0 (with_file s x change) (present (with_file s x change) p)) (sym new.is) (record {
      number = new.number;
      is = new.is;
      new = new.new;
      holds = put_node-same s.nodes new.number (change (s.nodes new.number)) ∙ ap change new.holds;
    })

pub appended_new : (s0 s : State) (p : Path) (node : Node) (piece : List ℕ) → IsNewNode node s0 s (present s p)
    → IsNewNode (grown piece node) s0 (changed s (Append p piece)) (present (changed s (Append p piece)) p)
appended_new s0 s p node piece new = with_file_new s0 s p node (grown piece) new

pub synced_new : (s0 s : State) (p : Path) (node : Node) → IsNewNode node s0 s (present s p)
    → IsNewNode (synced node) s0 (changed s (Sync p)) (present (changed s (Sync p)) p)
synced_new s0 s p node new = with_file_new s0 s p node synced new

-- only a new file is written
pub writes_new : (node : Node) (s0 s : State) (p : Path) → IsNewNode node s0 s (present s p) → (n : ℕ) → present s p ≡ FileNode n → s0.made ≤ n
writes_new node s0 s p new n here = let one : new.number ≡ n = cc (new.is, here) in subst (λ k. s0.made ≤ k) one new.new

-- What works at a path spares all others.
pub at_itself : (p : Path) → IsTrue (at_or_below p p)
at_itself p = ap is_some (ap (below p) (sym (append-nil p)) ∙ below-append p [])

outside : (p r : Path) → IsTrue (at_or_below p r) → (q : Path) → IsTrue (apart_from p q) → r ≢ q
outside p r at q apart e = neither (below p q) (subst (λ x. IsTrue (at_or_below p x)) e at) apart
  where
    neither : (o : Option Path) → is_some o ≡ true → is_none o ≡ true → ⊥
    neither None some none = cc
    neither (Some rest) some none = cc

works_spare : (p : Path) (call : Call) → WorksAt p call → Spares (apart_from p) call
works_spare p (MakeDir r) at = outside p r at
works_spare p (Create r) at = outside p r at
works_spare p (Append r piece) at = tt
works_spare p (Sync r) at = tt
works_spare p Settle at = tt
works_spare p (Rename old new) at = absurd at
works_spare p (RemoveFile r) at = outside p r at
works_spare p (RemoveDir r) at = outside p r at

pub stages_spare : (p : Path) (s0 s : State) (call : Call) → StagesAt p s0 s call → SparesOld (apart_from p) s0 s call
stages_spare p s0 s call h = (works_spare p call h.0, h.1)

-- Writing it: the calls so far worked at the path alone, and wrote new files alone.
abbrev pub Staging : List (List ℕ) → Path → Told → Told → Type 0
Staging files p a0 a = Went (IsStaging files p a0.state) (λ s e. StagesAt p a0.state s e.call) a0 a

-- what a call may do meanwhile
pub record MayStage (files : List (List ℕ)) (p : Path) (made : ℕ) (s : State) (call : Call) : Type 0 where
  pub works : WorksAt p call
  pub new : WritesOnlyNew made s call
  pub puts : PutsOnlyFiles p call
  pub fronts : WritesFronts files s call

pub staging_so_far : (files : List (List ℕ)) (p : Path) (a0 a : Told) → Staging files p a0 a → IsStaging files p a0.state a.state
staging_so_far files p a0 a went = went_to (IsStaging files p a0.state) (λ s e. StagesAt p a0.state s e.call) a0 a went

is_staging_on : (files : List (List ℕ)) (p : Path) (s0 s : State) (call : Call) → MayStage files p s0.made s call → IsStaging files p s0 s → IsStaging files p s0 (changed s call)
is_staging_on files p s0 s call may so_far = record {
  others = as_before_on (apart_from p) s0 s call (works_spare p call may.works) may.new so_far.others;
  place = old_or_file_on p s0 s so_far.place call may.puts;
  fronts = fronts_on files s0 s call may.fronts so_far.fronts;
}

-- also where it fails
staging_fallen : (files : List (List ℕ)) (p : Path) (s0 s : State) (call : Call) (added : ℕ) → MayStage files p s0.made s call → IsStaging files p s0 s
    → IsStaging files p s0 (fallen s call added)
staging_fallen files p s0 s (Append q piece) added may so_far =
    is_staging_on files p s0 s (Append q (take added piece))
    (record { works = may.works; new = may.new; puts = tt; fronts = λ n is. shorter_piece files (s.nodes n).now piece added (may.fronts n is) }) so_far
staging_fallen files p s0 s (MakeDir q) added may so_far = so_far
staging_fallen files p s0 s (Create q) added may so_far = so_far
staging_fallen files p s0 s (Sync q) added may so_far = so_far
staging_fallen files p s0 s Settle added may so_far = so_far
staging_fallen files p s0 s (Rename old to) added may so_far = so_far
staging_fallen files p s0 s (RemoveFile q) added may so_far = so_far
staging_fallen files p s0 s (RemoveDir q) added may so_far = so_far

staging_call : (files : List (List ℕ)) (p : Path) (call : Call) (a0 a b : Told) (result : Result (Unit {0}) FolderFault) → MayStage files p a0.state.made a.state call
    → Staging files p a0 a → Steps call a b result → Staging files p a0 b
staging_call files p call a0 a b result may so_far steps =
    let P : State → Type 0 = IsStaging files p a0.state in
    let Q : State → Event → Type 0 = λ s e. StagesAt p a0.state s e.call in
    let here : P a.state = staging_so_far files p a0 a so_far in
    went_on P Q a0 a b so_far
    (went_by_call P Q call a b result here (λ allowed. is_staging_on files p a0.state a.state call may here)
    (λ added allowed. staging_fallen files p a0.state a.state call added may here) (λ outcome. (may.works, may.new)) steps)

-- no call yet
pub staging_none : (files : List (List ℕ)) (p : Path) (a : Told) → Staging files p a a
staging_none files p a =
    went_nowhere (IsStaging files p a.state) (λ s e. StagesAt p a.state s e.call) a
    (record { others = as_before (apart_from p) a.state; place = old_or_file_at_first p a.state; fronts = fronts_of_none files a.state })

-- more files may be written
pub staging_more : (files more : List (List ℕ)) (p : Path) (a0 a : Told) → ((file : List ℕ) → Contains files file → Contains more file) → Staging files p a0 a → Staging more p a0 a
staging_more files more p a0 a within so_far =
    went_more (IsStaging files p a0.state) (IsStaging more p a0.state) (λ s e. StagesAt p a0.state s e.call)
    (λ s e. StagesAt p a0.state s e.call) a0 a
    (λ s h. record { others = h.others; place = h.place; fronts = fronts_of_more files more a0.state s within h.fronts }) (λ s e h. h) so_far

-- the new file stands there
abbrev pub IsStagedAs : List (List ℕ) → Path → Node → Told → Told → Type 0
IsStagedAs files p node a0 a = Staging files p a0 a × IsNewNode node a0.state a.state (present a.state p)

pub may_remove : (files : List (List ℕ)) (p : Path) (made : ℕ) (s : State) → MayStage files p made s (RemoveFile p)
may_remove files p made s = record { works = at_itself p; new = tt; puts = tt; fronts = tt }

pub may_create : (files : List (List ℕ)) (p : Path) (made : ℕ) (s : State) → IsFrontOfOne files [] → MayStage files p made s (Create p)
may_create files p made s empty = record { works = at_itself p; new = tt; puts = tt; fronts = empty }

pub may_append : (files : List (List ℕ)) (p : Path) (piece : List ℕ) (node : Node) (s0 s : State) → IsNewNode node s0 s (present s p) → IsFrontOfOne files (node.now ++ piece)
    → MayStage files p s0.made s (Append p piece)
may_append files p piece node s0 s new front = record {
  works = at_itself p;
  new = writes_new node s0 s p new;
  puts = tt;
  fronts = λ n is.
      let one : new.number ≡ n = cc (new.is, is) in
      subst (λ k. IsFrontOfOne files ((s.nodes k).now ++ piece)) one (subst (λ (x : Node). IsFrontOfOne files (x.now ++ piece)) (sym new.holds) front);
}

pub may_sync : (files : List (List ℕ)) (p : Path) (node : Node) (s0 s : State) → IsNewNode node s0 s (present s p) → MayStage files p s0.made s (Sync p)
may_sync files p node s0 s new = record { works = at_itself p; new = writes_new node s0 s p new; puts = tt; fronts = tt }

pub removed_on : (files : List (List ℕ)) (p : Path) (a0 a b : Told) → p ≢ [] → IsSound a.state → Staging files p a0 a → Steps (RemoveFile p) a b (Ok tt)
    → Staging files p a0 b × IsFree (present b.state) p
removed_on files p a0 a b some sound so_far steps =
    let t : Table = present a.state in
    let there : HasFile t p = steps.0 in
    let last : present (changed a.state (RemoveFile p)) ≡ put t p Nothing = last_of-push a.state.kept a.state.later (put t p Nothing) in
    let up : (c : Part) × (p ≡ child (parent p) c) = child_of_parent p some in
    let sound_table : IsSoundTable a.state.made t = sound.tables t (present_is_table a.state) in
    let stands : t (child (parent p) up.0) ≢ Nothing = λ none. (let same : t p ≡ Nothing = ap t up.1 ∙ none in let file : t p ≡ FileNode there.0 = there.1 in cc) in
    let free : IsFree (put t p Nothing) p = (put-same t p Nothing, put-other t p Nothing (parent p) (parent-apart p some) ∙ sound_table.parents (parent p) up.0 stands) in (
      staging_call files p (RemoveFile p) a0 a b (Ok tt) (may_remove files p a0.state.made a.state) so_far steps,
      subst (λ (c : Told). IsFree (present c.state) p) (sym steps.1) (subst (λ u. IsFree u p) (sym last) free),
    )

pub created_on : (files : List (List ℕ)) (p : Path) (a0 a b : Told) → IsFrontOfOne files [] → Staging files p a0 a → Steps (Create p) a b (Ok tt) → IsStagedAs files p empty_node a0 b
created_on files p a0 a b empty so_far steps =
    let here : IsStaging files p a0.state a.state = staging_so_far files p a0 a so_far in (
      staging_call files p (Create p) a0 a b (Ok tt) (may_create files p a0.state.made a.state empty) so_far steps,
      subst (λ (c : Told). IsNewNode empty_node a0.state c.state (present c.state p)) (sym steps.1) (created_new a0.state a.state p here.others.made),
    )

pub appended_on : (files : List (List ℕ)) (p : Path) (piece : List ℕ) (node : Node) (a0 a b : Told) → IsFrontOfOne files (node.now ++ piece) → IsStagedAs files p node a0 a
    → Steps (Append p piece) a b (Ok tt) → IsStagedAs files p (grown piece node) a0 b
appended_on files p piece node a0 a b front so_far steps = (
  staging_call files p (Append p piece) a0 a b (Ok tt) (may_append files p piece node a0.state a.state so_far.1 front) so_far.0 steps,
  subst (λ (c : Told). IsNewNode (grown piece node) a0.state c.state (present c.state p)) (sym steps.1) (appended_new a0.state a.state p node piece so_far.1),
)

pub synced_on : (files : List (List ℕ)) (p : Path) (node : Node) (a0 a b : Told) → IsStagedAs files p node a0 a → Steps (Sync p) a b (Ok tt) → IsStagedAs files p (synced node) a0 b
synced_on files p node a0 a b so_far steps = (
  staging_call files p (Sync p) a0 a b (Ok tt) (may_sync files p node a0.state a.state so_far.1) so_far.0 steps,
  subst (λ (c : Told). IsNewNode (synced node) a0.state c.state (present c.state p)) (sym steps.1) (synced_new a0.state a.state p node so_far.1),
)

-- a place for a file, by the kind of what stands there
pub free_or_file : (t : Table) (p : Path) (kind : Kind) → kind ≡ kind_of (t p) → IsFilePlace t p → (kind ≡ File → HasFile t p) × (kind ≢ File → IsFree t p)
free_or_file t p kind is place = elim place as (λ _. (kind ≡ File → HasFile t p) × (kind ≢ File → IsFree t p)) [
  | inl free ↦ (λ e. absurd (let none : kind ≡ Missing = is ∙ ap kind_of free.0 in let both : Missing ≡ File = sym none ∙ e in cc both), λ apart. free)
  | inr file ↦ (λ e. file, λ apart. absurd (apart (is ∙ ap kind_of file.1)))
]

-- Publishing it: renaming it onto its place, and settling.
abbrev pub Replacing : Path → Path → List ℕ → Told → Told → Type 0
Replacing staged at bytes a0 a = Went (IsReplacing staged at bytes a0.state) (λ s e. StagesOrPuts staged at a0.state s e.call) a0 a

pub stages_or_puts : (staged at : Path) (s0 s : State) (call : Call) → StagesAt staged s0 s call → StagesOrPuts staged at s0 s call
stages_or_puts staged at s0 s (MakeDir p) h = h
stages_or_puts staged at s0 s (Create p) h = h
stages_or_puts staged at s0 s (Append p piece) h = h
stages_or_puts staged at s0 s (Sync p) h = h
stages_or_puts staged at s0 s Settle h = tt
stages_or_puts staged at s0 s (Rename old new) h = absurd h.0
stages_or_puts staged at s0 s (RemoveFile p) h = h
stages_or_puts staged at s0 s (RemoveDir p) h = h

spares_both : (staged at : Path) (s0 s : State) (call : Call) → SparesOld (apart_from staged) s0 s call → SparesOld (apart_from_both staged at) s0 s call
spares_both staged at s0 s call h = (by_call call h.0, h.1)
  where
    within : (q : Path) → IsTrue (apart_from_both staged at q) → IsTrue (apart_from staged q)
    within q inside = first_so (apart_from staged q) (apart_from at q) inside

    by_call : (call : Call) → Spares (apart_from staged) call → Spares (apart_from_both staged at) call
    by_call (MakeDir p) h = λ q inside. h q (within q inside)
    by_call (Create p) h = λ q inside. h q (within q inside)
    by_call (Append p piece) h = tt
    by_call (Sync p) h = tt
    by_call Settle h = tt
    by_call (Rename old new) h = λ q inside. h q (within q inside)
    by_call (RemoveFile p) h = λ q inside. h q (within q inside)
    by_call (RemoveDir p) h = λ q inside. h q (within q inside)

pub puts_spare : (staged at : Path) (s0 s : State) (call : Call) → StagesOrPuts staged at s0 s call → SparesOld (apart_from_both staged at) s0 s call
puts_spare staged at s0 s (Rename old new) h = (
  λ q inside. (
    ap (λ p. below p q) h.1 ∙ apart-below at q (second_so (apart_from staged q) (apart_from at q) inside),
    ap (λ p. below p q) h.0 ∙ apart-below staged q (first_so (apart_from staged q) (apart_from at q) inside),
  ),
  tt,
)
puts_spare staged at s0 s Settle h = (tt, tt)
puts_spare staged at s0 s (MakeDir p) h = spares_both staged at s0 s (MakeDir p) (stages_spare staged s0 s (MakeDir p) h)
puts_spare staged at s0 s (Create p) h = spares_both staged at s0 s (Create p) (stages_spare staged s0 s (Create p) h)
puts_spare staged at s0 s (Append p piece) h = spares_both staged at s0 s (Append p piece) (stages_spare staged s0 s (Append p piece) h)
puts_spare staged at s0 s (Sync p) h = spares_both staged at s0 s (Sync p) (stages_spare staged s0 s (Sync p) h)
puts_spare staged at s0 s (RemoveFile p) h = spares_both staged at s0 s (RemoveFile p) (stages_spare staged s0 s (RemoveFile p) h)
puts_spare staged at s0 s (RemoveDir p) h = spares_both staged at s0 s (RemoveDir p) (stages_spare staged s0 s (RemoveDir p) h)

-- what stands where a file was written is the file, and nothing below it
pub new_file_view : (staged : Path) (bytes : List ℕ) (s0 s : State) → IsSound s → IsNewFile bytes s0 s (present s staged) → IsStagedView s (present s) staged (file_view bytes)
new_file_view staged bytes s0 s sound new = record {
  shown = λ rest. shown rest;
  clean = λ rest n here. clean rest n here;
}
  where
    is_file : present s (staged ++ []) ≡ FileNode new.number
    is_file = ap (present s) (append-nil staged) ∙ new.is

    none_below : (a : Part) (rest : Path) → present s (staged ++ a ∷ rest) ≡ Nothing
    none_below a rest =
        nothing_below_file s.made (present s) (sound.tables (present s) (present_is_table s)) staged a rest (λ directory. (let file : present s staged ≡ FileNode new.number = new.is in cc))

    shown : (rest : Path) → found (λ n. (s.nodes n).now) (present s (staged ++ rest)) ≡ file_view bytes rest
    shown [] = ap (found (λ n. (s.nodes n).now)) is_file ∙ ap (λ (node : Node). FileOf node.now) new.holds
    shown (a ∷ rest) = ap (found (λ n. (s.nodes n).now)) (none_below a rest)

    clean : (rest : Path) (n : ℕ) → present s (staged ++ rest) ≡ FileNode n → IsClean (s.nodes n)
    clean [] n here = let one : new.number ≡ n = (let file : present s (staged ++ []) ≡ FileNode new.number = is_file in cc) in subst (λ k. IsClean (s.nodes k)) one (subst IsClean (sym new.holds) refl)
    clean (a ∷ rest) n here = absurd (let none : present s (staged ++ a ∷ rest) ≡ Nothing = none_below a rest in cc)

-- The file of these bytes is written at the one path, then renamed onto the other. Neither path is below the other.
module _ (staged at : Path) (bytes : List ℕ) (apart : below staged at ≡ None) where
  replacing_of_staging : (s0 s : State) → IsSound s0 → IsStaging (bytes ∷ []) staged s0 s → IsReplacing staged at bytes s0 s
  replacing_of_staging s0 s sound h = record {
    change = old_or_new_so_far staged at bytes s0 s apart h.others;
    publishes = publishes_nothing (apart_from staged) (file_edit at bytes ∷ []) s0 s sound h.others;
    place = h.place;
    fronts = h.fronts;
  }

  -- while it is written
  pub replacing_so_far : (a0 a : Told) → IsSound a0.state → Staging (bytes ∷ []) staged a0 a → Replacing staged at bytes a0 a
  replacing_so_far a0 a sound so_far =
      went_more (IsStaging (bytes ∷ []) staged a0.state) (IsReplacing staged at bytes a0.state)
      (λ s e. StagesAt staged a0.state s e.call) (λ s e. StagesOrPuts staged at a0.state s e.call) a0 a
      (λ s h. replacing_of_staging a0.state s sound h)
      (λ s e h. stages_or_puts staged at a0.state s e.call h) so_far

  replacing_call : (call : Call) (a0 a b : Told) (result : Result (Unit {0}) FolderFault)
      → StagesOrPuts staged at a0.state a.state call
      → (IsReplacing staged at bytes a0.state a.state → IsReplacing staged at bytes a0.state (changed a.state call))
      → ((added : ℕ) → fallen a.state call added ≡ a.state)
      → Replacing staged at bytes a0 a → Steps call a b result → Replacing staged at bytes a0 b
  replacing_call call a0 a b result event done fell so_far steps =
      let P : State → Type 0 = IsReplacing staged at bytes a0.state in
      let Q : State → Event → Type 0 = λ s e. StagesOrPuts staged at a0.state s e.call in
      let here : P a.state = went_to P Q a0 a so_far in
      went_on P Q a0 a b so_far (went_by_call P Q call a b result here (λ allowed. done here) (λ added allowed. subst P (sym (fell added)) here) (λ outcome. event) steps)

  pub published_on : (a0 a b : Told) → IsSound a0.state → IsSound a.state → IsStagedAs (bytes ∷ []) staged (record { now = bytes; kept = bytes }) a0 a
      → HasPublished staged (file_edit at bytes ∷ []) a0.state (changed a.state (Rename staged at))
  published_on a0 a b sound sound_now so_far =
      let here : IsStaging (bytes ∷ []) staged a0.state a.state = staging_so_far (bytes ∷ []) staged a0 a so_far.0 in
      published (apart_from staged) staged (file_edit at bytes) a0.state a.state sound here.others (λ q inside. apart-below staged q inside)
      (new_file_view staged bytes a0.state a.state sound_now so_far.1)

  pub renamed_on : (a0 a b : Told) (result : Result (Unit {0}) FolderFault) → below at staged ≡ None → IsSound a0.state → IsSound a.state → Allowed a.state (Rename staged at)
      → IsStagedAs (bytes ∷ []) staged (record { now = bytes; kept = bytes }) a0 a → Steps (Rename staged at) a b result → Replacing staged at bytes a0 b
  renamed_on a0 a b result beside sound sound_now allowed so_far steps =
      let here : IsStaging (bytes ∷ []) staged a0.state a.state = staging_so_far (bytes ∷ []) staged a0 a so_far.0 in
      replacing_call (Rename staged at) a0 a b result (refl, refl, here.others, allowed)
      (λ so_far_. record {
        change = old_or_new_renamed staged at bytes a0.state a.state apart here.others so_far.1;
        publishes = (published_on a0 a b sound sound_now so_far).publishes;
        place = old_or_file_on staged a0.state a.state here.place (Rename staged at) beside;
        fronts = fronts_on (bytes ∷ []) a0.state a.state (Rename staged at) tt here.fronts;
      }) (λ added. refl)
      (replacing_so_far a0 a sound so_far.0) steps

  pub new_renamed_on : (a0 a b : Told)
      → IsStagedAs (bytes ∷ []) staged (record { now = bytes; kept = bytes }) a0 a → Steps (Rename staged at) a b (Ok tt) → IsNewFile bytes a0.state b.state (present b.state at)
  new_renamed_on a0 a b so_far steps =
      let here : IsStaging (bytes ∷ []) staged a0.state a.state = staging_so_far (bytes ∷ []) staged a0 a so_far.0 in
      subst (λ (c : Told). IsNewFile bytes a0.state c.state (present c.state at)) (sym steps.1) (new_renamed staged at bytes a0.state a.state apart here.others so_far.1)

  -- nothing is left where it was written
  pub gone_renamed_on : (a b : Told) → below at staged ≡ None → Steps (Rename staged at) a b (Ok tt) → present b.state staged ≡ Nothing
  gone_renamed_on a b beside steps =
      let t : Table = present a.state in
      let none : below at (staged ++ []) ≡ None = ap (below at) (append-nil staged) ∙ beside in
      let there : moved t staged at staged ≡ Nothing = ap (moved t staged at) (sym (append-nil staged)) ∙ moved-old t staged at [] none in
      let last : present (changed a.state (Rename staged at)) ≡ moved t staged at = last_of-push a.state.kept a.state.later (moved t staged at) in
      subst (λ (c : Told). present c.state staged ≡ Nothing) (sym steps.1) (ap (λ u. u staged) last ∙ there)

  pub settled_on : (a0 a b : Told) (result : Result (Unit {0}) FolderFault) → Replacing staged at bytes a0 a
      → IsNewFile bytes a0.state a.state (present a.state at) → Steps Settle a b result → Replacing staged at bytes a0 b
  settled_on a0 a b result so_far new steps =
      replacing_call Settle a0 a b result tt
      (λ here. record {
        change = (replaced_by_settle (apart_from_both staged at) at bytes a0.state a.state here.change new).change;
        publishes = settle_publishes (apart_from staged) (file_edit at bytes ∷ []) a0.state a.state here.publishes;
        place = old_or_file_on staged a0.state a.state here.place Settle tt;
        fronts = fronts_on (bytes ∷ []) a0.state a.state Settle tt here.fronts;
      }) (λ added. refl) so_far steps

  pub replaced_on : (a0 a b : Told) → Replacing staged at bytes a0 a → HasPublished staged (file_edit at bytes ∷ []) a0.state a.state → present a.state staged ≡ Nothing
      → IsNewFile bytes a0.state a.state (present a.state at) → Steps Settle a b (Ok tt) → HasReplaced staged at bytes a0.state b.state
  replaced_on a0 a b so_far shown gone new steps =
      let P : State → Type 0 = IsReplacing staged at bytes a0.state in
      let here : P a.state = went_to P (λ s e. StagesOrPuts staged at a0.state s e.call) a0 a so_far in
      subst (λ (c : Told). HasReplaced staged at bytes a0.state c.state) (sym steps.1)
      (record {
        replaced = replaced_by_settle (apart_from_both staged at) at bytes a0.state a.state here.change new;
        published = settled (apart_from staged) (file_edit at bytes ∷ []) a0.state a.state shown;
        gone = gone;
      })

  -- the place is still one for a file
  pub place_stays : (s0 s : State) → IsAsBefore (apart_from staged) s0 s → IsFilePlace (present s0) at → IsFilePlace (present s) at
  place_stays s0 s as_was place =
      let here : present s at ≡ present s0 at = as_was.seen at (apart-from_below staged at apart) in
      let above : present s (parent at) ≡ present s0 (parent at) = as_was.seen (parent at) (apart-from_below staged (parent at) (below-parent staged at apart)) in
      elim place as (λ _. IsFilePlace (present s) at) [
        | inl free ↦ inl (here ∙ free.0, above ∙ free.1)
        | inr file ↦ inr (file.0, here ∙ file.1)
      ]

-- The same of a folder that may tell nothing.

-- a file of these bytes has been written
abbrev pub IsStagedFile : Path → List ℕ → Told → Told → Type 0
IsStagedFile p bytes = IsStagedAs (bytes ∷ []) p (record { now = bytes; kept = bytes })

module _ (files : List (List ℕ)) (p : Path) (t0 t1 t2 : Option Told) (result : Result (Unit {0}) FolderFault) where
  pub removing_from : t1 ≡ t0 → Changes (RemoveFile p) t1 t2 result → FromTo (Staging files p) t0 t2
  removing_from same changes =
      from_to_on (λ a0 a. Staging files p a0 a) (λ a b. Steps (RemoveFile p) a b result) (Staging files p) t0 t1 t2
      (λ a0 a b h steps. staging_call files p (RemoveFile p) a0 a b result (may_remove files p a0.state.made a.state) h steps)
      (from_to_same (Staging files p) t0 t1 same (staging_none files p)) changes

  pub freed_from : p ≢ [] → ((a : Told) → t0 ≡ Some a → IsSound a.state) → t1 ≡ t0
      → Changes (RemoveFile p) t1 t2 result → OnOk result (FromTo (λ a b. IsFree (present b.state) p) t0 t2)
  freed_from some sound same changes = by_result result changes
    where
      by_result : (result : Result (Unit {0}) FolderFault) → Changes (RemoveFile p) t1 t2 result → OnOk result (FromTo (λ a b. IsFree (present b.state) p) t0 t2)
      by_result (Err fault) changes = tt
      by_result (Ok done) changes =
          from_to_more (λ a b. Steps (RemoveFile p) a b (Ok done)) (λ a b. IsFree (present b.state) p) t0 t2
          (λ a b is steps. (removed_on files p a a b some (sound a is) (staging_none files p a) steps).1)
          (subst (λ t. Changes (RemoveFile p) t t2 (Ok done)) same changes)

  pub creating_from : IsFrontOfOne files [] → FromTo (Staging files p) t0 t1 → Changes (Create p) t1 t2 result → FromTo (Staging files p) t0 t2
  creating_from empty so_far changes =
      from_to_on (Staging files p) (λ a b. Steps (Create p) a b result) (Staging files p) t0 t1 t2
      (λ a0 a b h steps. staging_call files p (Create p) a0 a b result (may_create files p a0.state.made a.state empty) h steps) so_far changes

  pub appending_from : (piece : List ℕ) (node : Node) → IsFrontOfOne files (node.now ++ piece) → FromTo (IsStagedAs files p node) t0 t1
      → Changes (Append p piece) t1 t2 result → FromTo (Staging files p) t0 t2
  appending_from piece node front so_far changes =
      from_to_on (IsStagedAs files p node) (λ a b. Steps (Append p piece) a b result) (Staging files p) t0 t1 t2
      (λ a0 a b h steps. staging_call files p (Append p piece) a0 a b result (may_append files p piece node a0.state a.state h.1 front) h.0 steps) so_far changes

  pub syncing_from : (node : Node) → FromTo (IsStagedAs files p node) t0 t1 → Changes (Sync p) t1 t2 result → FromTo (Staging files p) t0 t2
  syncing_from node so_far changes =
      from_to_on (IsStagedAs files p node) (λ a b. Steps (Sync p) a b result) (Staging files p) t0 t1 t2
      (λ a0 a b h steps. staging_call files p (Sync p) a0 a b result (may_sync files p node a0.state a.state h.1) h.0 steps) so_far changes

module _ (files : List (List ℕ)) (p : Path) (t0 t1 t2 : Option Told) where
  pub created_from : IsFrontOfOne files [] → FromTo (Staging files p) t0 t1 → Changes (Create p) t1 t2 (Ok tt) → FromTo (IsStagedAs files p empty_node) t0 t2
  created_from empty so_far changes =
      from_to_on (Staging files p) (λ a b. Steps (Create p) a b (Ok tt)) (IsStagedAs files p empty_node) t0 t1 t2 (λ a0 a b h. created_on files p a0 a b empty h) so_far changes

  pub appended_from : (piece : List ℕ) (node : Node) → IsFrontOfOne files (node.now ++ piece) → FromTo (IsStagedAs files p node) t0 t1
      → Changes (Append p piece) t1 t2 (Ok tt) → FromTo (IsStagedAs files p (grown piece node)) t0 t2
  appended_from piece node front so_far changes =
      from_to_on (IsStagedAs files p node) (λ a b. Steps (Append p piece) a b (Ok tt)) (IsStagedAs files p (grown piece node)) t0 t1 t2
      (λ a0 a b h. appended_on files p piece node a0 a b front h) so_far changes

  pub synced_from : (node : Node) → FromTo (IsStagedAs files p node) t0 t1 → Changes (Sync p) t1 t2 (Ok tt) → FromTo (IsStagedAs files p (synced node)) t0 t2
  synced_from node so_far changes =
      from_to_on (IsStagedAs files p node) (λ a b. Steps (Sync p) a b (Ok tt)) (IsStagedAs files p (synced node)) t0 t1 t2 (synced_on files p node) so_far changes

-- before any file is made
pub staging_of_none : (files : List (List ℕ)) (p : Path) (t u : Option Told) → FromTo (Staging [] p) t u → FromTo (Staging files p) t u
staging_of_none files p t u so_far =
    from_to_more (Staging [] p) (Staging files p) t u (λ a b is h. staging_more [] files p a b (λ file among. absurd (let none : among.0 < 0 = among.1 in omega arith)) h) so_far

-- the file is there
pub staged_from : (files : List (List ℕ)) (p : Path) (node : Node) (t0 t1 : Option Told) → FromTo (IsStagedAs files p node) t0 t1
    → (a : Told) → t1 ≡ Some a → HasFile (present a.state) p
staged_from files p node (Some a0) (Some b) so_far a is =
    let same : b ≡ a = cc is in subst (λ (c : Told). HasFile (present c.state) p) same (so_far.1.number, so_far.1.is)
staged_from files p node None None so_far a is = cc is
staged_from files p node (Some a0) None so_far a is = absurd so_far
staged_from files p node None (Some b) so_far a is = absurd so_far

-- a file that was written in one piece is whole once it is synced
pub written_from : (files : List (List ℕ)) (p : Path) (bytes : List ℕ) (t0 t1 t2 : Option Told) (result : Result (Unit {0}) FolderFault)
    → FromTo (IsStagedAs files p (grown bytes empty_node)) t0 t1
    → Changes (Sync p) t1 t2 result → OnOk result (FromTo (λ a b. IsNewFile bytes a.state b.state (present b.state p)) t0 t2)
written_from files p bytes t0 t1 t2 (Err fault) so_far changes = tt
written_from files p bytes t0 t1 t2 (Ok done) so_far changes =
    from_to_more (IsStagedAs files p (synced (grown bytes empty_node))) (λ a b. IsNewFile bytes a.state b.state (present b.state p)) t0 t2 (λ a b is h. h.1)
    (synced_from files p t0 t1 t2 (grown bytes empty_node) so_far changes)

-- the one file, and no bytes of it yet
pub one_file : (bytes : List ℕ) → IsFrontOfOne (bytes ∷ []) bytes
one_file bytes = record { file = bytes; among = (0, omega arith, refl); front = ([], sym (append-nil bytes)) }

pub none_of_it : (bytes : List ℕ) → IsFrontOfOne (bytes ∷ []) []
none_of_it bytes = record { file = bytes; among = (0, omega arith, refl); front = (bytes, refl) }

module _ (staged at : Path) (bytes : List ℕ) (apart : below staged at ≡ None) where
  pub replacing_from : (t0 t1 : Option Told) → ((a : Told) → t0 ≡ Some a → IsSound a.state) → FromTo (Staging (bytes ∷ []) staged) t0 t1
      → FromTo (Replacing staged at bytes) t0 t1
  replacing_from t0 t1 sound so_far =
      from_to_more (Staging (bytes ∷ []) staged) (Replacing staged at bytes) t0 t1 (λ a b is h. replacing_so_far staged at bytes apart a b (sound a is) h) so_far

  -- no call yet
  pub replacing_none : (t : Option Told) → ((a : Told) → t ≡ Some a → IsSound a.state) → FromTo (Replacing staged at bytes) t t
  replacing_none t sound =
      replacing_from t t sound (from_to_same (Staging (bytes ∷ []) staged) t t refl (staging_none (bytes ∷ []) staged))

  -- what is known before the rename
  abbrev MayPut : Told → Told → Type 0
  MayPut a b = (IsStagedFile staged bytes a b × IsSound a.state × IsSound b.state) × Allowed b.state (Rename staged at)

  may_put : (t0 t1 : Option Told) → ((a : Told) → t0 ≡ Some a → IsSound a.state) → ((a : Told) → t1 ≡ Some a → IsSound a.state)
      → ((a : Told) → t1 ≡ Some a → Allowed a.state (Rename staged at)) → FromTo (IsStagedFile staged bytes) t0 t1 → FromTo MayPut t0 t1
  may_put t0 t1 sound sound_now allowed so_far =
      from_to_then (λ a b. IsStagedFile staged bytes a b × IsSound a.state × IsSound b.state) (λ b. Allowed b.state (Rename staged at)) t0 t1 allowed
      (from_to_known (IsStagedFile staged bytes) (λ a. IsSound a.state) t0 t1 sound sound_now so_far)

  pub renaming_from : (t0 t1 t2 : Option Told) (result : Result (Unit {0}) FolderFault) → below at staged ≡ None
      → ((a : Told) → t0 ≡ Some a → IsSound a.state) → ((a : Told) → t1 ≡ Some a → IsSound a.state) → ((a : Told) → t1 ≡ Some a → Allowed a.state (Rename staged at))
      → FromTo (IsStagedFile staged bytes) t0 t1 → Changes (Rename staged at) t1 t2 result → FromTo (Replacing staged at bytes) t0 t2
  renaming_from t0 t1 t2 result beside sound sound_now allowed so_far changes =
      from_to_on MayPut (λ a b. Steps (Rename staged at) a b result) (Replacing staged at bytes) t0 t1 t2
      (λ a0 a b h steps. renamed_on staged at bytes apart a0 a b result beside h.0.1 h.0.2 h.1 h.0.0 steps) (may_put t0 t1 sound sound_now allowed so_far) changes

-- renamed, and not yet settled
pub record IsRenamed (staged at : Path) (bytes : List ℕ) (a0 a : Told) : Type 0 where
  pub went : Replacing staged at bytes a0 a
  pub published : HasPublished staged (file_edit at bytes ∷ []) a0.state a.state
  pub new : IsNewFile bytes a0.state a.state (present a.state at)
  pub gone : present a.state staged ≡ Nothing

module _ (staged at : Path) (bytes : List ℕ) (apart : below staged at ≡ None) where
  pub renamed_from : (t0 t1 t2 : Option Told) → below at staged ≡ None
      → ((a : Told) → t0 ≡ Some a → IsSound a.state) → ((a : Told) → t1 ≡ Some a → IsSound a.state) → ((a : Told) → t1 ≡ Some a → Allowed a.state (Rename staged at))
      → FromTo (IsStagedFile staged bytes) t0 t1 → Changes (Rename staged at) t1 t2 (Ok tt) → FromTo (IsRenamed staged at bytes) t0 t2
  renamed_from t0 t1 t2 beside sound sound_now allowed so_far changes =
      from_to_on (MayPut staged at bytes apart) (λ a b. Steps (Rename staged at) a b (Ok tt)) (IsRenamed staged at bytes) t0 t1 t2
      (λ a0 a b h steps. record {
        went = renamed_on staged at bytes apart a0 a b (Ok tt) beside h.0.1 h.0.2 h.1 h.0.0 steps;
        published = subst (λ (c : Told). HasPublished staged (file_edit at bytes ∷ []) a0.state c.state) (sym steps.1) (published_on staged at bytes apart a0 a b h.0.1 h.0.2 h.0.0);
        new = new_renamed_on staged at bytes apart a0 a b h.0.0 steps;
        gone = gone_renamed_on staged at bytes apart a b beside steps;
      }) (may_put staged at bytes apart t0 t1 sound sound_now allowed so_far) changes

  pub settling_from : (t0 t1 t2 : Option Told) (result : Result (Unit {0}) FolderFault)
      → FromTo (IsRenamed staged at bytes) t0 t1 → Changes Settle t1 t2 result → FromTo (Replacing staged at bytes) t0 t2
  settling_from t0 t1 t2 result so_far changes =
      from_to_on (IsRenamed staged at bytes) (λ a b. Steps Settle a b result) (Replacing staged at bytes) t0 t1 t2
      (λ a0 a b h steps. settled_on staged at bytes apart a0 a b result h.went h.new steps) so_far changes

  pub settled_from : (t0 t1 t2 : Option Told) (result : Result (Unit {0}) FolderFault)
      → FromTo (IsRenamed staged at bytes) t0 t1 → Changes Settle t1 t2 result
      → OnOk result (FromTo (λ a b. HasReplaced staged at bytes a.state b.state) t0 t2)
  settled_from t0 t1 t2 (Err fault) so_far changes = tt
  settled_from t0 t1 t2 (Ok done) so_far changes =
      from_to_on (IsRenamed staged at bytes) (λ a b. Steps Settle a b (Ok done)) (λ a b. HasReplaced staged at bytes a.state b.state) t0 t1 t2
      (λ a0 a b h steps. replaced_on staged at bytes apart a0 a b h.went h.published h.gone h.new steps) so_far changes

-- a place for a file in a directory
pub place_in : (t : Table) (at : Path) (a : Part) → t at ≡ Directory → (t (child at a) ≡ Nothing) ⊎ HasFile t (child at a) → IsFilePlace t (child at a)
place_in t at a folder here = elim here as (λ _. IsFilePlace t (child at a)) [
  | inl none ↦ inl (none, ap t (parent-child at a) ∙ folder)
  | inr file ↦ inr file
]
