-- A folder is begun, gains files and directories, and is published.
use mathlib.Core.Path.{fun_ext}
use Rattle.std.proofs.Common.{◌≡◌, ℕ, ◌<◌, ◌≤◌, Bool, true, false, cond, bytes_eq, List, [], ◌∷◌, ◌++◌, Option, Some, None, Result, Ok, Err, OnOk, refl, sym, ap, ◌∙◌, subst, inl, inr, arith, append-nil, append_assoc, IsTrue}
use Rattle.std.specs.Prelude.{is_some}
use Rattle.std.specs.Cmp.{first_so}
use Rattle.folder_spec.specs.declared.FolderFault.{FolderFault}
use Rattle.folder_spec.specs.declared.Spot.{Spot}
use Rattle.folder_spec.specs.declared.Spot.TheVariants.{Nothing, Directory, FileNode, Odd}
use Rattle.folder_spec.specs.Path.{Part, Path, below, child}
use Rattle.folder_spec.specs.State.{Node, State, present, put, IsClean, IsSound}
use Rattle.folder_spec.specs.Event.{Call, MakeDir, Create, Append, Sync, Settle, Rename, RemoveFile, RemoveDir, IsFree, Allowed, Event, Told, Steps, Changes, FromTo, changed}
use Rattle.folder_spec.specs.Moments.{Went}
use Rattle.folder_spec.specs.Region.{IsAsBefore, WorksAt, StagesAt, StagesOrPuts, WritesOnlyNew, apart_from, apart_from_both, at_or_below}
use Rattle.folder_spec.specs.Replace.{IsNewFile, IsStaging}
use Rattle.folder_spec.specs.View.{NoEntry, Folder, FileOf, View, found}
use Rattle.folder_spec.specs.Seen.{IfSeen, IsSeen, ShowsFree, seen}
use Rattle.folder_spec.specs.Edit.{Edit, grafted, edited, directory_view, directory_edit, file_among, file_view, file_edit, folder_view, IsStagedView, HasPublished}
use Rattle.folder_spec.proofs.Paths.{below-append, below-both, begins_or_not, not_below}
use Rattle.folder_spec.proofs.Tables.{put-same, put-other, present_is_table, last_of-push}
use Rattle.folder_spec.proofs.Regions.{as_before, as_before_on, as_before_then}
use Rattle.folder_spec.proofs.Replaces.{apart-below, apart-not_same, apart-from_below}
use Rattle.folder_spec.proofs.Moments.{went_on, went_by_call, went_more, went_to}
use Rattle.folder_spec.proofs.Tellings.{from_to_both, from_to_more, from_to_on, from_to_then}
use Rattle.folder_spec.proofs.Seen.{free_seen, may_call_allowed, seen_of}
use Rattle.folder_spec.proofs.Edits.{nothing_below_file, publishes_nothing, published, settle_publishes, settled, at_edit, off_edit}
use Rattle.folder_spec.proofs.Stages.{Staging, at_itself, stages_or_puts, puts_spare, gone_renamed_on, new_file_view}
use Rattle.folder_spec.proofs.Written.{fronts_then, fronts_of_none}
use Rattle.folder_staging.specs.Pieces.{Stages}
use Rattle.folder_staging.specs.Folders.{IsStagingFolder, StagesFolder, HasStaged, IsStagedFolder, BeginsFolder, MayPublishFolder, IsPublishingFolder, PublishingFolder, HasPublishedFolder, HasPlacedFolder, PublishesFolder, PlacesFolder}

abbrev StagingFolder : List (List ℕ) → Path → Told → Told → Type 0
StagingFolder fronts at a b = Went (IsStagingFolder fronts at a.state) (λ s e. StagesAt at a.state s e.call) a b

-- A directory is made.
begun_run : (fronts : List (List ℕ)) (at : Path) (a b : Told) (result : Result (Unit {0}) FolderFault) → Steps (MakeDir at) a b result → StagingFolder fronts at a b
begun_run fronts at a b result steps =
    went_by_call (IsStagingFolder fronts at a.state) (λ s e. StagesAt at a.state s e.call) (MakeDir at) a b result here
    (λ allowed. record { others = as_before_on (apart_from at) a.state a.state (MakeDir at) (apart-not_same at) tt (as_before (apart_from at) a.state); fronts = fronts_of_none fronts a.state })
    (λ added allowed. here) (λ outcome. (at_itself at, tt)) steps
  where
    here : IsStagingFolder fronts at a.state a.state
    here = record { others = as_before (apart_from at) a.state; fronts = fronts_of_none fronts a.state }

made_view : (at : Path) (s : State) → IsSound s → IsFree (present s) at → IsStagedView (changed s (MakeDir at)) (present (changed s (MakeDir at))) at (folder_view [])
made_view at s sound free = subst (λ t. IsStagedView (changed s (MakeDir at)) t at (folder_view [])) (sym (last_of-push s.kept s.later (put (present s) at Directory))) (record {
  shown = λ rest. ap (found (λ n. (s.nodes n).now)) (there rest) ∙ view rest;
  clean = λ rest n file. absurd (no_file rest n (sym (there rest) ∙ file));
})
  where
    spot : Path → Spot
    spot [] = Directory
    spot (a ∷ rest) = Nothing

    there : (rest : Path) → put (present s) at Directory (at ++ rest) ≡ spot rest
    there [] = ap (put (present s) at Directory) (append-nil at) ∙ put-same (present s) at Directory
    there (a ∷ rest) =
        put-other (present s) at Directory (at ++ a ∷ rest)
        (λ e. (let longer : below at at ≡ Some (a ∷ rest) = ap (below at) e ∙ below-append at (a ∷ rest) in
        let itself : below at at ≡ Some [] = ap (below at) (sym (append-nil at)) ∙ below-append at [] in
        cc))
        ∙ nothing_below_file s.made (present s) (sound.tables (present s) (present_is_table s)) at a rest (λ dir. let both : Nothing ≡ Directory = sym free.0 ∙ dir in cc)

    view : (rest : Path) → found (λ n. (s.nodes n).now) (spot rest) ≡ folder_view [] rest
    view [] = refl
    view (a ∷ []) = refl
    view (a ∷ b ∷ rest) = refl

    no_file : (rest : Path) (n : ℕ) → spot rest ≡ FileNode n → ⊥
    no_file [] n e = cc e
    no_file (a ∷ rest) n e = cc e

pub begins_folder : (at : Path) (t u : Option Told) (result : Result (Unit {0}) FolderFault) → ((a : Told) → t ≡ Some a → IsSound a.state) → Changes (MakeDir at) t u result
    → BeginsFolder at t u result
begins_folder at t u (Err fault) sound changes fronts =
    (from_to_more (λ a b. Steps (MakeDir at) a b (Err fault)) (StagingFolder fronts at) t u (λ a b is. begun_run fronts at a b (Err fault)) changes, tt)
begins_folder at t u (Ok done) sound changes fronts =
    let went : FromTo (StagingFolder fronts at) t u =
    from_to_more (λ a b. Steps (MakeDir at) a b (Ok done)) (StagingFolder fronts at) t u (λ a b is. begun_run fronts at a b (Ok done)) changes in (
      went,
      record {
        stages = went;
        whole = from_to_more (λ a b. Steps (MakeDir at) a b (Ok done)) (λ a b. IsStagedView b.state (present b.state) at (folder_view [])) t u
            (λ a b is steps. subst (λ (c : Told). IsStagedView c.state (present c.state) at (folder_view [])) (sym steps.1) (made_view at a.state (sound a is) steps.0)) changes;
      },
    )

-- Something is staged in it.
inside_apart : (at rest q : Path) → IsTrue (apart_from at q) → IsTrue (apart_from (at ++ rest) q)
inside_apart at rest q apart = apart-from_below (at ++ rest) q (elim (begins_or_not (at ++ rest) q) as (λ _. below (at ++ rest) q ≡ None) [
  | inl k ↦ absurd (not_below at (rest ++ k.0) (ap (below at) (sym (k.1 ∙ append_assoc at rest k.0)) ∙ apart-below at q apart))
  | inr none ↦ none
])

staging_then : (fronts : List (List ℕ)) (at rest : Path) (s0 s1 s : State) → IsStagingFolder fronts at s0 s1 → IsStagingFolder fronts (at ++ rest) s1 s
    → IsStagingFolder fronts at s0 s
staging_then fronts at rest s0 s1 s first second = record {
  others = as_before_then (apart_from at) (apart_from (at ++ rest)) s0 s1 s (inside_apart at rest) first.others second.others;
  fronts = fronts_then fronts s0 s1 s first.fronts second.fronts second.others.nodes;
}

new_of_more : (made more : ℕ) (s : State) (call : Call) → made ≤ more → WritesOnlyNew more s call → WritesOnlyNew made s call
new_of_more made more s (Append p piece) le h = λ n here. (let new : more ≤ n = h n here in omega (arith, le, new))
new_of_more made more s (Sync p) le h = λ n here. (let new : more ≤ n = h n here in omega (arith, le, new))
new_of_more made more s (MakeDir p) le h = tt
new_of_more made more s (Create p) le h = tt
new_of_more made more s Settle le h = tt
new_of_more made more s (Rename old new) le h = tt
new_of_more made more s (RemoveFile p) le h = tt
new_of_more made more s (RemoveDir p) le h = tt

-- what works below a path works at it
at_above : (at rest q : Path) → IsTrue (at_or_below (at ++ rest) q) → IsTrue (at_or_below at q)
at_above at rest q h = elim (begins_or_not (at ++ rest) q) as (λ _. IsTrue (at_or_below at q)) [
  | inl k ↦ ap is_some (ap (below at) (k.1 ∙ append_assoc at rest k.0) ∙ below-append at (rest ++ k.0))
  | inr none ↦ absurd (let no_ : false ≡ true = sym (ap is_some none) ∙ h in cc)
]

works_above : (at rest : Path) (call : Call) → WorksAt (at ++ rest) call → WorksAt at call
works_above at rest (MakeDir p) h = at_above at rest p h
works_above at rest (Create p) h = at_above at rest p h
works_above at rest (Append p piece) h = at_above at rest p h
works_above at rest (Sync p) h = at_above at rest p h
works_above at rest Settle h = h
works_above at rest (Rename old new) h = h
works_above at rest (RemoveFile p) h = at_above at rest p h
works_above at rest (RemoveDir p) h = at_above at rest p h

gains_run : (fronts : List (List ℕ)) (at rest : Path) (a b c : Told) → StagingFolder fronts at a b → StagingFolder fronts (at ++ rest) b c → StagingFolder fronts at a c
gains_run fronts at rest a b c first second =
    let so_far : IsStagingFolder fronts at a.state b.state = went_to (IsStagingFolder fronts at a.state) (λ s e. StagesAt at a.state s e.call) a b first in
    went_on (IsStagingFolder fronts at a.state) (λ s e. StagesAt at a.state s e.call) a b c first
    (went_more (IsStagingFolder fronts (at ++ rest) b.state) (IsStagingFolder fronts at a.state) (λ s e. StagesAt (at ++ rest) b.state s e.call)
    (λ s e. StagesAt at a.state s e.call) b c (λ s h. staging_then fronts at rest a.state b.state s so_far h)
    (λ s e h. (
      works_above at rest e.call h.0,
      new_of_more a.state.made b.state.made s e.call so_far.others.made h.1,
    )) second)

-- a file is
pub file_in_folder : (fronts : List (List ℕ)) (at : Path) (before now : Option Told) → Stages fronts at before now → StagesFolder fronts at before now
file_in_folder fronts at before now stages =
    from_to_more (Staging fronts at) (StagingFolder fronts at) before now
    (λ a b is went. went_more (IsStaging fronts at a.state) (IsStagingFolder fronts at a.state) (λ s e. StagesAt at a.state s e.call)
    (λ s e. StagesAt at a.state s e.call) a b (λ s h. record { others = h.others; fronts = h.fronts }) (λ s e h. h) went) stages

-- What stands elsewhere in it is as it was.
module _ (at rest : Path) (made inner : View) (s1 s : State) (sound1 : IsSound s1) (before : IsStagedView s1 (present s1) at made)
    (others : IsAsBefore (apart_from (at ++ rest)) s1 s) (staged : IsStagedView s (present s) (at ++ rest) inner) where
  spot_seen : (x : Spot) → ((n : ℕ) → x ≡ FileNode n → n < s1.made) → found (λ n. (s.nodes n).now) x ≡ found (λ n. (s1.nodes n).now) x
  spot_seen Nothing made_ = refl
  spot_seen Directory made_ = refl
  spot_seen Odd made_ = refl
  spot_seen (FileNode n) made_ = ap (λ (node : Node). FileOf node.now) (others.nodes n (made_ n refl))

  was_made : (q : Path) (n : ℕ) → present s1 q ≡ FileNode n → n < s1.made
  was_made q n here = (sound1.tables (present s1) (present_is_table s1)).is_made q n here

  alike : (q : Path) → below rest q ≡ None → present s (at ++ q) ≡ present s1 (at ++ q)
  alike q apart = others.seen (at ++ q) (apart-from_below (at ++ rest) (at ++ q) (below-both at rest q ∙ apart))

  there : (q k : Path) → q ≡ rest ++ k → present s (at ++ q) ≡ present s ((at ++ rest) ++ k)
  there q k is = ap (present s) (ap (λ r. at ++ r) is ∙ sym (append_assoc at rest k))

  abbrev grafted_on : Edit
  grafted_on = record { at = rest; made = inner }

  gains_view : IsStagedView s (present s) at (edited made grafted_on)
  gains_view = record {
    shown = λ q. elim (begins_or_not rest q) as (λ _. found (λ n. (s.nodes n).now) (present s (at ++ q)) ≡ edited made grafted_on q) [
      | inl k ↦ ap (found (λ n. (s.nodes n).now)) (there q k.0 k.1) ∙ staged.shown k.0 ∙ sym (at_edit made grafted_on q k.0 k.1)
      | inr none ↦
          ap (found (λ n. (s.nodes n).now)) (alike q none) ∙ spot_seen (present s1 (at ++ q)) (was_made (at ++ q)) ∙ before.shown q ∙ sym (off_edit made grafted_on q none)
    ];
    clean = λ q n here. elim (begins_or_not rest q) as (λ _. IsClean (s.nodes n)) [
      | inl k ↦ staged.clean k.0 n (sym (there q k.0 k.1) ∙ here)
      | inr none ↦
          let was : present s1 (at ++ q) ≡ FileNode n = sym (alike q none) ∙ here in
          subst IsClean (sym (others.nodes n (was_made (at ++ q) n was))) (before.clean q n was)
    ];
  }

-- while it is staged
pub folder_with : (fronts : List (List ℕ)) (at rest : Path) (made : View) (before mid now : Option Told) → HasStaged fronts at made before mid
    → StagesFolder fronts (at ++ rest) mid now → StagesFolder fronts at before now
folder_with fronts at rest made before mid now h stages =
    from_to_on (StagingFolder fronts at) (StagingFolder fronts (at ++ rest)) (StagingFolder fronts at) before mid now (gains_run fronts at rest) h.stages stages

-- and once it is there
pub folder_gains : (fronts : List (List ℕ)) (at rest : Path) (made inner : View) (before mid now : Option Told) → ((a : Told) → mid ≡ Some a → IsSound a.state)
    → HasStaged fronts at made before mid → HasStaged fronts (at ++ rest) inner mid now → HasStaged fronts at (edited made (record { at = rest; made = inner })) before now
folder_gains fronts at rest made inner before mid now sound h then_ = record {
  stages = folder_with fronts at rest made before mid now h then_.stages;
  whole = from_to_on (λ a b. IsStagedView b.state (present b.state) at made × IsSound b.state)
      (λ a b. StagingFolder fronts (at ++ rest) a b × IsStagedView b.state (present b.state) (at ++ rest) inner)
      (λ a b. IsStagedView b.state (present b.state) at (edited made (record { at = rest; made = inner }))) before mid now
      (λ a b c k l. gains_view at rest made inner b.state c.state k.1 k.0
      (went_to (IsStagingFolder fronts (at ++ rest) b.state) (λ s e. StagesAt (at ++ rest) b.state s e.call) b c l.0).others l.1)
      (from_to_then (λ a b. IsStagedView b.state (present b.state) at made) (λ b. IsSound b.state) before mid sound h.whole)
      (from_to_both (StagingFolder fronts (at ++ rest)) (λ a b. IsStagedView b.state (present b.state) (at ++ rest) inner) mid now then_.stages then_.whole);
}

-- a file
file_staged : (fronts : List (List ℕ)) (at : Path) (bytes : List ℕ) (before now : Option Told) → ((a : Told) → now ≡ Some a → IsSound a.state) → Stages fronts at before now
    → FromTo (λ a b. IsNewFile bytes a.state b.state (present b.state at)) before now → HasStaged fronts at (file_view bytes) before now
file_staged fronts at bytes before now sound stages file = record {
  stages = file_in_folder fronts at before now stages;
  whole = view before now sound file;
}
  where
    view : (before now : Option Told) → ((a : Told) → now ≡ Some a → IsSound a.state) → FromTo (λ a b. IsNewFile bytes a.state b.state (present b.state at)) before now
        → FromTo (λ a b. IsStagedView b.state (present b.state) at (file_view bytes)) before now
    view None None sound file = tt
    view (Some a) (Some b) sound file = new_file_view at bytes a.state b.state (sound b refl) file
    view None (Some b) sound file = absurd file
    view (Some a) None sound file = absurd file

pub folder_gains_file : (fronts : List (List ℕ)) (at rest : Path) (bytes : List ℕ) (made : View) (before mid now : Option Told)
    → ((a : Told) → mid ≡ Some a → IsSound a.state) → ((a : Told) → now ≡ Some a → IsSound a.state) → HasStaged fronts at made before mid
    → Stages fronts (at ++ rest) mid now → FromTo (λ a b. IsNewFile bytes a.state b.state (present b.state (at ++ rest))) mid now
    → HasStaged fronts at (edited made (file_edit rest bytes)) before now
folder_gains_file fronts at rest bytes made before mid now sound_mid sound_now h stages file =
    folder_gains fronts at rest made (file_view bytes) before mid now sound_mid h (file_staged fronts (at ++ rest) bytes mid now sound_now stages file)

-- under a name of its own
named_file : (files : List (Part × List ℕ)) (name : Part) (bytes : List ℕ) → edited (folder_view files) (file_edit (name ∷ []) bytes) ≡ folder_view ((name, bytes) ∷ files)
named_file files name bytes = fun_ext at
  where
    one : (x : Bool) (a : Part) → grafted (folder_view files) (file_edit (name ∷ []) bytes) (a ∷ []) (cond x (Some []) None) ≡ cond x (FileOf bytes) (file_among files a)
    one true a = refl
    one false a = refl

    more : (x : Bool) (a b : Part) (q : Path) → grafted (folder_view files) (file_edit (name ∷ []) bytes) (a ∷ b ∷ q) (cond x (Some (b ∷ q)) None) ≡ NoEntry
    more true a b q = refl
    more false a b q = refl

    at : (q : Path) → edited (folder_view files) (file_edit (name ∷ []) bytes) q ≡ folder_view ((name, bytes) ∷ files) q
    at [] = refl
    at (a ∷ []) = one (bytes_eq name a) a
    at (a ∷ b ∷ q) = more (bytes_eq name a) a b q

pub folder_gains_named_file : (fronts : List (List ℕ)) (at : Path) (name : Part) (bytes : List ℕ) (files : List (Part × List ℕ)) (before mid now : Option Told)
    → ((a : Told) → mid ≡ Some a → IsSound a.state) → ((a : Told) → now ≡ Some a → IsSound a.state) → IsStagedFolder fronts at files before mid
    → Stages fronts (child at name) mid now → FromTo (λ a b. IsNewFile bytes a.state b.state (present b.state (child at name))) mid now
    → IsStagedFolder fronts at ((name, bytes) ∷ files) before now
folder_gains_named_file fronts at name bytes files before mid now sound_mid sound_now h stages file =
    subst (λ view. HasStaged fronts at view before now) (named_file files name bytes)
    (folder_gains_file fronts at (name ∷ []) bytes (folder_view files) before mid now sound_mid sound_now h stages file)

-- a directory
pub folder_gains_directory : (fronts : List (List ℕ)) (at rest : Path) (made : View) (before mid now : Option Told) → ((a : Told) → mid ≡ Some a → IsSound a.state)
    → HasStaged fronts at made before mid → IsStagedFolder fronts (at ++ rest) [] mid now → HasStaged fronts at (edited made (directory_edit rest)) before now
folder_gains_directory fronts at rest made before mid now sound h then_ =
    folder_gains fronts at rest made directory_view before mid now sound h (subst (λ view. HasStaged fronts (at ++ rest) view mid now) (fun_ext no_files) then_)
  where
    no_files : (q : Path) → folder_view [] q ≡ directory_view q
    no_files [] = refl
    no_files (a ∷ []) = refl
    no_files (a ∷ b ∷ q) = refl

-- what is staged is seen
pub staged_seen : (fronts : List (List ℕ)) (at : Path) (made : View) (before now : Option Told) → HasStaged fronts at made before now → (v : View) → IsSeen now v → (rest : Path)
    → v (at ++ rest) ≡ made rest
staged_seen fronts at made before now h v is rest = at_now before now h.whole is
  where
    at_now : (before now : Option Told) → FromTo (λ a b. IsStagedView b.state (present b.state) at made) before now → IsSeen now v → v (at ++ rest) ≡ made rest
    at_now (Some a) (Some b) view is = ap (λ w. w (at ++ rest)) is ∙ view.shown rest
    at_now None (Some b) view is = absurd view
    at_now before None view is = absurd is

-- It is published.
module _ (fronts : List (List ℕ)) (staged at : Path) (made : View) (apart : below staged at ≡ None) where
  abbrev comes : Edit
  comes = record { at = at; made = made }

  abbrev Publishing : Told → Told → Type 0
  Publishing a b = Went (IsPublishingFolder fronts staged comes a.state) (λ s e. StagesOrPuts staged at a.state s e.call) a b

  abbrev StagedFolder : Told → Told → Type 0
  StagedFolder a b = StagingFolder fronts staged a b × IsStagedView b.state (present b.state) staged made

  abbrev Known : Told → Told → Type 0
  Known a b = StagedFolder a b × IsSound a.state

  so_far_as_before : (s0 s : State) → IsAsBefore (apart_from staged) s0 s → IsAsBefore (apart_from_both staged at) s0 s
  so_far_as_before s0 s h =
      as_before_then (apart_from_both staged at) (apart_from staged) s0 s0 s (λ q inside. first_so (apart_from staged q) (apart_from at q) inside)
      (as_before (apart_from_both staged at) s0) h

  so_far_published : (a b : Told) → IsSound a.state → StagingFolder fronts staged a b → Publishing a b
  so_far_published a b sound went =
      went_more (IsStagingFolder fronts staged a.state) (IsPublishingFolder fronts staged comes a.state) (λ s e. StagesAt staged a.state s e.call)
      (λ s e. StagesOrPuts staged at a.state s e.call) a b
      (λ s h. record {
        others = so_far_as_before a.state s h.others;
        publishes = publishes_nothing (apart_from staged) (comes ∷ []) a.state s sound h.others;
        fronts = h.fronts;
      }) (λ s e h. stages_or_puts staged at a.state s e.call h) went

  staged_others : (a b : Told) → StagedFolder a b → IsAsBefore (apart_from staged) a.state b.state
  staged_others a b h = (went_to (IsStagingFolder fronts staged a.state) (λ s e. StagesAt staged a.state s e.call) a b h.0).others

  has_published : (a b : Told) → IsSound a.state → StagedFolder a b → HasPublished staged (comes ∷ []) a.state (changed b.state (Rename staged at))
  has_published a b sound h = published (apart_from staged) staged comes a.state b.state sound (staged_others a b h) (apart-below staged) h.1

  publish_run : (a b c : Told) (result : Result (Unit {0}) FolderFault) → IsSound a.state → Allowed b.state (Rename staged at) → StagedFolder a b
      → Steps (Rename staged at) b c result → Publishing a c
  publish_run a b c result sound allowed h steps =
      let P : State → Type 0 = IsPublishingFolder fronts staged comes a.state in
      let Q : State → Event → Type 0 = λ s e. StagesOrPuts staged at a.state s e.call in
      let first : Publishing a b = so_far_published a b sound h.0 in
      let here : P b.state = went_to P Q a b first in
      let puts : StagesOrPuts staged at a.state b.state (Rename staged at) = (refl, refl, staged_others a b h, allowed) in
      went_on P Q a b c first
      (went_by_call P Q (Rename staged at) b c result here
      (λ _. record {
        others = as_before_on (apart_from_both staged at) a.state b.state (Rename staged at) (puts_spare staged at a.state b.state (Rename staged at) puts).0 tt here.others;
        publishes = (has_published a b sound h).publishes;
        fronts = here.fronts;
      }) (λ added _. here) (λ outcome. puts) steps)

  settle_run : (a b c : Told) (result : Result (Unit {0}) FolderFault) → Publishing a b → Steps Settle b c result → Publishing a c
  settle_run a b c result first steps =
      let P : State → Type 0 = IsPublishingFolder fronts staged comes a.state in
      let Q : State → Event → Type 0 = λ s e. StagesOrPuts staged at a.state s e.call in
      let here : P b.state = went_to P Q a b first in
      went_on P Q a b c first
      (went_by_call P Q Settle b c result here
      (λ _. record {
        others = as_before_on (apart_from_both staged at) a.state b.state Settle tt tt here.others;
        publishes = settle_publishes (apart_from staged) (comes ∷ []) a.state b.state here.publishes;
        fronts = here.fronts;
      }) (λ added _. here) (λ outcome. tt) steps)

pub publishes_folder : (staged at : Path) (t u : Option Told) (result : Result (Unit {0}) FolderFault) → below staged at ≡ None → below at staged ≡ None
    → ((a : Told) → t ≡ Some a → Allowed a.state (Rename staged at)) → Changes (Rename staged at) t u result → PublishesFolder staged at t u result
publishes_folder staged at t u result apart beside allowed changes before fronts made sound h = (
  from_to_on (λ a b. Known fronts staged at made apart a b × Allowed b.state (Rename staged at)) (λ a b. Steps (Rename staged at) a b result)
      (Publishing fronts staged at made apart) before t u
      (λ a b c k steps. publish_run fronts staged at made apart a b c result k.0.1 k.1 k.0.0 steps)
      (from_to_then (Known fronts staged at made apart) (λ b. Allowed b.state (Rename staged at)) before t allowed known) changes,
  by_result result changes,
)
  where
    known : FromTo (Known fronts staged at made apart) before t
    known =
        from_to_more (StagedFolder fronts staged at made apart) (Known fronts staged at made apart) before t (λ a b is k. (k, sound a is))
        (from_to_both (StagingFolder fronts staged) (λ a b. IsStagedView b.state (present b.state) staged made) before t h.stages h.whole)

    by_result : (result : Result (Unit {0}) FolderFault) → Changes (Rename staged at) t u result
        → OnOk result (FromTo (λ a b. HasPublishedFolder staged (record { at = at; made = made }) a.state b.state) before u)
    by_result (Err fault) changes = tt
    by_result (Ok done) changes =
        from_to_on (Known fronts staged at made apart) (λ a b. Steps (Rename staged at) a b (Ok done))
        (λ a b. HasPublishedFolder staged (record { at = at; made = made }) a.state b.state) before t u
        (λ a b c k steps. record {
          published = subst (λ (d : Told). HasPublished staged (record { at = at; made = made } ∷ []) a.state d.state) (sym steps.1)
              (has_published fronts staged at made apart a b k.1 k.0);
          gone = gone_renamed_on staged at [] apart b c beside steps;
        }) known changes

-- and settled
pub places_folder : (staged at : Path) (t u v : Option Told) (result : Result (Unit {0}) FolderFault) → below staged at ≡ None → PublishesFolder staged at t u (Ok tt)
    → Changes Settle u v result → PlacesFolder staged at t v result
places_folder staged at t u v result apart publishes changes before fronts made sound h = (
  from_to_on (Publishing fronts staged at made apart) (λ a b. Steps Settle a b result) (Publishing fronts staged at made apart) before u v
      (λ a b c k steps. settle_run fronts staged at made apart a b c result k steps) first.0 changes,
  by_result result changes,
)
  where
    first : PublishingFolder fronts staged (record { at = at; made = made }) before u
        × FromTo (λ a b. HasPublishedFolder staged (record { at = at; made = made }) a.state b.state) before u
    first = publishes before fronts made sound h

    by_result : (result : Result (Unit {0}) FolderFault) → Changes Settle u v result
        → OnOk result (FromTo (λ a b. HasPlacedFolder staged (record { at = at; made = made }) a.state b.state) before v)
    by_result (Err fault) changes = tt
    by_result (Ok done) changes =
        from_to_on (λ a b. HasPublishedFolder staged (record { at = at; made = made }) a.state b.state) (λ a b. Steps Settle a b (Ok done))
        (λ a b. HasPlacedFolder staged (record { at = at; made = made }) a.state b.state) before u v
        (λ a b c k steps. subst (λ (d : Told). HasPlacedFolder staged (record { at = at; made = made }) a.state d.state) (sym steps.1)
        (record { settled = settled (apart_from staged) (record { at = at; made = made } ∷ []) a.state b.state k.published; gone = k.gone })) first.1 changes

-- the two calls are allowed
pub free_place : (t : Option Told) (at : Path) → IfSeen t (λ v. ShowsFree v at) → (a : Told) → t ≡ Some a → Allowed a.state (MakeDir at)
free_place t at free a is = free_seen a.state at (free (seen a.state) (seen_of t a is))

pub folder_allowed : (t : Option Told) (staged at : Path) → MayPublishFolder t staged at → (a : Told) → t ≡ Some a → Allowed a.state (Rename staged at)
folder_allowed t staged at may a is =
    let shown : IsSeen t (seen a.state) = seen_of t a is in
    may_call_allowed a.state (Rename staged at)
    (may.below_base, λ none. (let both : NoEntry ≡ Folder = sym none ∙ may.there (seen a.state) shown in cc), may.apart.apart, inl (may.free (seen a.state) shown))
