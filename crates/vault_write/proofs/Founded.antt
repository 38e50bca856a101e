-- A vault is staged whole below the stage of a work folder, and put in its place.
use Rattle.std.proofs.Common.{◌≡◌, ℕ, Bool, ◌&&◌, List, [], ◌∷◌, ◌++◌, Option, Some, None, Result, Ok, Err, IsErrAnd, OnOk, refl, sym, ap, ◌∙◌, subst, inl, inr, arith, append-nil, append_assoc, IsTrue, codes}
use Rattle.folder_spec.specs.declared.FolderFault.{FolderFault}
use Rattle.folder_spec.specs.declared.Spot.TheVariants.{Nothing, Directory}
use Rattle.folder_spec.specs.Path.{Part, Path, below, parent, child}
use Rattle.folder_spec.specs.State.{State, present, IsSound}
use Rattle.folder_spec.specs.Edit.{IsStagedView, HasSettledIn}
use Rattle.folder_spec.specs.Event.{Call, MakeDir, Create, Append, Sync, Settle, Rename, RemoveFile, RemoveDir, IsFree, Told, FromTo}
use Rattle.folder_spec.specs.Moments.{Went}
use Rattle.folder_spec.specs.Region.{IsAsBefore, StagesAt, StagesOrPuts, apart_from, apart_from_both}
use Rattle.folder_spec.specs.Seen.{IfSeen, ShowsFree, seen}
use Rattle.folder_spec.specs.View.{NoEntry, Folder, View, found}
use Rattle.folder_spec.proofs.Paths.{begins_or_not, not_below, below-parent, parent-child, child-not_base}
use Rattle.folder_spec.proofs.Tables.{present_is_table}
use Rattle.folder_spec.proofs.Replaces.{apart-below, apart-from_below}
use Rattle.folder_spec.proofs.Regions.{as_before, as_before_within, seen_as_before}
use Rattle.folder_spec.proofs.Moments.{went_nowhere, went_more, went_to}
use Rattle.folder_spec.proofs.Tellings.{from_to_more, from_to_both, from_to_then}
use Rattle.folder_spec.proofs.Edits.{nothing_below_file, publishes_nothing, publishes_in_part, settled_in_part}
use Rattle.folder_spec.proofs.Seen.{free_seen, seen_of}
use Rattle.folder_spec.proofs.Stages.{at_itself}
use Rattle.folder_spec.proofs.Written.{fronts_of_none}
use Rattle.folder_staging.specs.Folders.{IsStagingFolder, StagesFolder, HasStaged, MayPublishFolder, IsPublishingFolder, PublishingFolder, HasPlacedFolder, PlacesFolder}
use Rattle.work_folder.specs.Entries.{stage_path}
use Rattle.work_folder.specs.Entering.{IsReady}
use Rattle.item_making.specs.Making.{is_unstaged, is_apart, StagesOrPlaces}
use Rattle.vault_write.specs.Founding.{MayFound, texts, vault_edit, founding, IsFounding, Founds, StagesWhole}
use Rattle.vault_write.proofs.Edited.{StagingAt}
use Rattle.vault_write.proofs.Exits.{at_fault}
use Rattle.vault_write.proofs.Seeing.{seen_then}
use Rattle.vault_write.proofs.Stages.{in_stage, unstaged_apart, apart_unstaged, apart_root, staged_beside, off_root, stage_beside, work_unstaged, stage_unstaged}
use Rattle.vault_write.proofs.Runs.{works_in_stage}

both_true : (a b : Bool) → IsTrue a → IsTrue b → IsTrue (a && b)
both_true a b one two = rw (one, two) refl

-- where a vault is staged
abbrev pub entry_of : Path → Path
entry_of work = child (stage_path work) (codes "f")

pub entry_apart : (work at : Path) → below work at ≡ None → below (entry_of work) at ≡ None
entry_apart work at apart = elim (begins_or_not (entry_of work) at) [
  | inr none ↦ none
  | inl k ↦ absurd (not_below work (codes "stage" ∷ codes "f" ∷ k.0)
      (ap (below work) (sym (k.1 ∙ append_assoc (stage_path work) (codes "f" ∷ []) k.0 ∙ append_assoc work (codes "stage" ∷ []) (codes "f" ∷ k.0))) ∙ apart))
]

pub entry_beside : (work at : Path) → below work at ≡ None → below at work ≡ None → below at (entry_of work) ≡ None
entry_beside work at apart beside = staged_beside work at at (codes "f" ∷ []) apart beside (at_itself at)

-- ---- what each call does

-- A vault of this view is put at a path apart from the work folder.
module _ (work at : Path) (made : View) (files : List (Part × List ℕ)) (apart : below work at ≡ None) (beside : below at work ≡ None) where
  abbrev Founding : Told → Told → Type 0
  Founding a b = Went (IsFounding work (vault_edit at made) (texts files) a.state) (λ s e. StagesOrPlaces work (founding at made files) s e.call) a b

  free_still : (s0 s : State) → IsFree (present s0) at → IsAsBefore (apart_from (entry_of work)) s0 s → IsFree (present s) at
  free_still s0 s free others = (
    others.seen at (apart-from_below (entry_of work) at (entry_apart work at apart)) ∙ free.0,
    others.seen (parent at) (apart-from_below (entry_of work) (parent at) (below-parent (entry_of work) at (entry_apart work at apart))) ∙ free.1,
  )

  puts : (s0 s : State) (call : Call) → IsFree (present s0) at → StagesOrPuts (entry_of work) at s0 s call → StagesOrPlaces work (founding at made files) s call
  puts s0 s (Rename old new) free h = (
    in_stage work (codes "f") [] old (h.0 ∙ sym (append-nil (entry_of work))),
    (vault_edit at made, (0, omega arith, refl), sym h.1),
    subst (λ p. IsFree (present s) p) (sym h.1) (free_still s0 s free h.2),
  )
  puts s0 s Settle free h = tt
  puts s0 s (MakeDir p) free h = works_in_stage work (founding at made files) (codes "f") s0 s (MakeDir p) h
  puts s0 s (Create p) free h = works_in_stage work (founding at made files) (codes "f") s0 s (Create p) h
  puts s0 s (Append p piece) free h = works_in_stage work (founding at made files) (codes "f") s0 s (Append p piece) h
  puts s0 s (Sync p) free h = works_in_stage work (founding at made files) (codes "f") s0 s (Sync p) h
  puts s0 s (RemoveFile p) free h = works_in_stage work (founding at made files) (codes "f") s0 s (RemoveFile p) h
  puts s0 s (RemoveDir p) free h = works_in_stage work (founding at made files) (codes "f") s0 s (RemoveDir p) h

  -- ---- at each moment

  outside : (q : Path) → IsTrue (is_apart work at q) → IsTrue (apart_from_both (entry_of work) at q)
  outside q inside =
      both_true (apart_from (entry_of work) q) (apart_from at q) (unstaged_apart work (codes "f") q (apart_unstaged work at q inside))
      (apart-from_below at q (apart_root work at q inside))

  is_founding : (s0 s : State) → IsPublishingFolder (texts files) (entry_of work) (vault_edit at made) s0 s → IsFounding work (vault_edit at made) (texts files) s0 s
  is_founding s0 s h = record {
    publishes = publishes_in_part (apart_from (entry_of work)) (is_unstaged work) (vault_edit at made ∷ []) s0 s (unstaged_apart work (codes "f")) h.publishes;
    others = as_before_within (is_apart work at) (apart_from_both (entry_of work) at) s0 s outside h.others;
    fronts = h.fronts;
  }

  not_yet : (s0 s : State) → IsSound s0 → IsStagingFolder (texts files) (entry_of work) s0 s → IsFounding work (vault_edit at made) (texts files) s0 s
  not_yet s0 s sound h =
      let unstaged : IsAsBefore (is_unstaged work) s0 s = as_before_within (is_unstaged work) (apart_from (entry_of work)) s0 s (unstaged_apart work (codes "f")) h.others in
      record {
        publishes = publishes_nothing (is_unstaged work) (vault_edit at made ∷ []) s0 s sound unstaged;
        others = as_before_within (is_apart work at) (is_unstaged work) s0 s (λ q inside. apart_unstaged work at q inside) unstaged;
        fronts = h.fronts;
      }

  pub founding_from : (t u : Option Told) → ((a : Told) → t ≡ Some a → IsFree (present a.state) at) → PublishingFolder (texts files) (entry_of work) (vault_edit at made) t u
      → FromTo Founding t u
  founding_from t u free went =
      from_to_more (λ a b. Went (IsPublishingFolder (texts files) (entry_of work) (vault_edit at made) a.state) (λ s e. StagesOrPuts (entry_of work) at a.state s e.call) a b) Founding t u
      (λ a b is h. went_more (IsPublishingFolder (texts files) (entry_of work) (vault_edit at made) a.state) (IsFounding work (vault_edit at made) (texts files) a.state)
      (λ s e. StagesOrPuts (entry_of work) at a.state s e.call) (λ s e. StagesOrPlaces work (founding at made files) s e.call) a b
      (is_founding a.state) (λ s e k. puts a.state s e.call (free a is) k) h) went

  pub staging_from : (t u : Option Told) → ((a : Told) → t ≡ Some a → IsSound a.state) → StagesFolder (texts files) (entry_of work) t u → FromTo Founding t u
  staging_from t u sound went =
      from_to_more (λ a b. Went (IsStagingFolder (texts files) (entry_of work) a.state) (λ s e. StagesAt (entry_of work) a.state s e.call) a b) Founding t u
      (λ a b is h. went_more (IsStagingFolder (texts files) (entry_of work) a.state) (IsFounding work (vault_edit at made) (texts files) a.state)
      (λ s e. StagesAt (entry_of work) a.state s e.call) (λ s e. StagesOrPlaces work (founding at made files) s e.call) a b
      (λ s k. not_yet a.state s (sound a is) k) (λ s e k. works_in_stage work (founding at made files) (codes "f") a.state s e.call k) h) went

  pub none_yet : (t : Option Told) → ((a : Told) → t ≡ Some a → IsSound a.state) → FromTo Founding t t
  none_yet None sound = tt
  none_yet (Some a) sound =
      went_nowhere (IsFounding work (vault_edit at made) (texts files) a.state) (λ s e. StagesOrPlaces work (founding at made files) s e.call) a
      (not_yet a.state a.state (sound a refl) (record { others = as_before (apart_from (entry_of work)) a.state; fronts = fronts_of_none (texts files) a.state }))

  -- ---- after Ok

  stage_is_bare : (s0 s : State) → IsSound s0 → IsSound s → IsAsBefore (apart_from_both (entry_of work) at) s0 s → present s (entry_of work) ≡ Nothing → IsReady (seen s0) work → IsReady (seen s) work
  stage_is_bare s0 s sound sound_now others gone ready = record {
    folder = same work (apart_of work (work_unstaged work)) (off_root at at work beside (at_itself at)) ∙ ready.folder;
    stage = same (stage_path work) (apart_of (stage_path work) (stage_unstaged work)) (stage_beside work at at apart beside (at_itself at)) ∙ ready.stage;
    bare = λ rest some. elim (begins_or_not (entry_of work) (stage_path work ++ rest)) as (λ _. seen s (stage_path work ++ rest) ≡ NoEntry) [
      | inl k ↦ ap (found (λ n. (s.nodes n).now)) (ap (present s) k.1 ∙ nothing k.0)
      | inr none ↦ same (stage_path work ++ rest) none (staged_beside work at at rest apart beside (at_itself at)) ∙ ready.bare rest some
    ];
  }
    where
      apart_of : (q : Path) → IsTrue (is_unstaged work q) → below (entry_of work) q ≡ None
      apart_of q unstaged = apart-below (entry_of work) q (unstaged_apart work (codes "f") q unstaged)

      same : (q : Path) → below (entry_of work) q ≡ None → below at q ≡ None → seen s q ≡ seen s0 q
      same q one two =
          seen_as_before (apart_from_both (entry_of work) at) s0 s sound others q
          (both_true (apart_from (entry_of work) q) (apart_from at q) (apart-from_below (entry_of work) q one) (apart-from_below at q two))

      nothing : (k : Path) → present s (entry_of work ++ k) ≡ Nothing
      nothing [] = ap (present s) (append-nil (entry_of work)) ∙ gone
      nothing (b ∷ k) =
          nothing_below_file s.made (present s) (sound_now.tables (present s) (present_is_table s)) (entry_of work) b k
          (λ dir. let clash : Nothing ≡ Directory = sym gone ∙ dir in cc)

  -- What is known at the end.
  abbrev Placed : Told → Told → Type 0
  Placed a b = Went (IsPublishingFolder (texts files) (entry_of work) (vault_edit at made) a.state) (λ s e. StagesOrPuts (entry_of work) at a.state s e.call) a b
      × HasPlacedFolder (entry_of work) (vault_edit at made) a.state b.state

  ready_after : (t u : Option Told) → ((a : Told) → t ≡ Some a → IsSound a.state) → ((a : Told) → u ≡ Some a → IsSound a.state) → IfSeen t (λ v. IsReady v work)
      → FromTo Placed t u → IfSeen u (λ v. IsReady v work)
  ready_after t u sound sound_now ready placed =
      seen_then (λ a b. Placed a b × IsSound b.state) (λ v. IsReady v work) t u
      (λ a b is k. stage_is_bare a.state b.state (sound a is) k.1
      (went_to (IsPublishingFolder (texts files) (entry_of work) (vault_edit at made) a.state) (λ s e. StagesOrPuts (entry_of work) at a.state s e.call) a b k.0.0).others
      k.0.1.gone (ready (seen a.state) (seen_of t a is))) (from_to_then Placed (λ b. IsSound b.state) t u sound_now placed)

  pub founds_placed : (t u w : Option Told) (result : Result (Unit {0}) FolderFault) → ((a : Told) → t ≡ Some a → IsSound a.state) → ((a : Told) → w ≡ Some a → IsSound a.state)
      → MayFound t work at → StagesWhole (entry_of work) made (texts files) t u (Ok tt) → PlacesFolder (entry_of work) at u w result → Founds work at made files t w result
  founds_placed t u w result sound sound_now may whole places =
      let staged : HasStaged (texts files) (entry_of work) made t u = (whole (texts files) (λ file among. among)).1 in
      let placed : PublishingFolder (texts files) (entry_of work) (vault_edit at made) t w
      × OnOk result (FromTo (λ a b. HasPlacedFolder (entry_of work) (vault_edit at made) a.state b.state) t w) = places t (texts files) made sound staged in
      record {
        moments = founding_from t w free placed.0;
        done = done result placed.1;
        ready = ready result placed.0 placed.1;
      }
    where
      free : (a : Told) → t ≡ Some a → IsFree (present a.state) at
      free a is = free_seen a.state at (may.free (seen a.state) (seen_of t a is))

      done : (result : Result (Unit {0}) FolderFault) → OnOk result (FromTo (λ a b. HasPlacedFolder (entry_of work) (vault_edit at made) a.state b.state) t w)
          → OnOk result (FromTo (λ a b. HasSettledIn (is_unstaged work) (vault_edit at made ∷ []) a.state b.state) t w)
      done (Err fault) h = tt
      done (Ok _) h =
          from_to_more (λ a b. HasPlacedFolder (entry_of work) (vault_edit at made) a.state b.state)
          (λ a b. HasSettledIn (is_unstaged work) (vault_edit at made ∷ []) a.state b.state) t w
          (λ a b is k. settled_in_part (apart_from (entry_of work)) (is_unstaged work) (vault_edit at made ∷ []) a.state b.state (unstaged_apart work (codes "f")) k.settled) h

      ready : (result : Result (Unit {0}) FolderFault) → PublishingFolder (texts files) (entry_of work) (vault_edit at made) t w
          → OnOk result (FromTo (λ a b. HasPlacedFolder (entry_of work) (vault_edit at made) a.state b.state) t w) → OnOk result (IfSeen w (λ v. IsReady v work))
      ready (Err fault) went h = tt
      ready (Ok _) went h =
          ready_after t w sound sound_now may.make.ready
          (from_to_both (λ a b. Went (IsPublishingFolder (texts files) (entry_of work) (vault_edit at made) a.state) (λ s e. StagesOrPuts (entry_of work) at a.state s e.call) a b)
          (λ a b. HasPlacedFolder (entry_of work) (vault_edit at made) a.state b.state) t w went h)

-- where it isn't staged whole, nothing has come yet
pub founds_staged : {E : Type 0} {work at : Path} {made : View} {files : List (Part × List ℕ)} {t u : Option Told} {result : Result (Unit {0}) E} (fault : E) (refusal : FolderFault) → IsErrAnd result (λ e. e ≡ fault)
    → ((a : Told) → t ≡ Some a → IsSound a.state) → MayFound t work at → StagesWhole (entry_of work) made (texts files) t u (Err refusal) → Founds work at made files t u result
founds_staged {work = work} {at} {made} {files} {t} {u} {result} fault refusal by_fault sound may whole =
    at_fault (Founds work at made files t u) result fault by_fault
    (record { moments = staging_from work at made files may.make.apart may.make.beside t u sound (whole (texts files) (λ file among. among)).0; done = tt; ready = tt })

pub founds_none : {E : Type 0} {work at : Path} {made : View} {files : List (Part × List ℕ)} {t : Option Told} {result : Result (Unit {0}) E} (fault : E) → IsErrAnd result (λ e. e ≡ fault)
    → ((a : Told) → t ≡ Some a → IsSound a.state) → MayFound t work at → Founds work at made files t t result
founds_none {work = work} {at} {made} {files} {t} {result} fault by_fault sound may =
    at_fault (Founds work at made files t t) result fault by_fault (record { moments = none_yet work at made files may.make.apart may.make.beside t sound; done = tt; ready = tt })

-- ---- putting it there

pub free_entry : (work : Path) (t : Option Told) (at : Path) → MayFound t work at → IfSeen t (λ v. ShowsFree v (entry_of work))
free_entry work t at may v is = (
  (may.make.ready v is).bare (codes "f" ∷ []) (omega arith),
  ap v (parent-child (stage_path work) (codes "f")) ∙ (may.make.ready v is).stage,
)

pub may_place : (work at : Path) (made : View) (files : List (List ℕ)) (t u : Option Told) → ((a : Told) → t ≡ Some a → IsSound a.state) → MayFound t work at → made [] ≡ Folder
    → StagesWhole (entry_of work) made files t u (Ok tt) → MayPublishFolder u (entry_of work) at
may_place work at made files t u sound may folder whole =
    let staged : HasStaged files (entry_of work) made t u = (whole files (λ file among. among)).1 in
    record {
      below_base = child-not_base (stage_path work) (codes "f");
      apart = record { apart = entry_apart work at may.make.apart; beside = entry_beside work at may.make.apart may.make.beside };
      there = seen_then (λ a b. IsStagedView b.state (present b.state) (entry_of work) made) (λ v. v (entry_of work) ≡ Folder) t u
          (λ a b is view. ap (seen b.state) (sym (append-nil (entry_of work))) ∙ view.shown [] ∙ folder) staged.whole;
      free = seen_then (StagingAt files (entry_of work)) (λ v. ShowsFree v at) t u free staged.stages;
    }
  where
    free : (a b : Told) → t ≡ Some a → StagingAt files (entry_of work) a b → ShowsFree (seen b.state) at
    free a b is went =
        let others : IsAsBefore (apart_from (entry_of work)) a.state b.state =
        (went_to (IsStagingFolder files (entry_of work) a.state) (λ s e. StagesAt (entry_of work) a.state s e.call) a b went).others in
        let same : (q : Path) → below (entry_of work) q ≡ None → seen b.state q ≡ seen a.state q =
        λ q none. seen_as_before (apart_from (entry_of work)) a.state b.state (sound a is) others q (apart-from_below (entry_of work) q none) in
        let was : ShowsFree (seen a.state) at = may.free (seen a.state) (seen_of t a is) in
        let none : below (entry_of work) at ≡ None = entry_apart work at may.make.apart in
        (same at none ∙ was.0, same (parent at) (below-parent (entry_of work) at none) ∙ was.1)
