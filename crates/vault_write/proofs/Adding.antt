-- What a call adds to the edits of an item, whether or not the folder tells its state.
use Rattle.std.specs.Prelude.{Contains}
use Rattle.std.proofs.lemmas.List.Elements.{Contains-append_left, Contains-append_right}
use Rattle.std.proofs.Common.{true, false, inr, ◌≡◌, ◌≢◌, ℕ, List, [], ◌∷◌, ◌++◌, Option, Some, None, Result, Ok, Err, OnOk, refl, sym, ap, ◌∙◌, inl, subst, append-nil, append_assoc, codes}
use Rattle.folder_spec.specs.declared.FolderFault.{FolderFault}
use Rattle.folder_spec.specs.Path.{Part, Path, below, child, parent}
use Rattle.folder_spec.specs.State.{present, IsSound}
use Rattle.folder_spec.specs.Edit.{Edit, directory_edit, file_edit, file_view, IsStagedView}
use Rattle.std.specs.Result.{IsErr}
use Rattle.folder_spec.specs.Event.{MakeDir, Settle, Rename, Allowed, Told, Steps, Changes, FromTo}
use Rattle.folder_spec.specs.Region.{StagesAt, apart_from}
use Rattle.folder_spec.specs.Replace.{IsNewFile, IsStaging}
use Rattle.folder_spec.specs.Seen.{IfSeen, ShowsFree, seen}
use Rattle.folder_spec.specs.View.{NoEntry, View}
use Rattle.folder_spec.proofs.Moments.{went_more, went_to}
use Rattle.folder_spec.proofs.Paths.{begins_or_not, not_below, parent-child, below-parent, child-not_base}
use Rattle.folder_spec.proofs.Replaces.{apart-from_below}
use Rattle.folder_spec.proofs.Seen.{may_call_allowed, seen_of}
use Rattle.folder_spec.proofs.Stages.{Staging, new_file_view}
use Rattle.folder_spec.proofs.Tellings.{from_to_on, from_to_more, from_to_both, from_to_then}
use Rattle.folder_spec.proofs.Written.{fronts_of_more}
use Rattle.folder_spec.proofs.Regions.{seen_as_before}
use Rattle.folder_staging.specs.Folders.{IsStagingFolder}
use Rattle.folder_staging.specs.Pieces.{Stages}
use Rattle.folder_staging.specs.Places.{IsStage}
use Rattle.work_folder.specs.Entering.{IsReady}
use Rattle.work_folder.specs.Entries.{stage_path}
use Rattle.item_making.specs.Making.{Making}
use Rattle.vault_write.specs.Editing.{Edits, HasEdited, HasFinished, AddsEdits, MayBeBeside, MayBePut, entry_stage}
use Rattle.vault_write.proofs.Edited.{Beside, StagingAt, entry_done, entry_edits, entry_held, staging_edits, renamed_edits, renamed_done, made_edits, made_done, settled_edits, settled_done, some_part}

-- nothing was changed
pub adds_none : (held : Option View) (work : Path) (files : List (List ℕ)) (t : Option Told) → AddsEdits held work [] files t t (Ok tt)
adds_none held work files t root m done more before within h = (
  from_to_more (HasEdited held work root m done more) (Edits work root m) before t (λ a b is k. k.went) h,
  from_to_more (HasEdited held work root m done more) (HasEdited held work root m (done ++ []) more) before t (λ a b is k. subst (λ d. HasEdited held work root m d more a b) (sym (append-nil done)) k) h,
)

-- one after the other
pub adds_on : {held : Option View} (work : Path) (one two : List Edit) (files more_files : List (List ℕ)) (t u w : Option Told) (result : Result (Unit {0}) FolderFault)
    → AddsEdits held work one files t u (Ok tt) → AddsEdits held work two more_files u w result → AddsEdits held work (one ++ two) (files ++ more_files) t w result
adds_on {held} work one two files more_files t u w result first second root m done more before within h =
    let mid : FromTo (HasEdited held work root m (done ++ one) (two ++ more)) before u =
    (first root m done (two ++ more) before (λ file among. within file (Contains-append_left files more_files file among))
    (from_to_more (HasEdited held work root m done ((one ++ two) ++ more)) (HasEdited held work root m done (one ++ (two ++ more))) before t
    (λ a b is k. subst (λ es. HasEdited held work root m done es a b) (append_assoc one two more) k) h)).1 in
    let then_ : FromTo (Edits work root m) before w × OnOk result (FromTo (HasEdited held work root m ((done ++ one) ++ two) more) before w) =
    second root m (done ++ one) more before (λ file among. within file (Contains-append_right files more_files file among)) mid in (
      then_.0,
      on_ok result then_.1,
    )
  where
    on_ok : (result : Result (Unit {0}) FolderFault) → OnOk result (FromTo (HasEdited held work root m ((done ++ one) ++ two) more) before w) → OnOk result (FromTo (HasEdited held work root m (done ++ (one ++ two)) more) before w)
    on_ok (Err fault) k = tt
    on_ok (Ok done_) k = from_to_more (HasEdited held work root m ((done ++ one) ++ two) more) (HasEdited held work root m (done ++ (one ++ two)) more) before w
        (λ a b is l. subst (λ d. HasEdited held work root m d more a b) (append_assoc done one two) l) k

-- where the first of two failed
pub adds_first : {held : Option View} (work : Path) (one two : List Edit) (files more_files : List (List ℕ)) (t u : Option Told) (fault : FolderFault)
    → AddsEdits held work one files t u (Err fault) → AddsEdits held work (one ++ two) (files ++ more_files) t u (Err fault)
adds_first {held} work one two files more_files t u fault first root m done more before within h = (
  (first root m done (two ++ more) before (λ file among. within file (Contains-append_left files more_files file among))
      (from_to_more (HasEdited held work root m done ((one ++ two) ++ more)) (HasEdited held work root m done (one ++ (two ++ more))) before t
      (λ a b is k. subst (λ es. HasEdited held work root m done es a b) (append_assoc one two more) k) h)).0,
  tt,
)

staging_within : (files more : List (List ℕ)) (at : Path) (a b : Told) → ((file : List ℕ) → Contains files file → Contains more file) → StagingAt files at a b → StagingAt more at a b
staging_within files more at a b within went =
    went_more (IsStagingFolder files at a.state) (IsStagingFolder more at a.state) (λ s e. StagesAt at a.state s e.call) (λ s e. StagesAt at a.state s e.call) a b
    (λ s h. record { others = h.others; fronts = fronts_of_more files more a.state s within h.fronts }) (λ s e h. h) went

-- something was being staged
pub adds_staging : (held : Option View) (work : Path) (x : Part) (edits : List Edit) (files : List (List ℕ)) (t u : Option Told) (fault : FolderFault)
    → FromTo (StagingAt files (child (stage_path work) x)) t u → AddsEdits held work edits files t u (Err fault)
adds_staging held work x edits files t u fault staging root m done more before within h = (
  from_to_on (HasEdited held work root m done (edits ++ more)) (StagingAt files (child (stage_path work) x)) (Edits work root m) before t u
      (λ a b c k l. staging_edits work root m done (edits ++ more) a b k x c (staging_within files m.files (child (stage_path work) x) b c within l)) h staging,
  tt,
)

-- it was staged whole, and renamed
abbrev pub IsStagedWhole : List (List ℕ) → Path → View → Told → Told → Type 0
IsStagedWhole files at made a b = StagingAt files at a b × IsStagedView b.state (present b.state) at made × IsSound b.state

abbrev Renames : List (List ℕ) → Path → Edit → Result (Unit {0}) FolderFault → Told → Told → Type 0
Renames files staged e result a d = (c : Told) × IsStagedWhole files staged e.made a c × ShowsFree (seen a.state) e.at × Steps (Rename staged e.at) c d result

pub adds_renamed : (held : Option View) (work : Path) (x : Part) (e : Edit) (files : List (List ℕ)) (t u w : Option Told) (result : Result (Unit {0}) FolderFault)
    → Beside work held x → FromTo (IsStagedWhole files (child (stage_path work) x) e.made) t u → IfSeen t (λ v. ShowsFree v e.at) → Changes (Rename (child (stage_path work) x) e.at) u w result
    → AddsEdits held work (e ∷ []) files t w result
adds_renamed held work x e files t u w result beside staged free changes root m done more before within h = (
  from_to_on (HasEdited held work root m done (e ∷ more)) (Renames files (child (stage_path work) x) e result) (Edits work root m) before t w
      (λ a b d k l. renamed_edits work root m done more e a b l.0 d x k (staging_within files m.files (child (stage_path work) x) b l.0 within l.1.0) l.1.1 l.1.2 l.2 result l.3) h renames,
  by_result result renames,
)
  where
    renames : FromTo (Renames files (child (stage_path work) x) e result) t w
    renames = from_to_on (λ a c. IsStagedWhole files (child (stage_path work) x) e.made a c × ShowsFree (seen a.state) e.at) (λ c d. Steps (Rename (child (stage_path work) x) e.at) c d result)
        (Renames files (child (stage_path work) x) e result) t u w (λ a c d k l. (c, k.0, k.1, l))
        (from_to_more (IsStagedWhole files (child (stage_path work) x) e.made) (λ a c. IsStagedWhole files (child (stage_path work) x) e.made a c × ShowsFree (seen a.state) e.at) t u
        (λ a c is k. (k, free (seen a.state) (seen_of t a is))) staged) changes

    by_result : (result : Result (Unit {0}) FolderFault) → FromTo (Renames files (child (stage_path work) x) e result) t w → OnOk result (FromTo (HasEdited held work root m (done ++ e ∷ []) more) before w)
    by_result (Err fault) l = tt
    by_result (Ok value) l = from_to_on (HasEdited held work root m done (e ∷ more)) (Renames files (child (stage_path work) x) e (Ok value)) (HasEdited held work root m (done ++ e ∷ []) more) before t w
        (λ a b d k l. renamed_done work root m done more e a b l.0 d x k (staging_within files m.files (child (stage_path work) x) b l.0 within l.1.0) l.1.1 l.1.2 l.2 beside l.3) h l

-- a directory was made
pub adds_made : (work at : Path) (files : List (List ℕ)) (t u : Option Told) (result : Result (Unit {0}) FolderFault)
    → IfSeen t (λ v. ShowsFree v at) → Changes (MakeDir at) t u result → AddsEdits None work (directory_edit at ∷ []) files t u result
adds_made work at files t u result free changes root m done more before within h = (
  from_to_on (HasEdited None work root m done (directory_edit at ∷ more)) (λ b c. ShowsFree (seen b.state) at × Steps (MakeDir at) b c result) (Edits work root m) before t u
      (λ a b c k l. made_edits work root m done more at a b c k l.0 result l.1) h (steps result changes),
  by_result result changes,
)
  where
    steps : (result : Result (Unit {0}) FolderFault) → Changes (MakeDir at) t u result → FromTo (λ b c. ShowsFree (seen b.state) at × Steps (MakeDir at) b c result) t u
    steps result changes = from_to_more (λ b c. Steps (MakeDir at) b c result) (λ b c. ShowsFree (seen b.state) at × Steps (MakeDir at) b c result) t u
        (λ b c is k. (free (seen b.state) (seen_of t b is), k)) changes

    by_result : (result : Result (Unit {0}) FolderFault) → Changes (MakeDir at) t u result → OnOk result (FromTo (HasEdited None work root m (done ++ directory_edit at ∷ []) more) before u)
    by_result (Err fault) l = tt
    by_result (Ok value) l = from_to_on (HasEdited None work root m done (directory_edit at ∷ more)) (λ b c. ShowsFree (seen b.state) at × Steps (MakeDir at) b c (Ok value))
        (HasEdited None work root m (done ++ directory_edit at ∷ []) more) before t u (λ a b c k l. made_done work root m done more at a b c k l.0 l.1) h (steps (Ok value) l)

pub file_staging : (files : List (List ℕ)) (at : Path) (a b : Told) → Staging files at a b → StagingAt files at a b
file_staging files at a b went =
    went_more (IsStaging files at a.state) (IsStagingFolder files at a.state) (λ s e. StagesAt at a.state s e.call) (λ s e. StagesAt at a.state s e.call) a b
    (λ s h. record { others = h.others; fronts = h.fronts }) (λ s e h. h) went

-- a file that was staged is staged whole
pub file_staged : (files : List (List ℕ)) (at : Path) (bytes : List ℕ) (t u : Option Told) → ((a : Told) → u ≡ Some a → IsSound a.state)
    → Stages files at t u → FromTo (λ a b. IsNewFile bytes a.state b.state (present b.state at)) t u → FromTo (IsStagedWhole files at (file_view bytes)) t u
file_staged files at bytes t u sound stages new =
    from_to_more (λ a b. (Staging files at a b × IsNewFile bytes a.state b.state (present b.state at)) × IsSound b.state) (IsStagedWhole files at (file_view bytes)) t u
    (λ a b is k. (file_staging files at a b k.0.0, new_file_view at bytes a.state b.state k.1 k.0.1, k.1))
    (from_to_then (λ a b. Staging files at a b × IsNewFile bytes a.state b.state (present b.state at)) (λ b. IsSound b.state) t u sound
    (from_to_both (Staging files at) (λ a b. IsNewFile bytes a.state b.state (present b.state at)) t u stages new))

-- a place in a stage that is ready
pub staged_below : (stage : Path) (x : Part) (at : Path) → below stage at ≡ None → below (child stage x) at ≡ None
staged_below stage x at apart = elim (begins_or_not (child stage x) at) [
  | inr none ↦ none
  | inl k ↦ absurd (not_below stage (x ∷ k.0) (ap (below stage) (sym (k.1 ∙ append_assoc stage (x ∷ []) k.0)) ∙ apart))
]

pub free_in_stage : (work : Path) (x : Part) (v : View) → IsReady v work → ShowsFree v (child (stage_path work) x)
free_in_stage work x v ready = (ready.bare (x ∷ []) (some_part x []), ap v (parent-child (stage_path work) x) ∙ ready.stage)

-- a long name's text may stand beside an entry where all may come
pub may_beside : {v : View} {work at : Path} → MayBePut v work at → MayBeBeside v work at
may_beside {v} {work} {at} may = record { staged = free_in_stage work (codes "n") v may.ready; free = may.free; apart = may.apart }

-- a place outside of the stage is free
abbrev pub MayCome : View → Path → Path → Type 0
MayCome v work at = ShowsFree v at × (below (stage_path work) at ≡ None)

-- what was staged whole may be renamed
rename_allowed : (work at : Path) (x : Part) (files : List (List ℕ)) (made : View) (a b : Told) → IsSound a.state → MayCome (seen a.state) work at → made [] ≢ NoEntry
    → IsStagedWhole files (child (stage_path work) x) made a b → Allowed b.state (Rename (child (stage_path work) x) at)
rename_allowed work at x files made a b sound may some staged =
    may_call_allowed b.state (Rename (child (stage_path work) x) at) (
      child-not_base (stage_path work) x,
      λ none. some (sym (staged.1.shown []) ∙ ap (seen b.state) (append-nil (child (stage_path work) x)) ∙ none),
      staged_below (stage_path work) x at may.1,
      inl (
        still at (staged_below (stage_path work) x at may.1) ∙ may.0.0,
        still (parent at) (below-parent (child (stage_path work) x) at (staged_below (stage_path work) x at may.1)) ∙ may.0.1,
      ),
    )
  where
    still : (q : Path) → below (child (stage_path work) x) q ≡ None → seen b.state q ≡ seen a.state q
    still q none = seen_as_before (apart_from (child (stage_path work) x)) a.state b.state sound
        (went_to (IsStagingFolder files (child (stage_path work) x) a.state) (λ s e. StagesAt (child (stage_path work) x) a.state s e.call) a b staged.0).others
        q (apart-from_below (child (stage_path work) x) q none)

pub renames_allowed : (work at : Path) (x : Part) (files : List (List ℕ)) (made : View) (t u : Option Told) → ((a : Told) → t ≡ Some a → IsSound a.state)
    → IfSeen t (λ v. MayCome v work at) → made [] ≢ NoEntry → FromTo (IsStagedWhole files (child (stage_path work) x) made) t u
    → (b : Told) → u ≡ Some b → Allowed b.state (Rename (child (stage_path work) x) at)
renames_allowed work at x files made (Some a) (Some b) sound may some staged c is =
    let same : b ≡ c = cc is in
    subst (λ (d : Told). Allowed d.state (Rename (child (stage_path work) x) at)) same (rename_allowed work at x files made a b (sound a refl) (may (seen a.state) refl) some staged)
renames_allowed work at x files made None (Some b) sound may some staged c is = absurd staged
renames_allowed work at x files made t None sound may some staged c is = cc is

-- an entry that was staged whole is in the stage
pub adds_entry : (work root : Path) (m : Making) (done more : List Edit) (made : View) (files : List (List ℕ)) (before t u : Option Told) → ((file : List ℕ) → Contains files file → Contains m.files file)
    → FromTo (HasEdited None work root m done more) before t → FromTo (IsStagedWhole files (entry_stage work) made) t u → FromTo (HasEdited (Some made) work root m done more) before u
adds_entry work root m done more made files before t u within h staged =
    from_to_on (HasEdited None work root m done more) (IsStagedWhole files (entry_stage work) made) (HasEdited (Some made) work root m done more) before t u
    (λ a b c k l. entry_held work root m done more made a b c k (staging_within files m.files (entry_stage work) b c within l.0) l.1 l.2) h staged

-- and is put in its place
pub entry_renamed : (work root : Path) (m : Making) (done more : List Edit) (e : Edit) (before t u : Option Told) (result : Result (Unit {0}) FolderFault) → FromTo (HasEdited (Some e.made) work root m done (e ∷ more)) before t
    → IfSeen t (λ v. ShowsFree v e.at) → Changes (Rename (entry_stage work) e.at) t u result → FromTo (Edits work root m) before u × OnOk result (FromTo (HasEdited None work root m (done ++ e ∷ []) more) before u)
entry_renamed work root m done more e before t u result h free changes = (
  from_to_on (HasEdited (Some e.made) work root m done (e ∷ more)) (λ b d. ShowsFree (seen b.state) e.at × Steps (Rename (entry_stage work) e.at) b d result) (Edits work root m) before t u
      (λ a b d k l. entry_edits work root m done more e a b d k l.0 result l.1) h (steps result changes),
  by_result result changes,
)
  where
    steps : (result : Result (Unit {0}) FolderFault) → Changes (Rename (entry_stage work) e.at) t u result → FromTo (λ b d. ShowsFree (seen b.state) e.at × Steps (Rename (entry_stage work) e.at) b d result) t u
    steps result changes = from_to_more (λ b d. Steps (Rename (entry_stage work) e.at) b d result) (λ b d. ShowsFree (seen b.state) e.at × Steps (Rename (entry_stage work) e.at) b d result) t u
        (λ b d is k. (free (seen b.state) (seen_of t b is), k)) changes

    by_result : (result : Result (Unit {0}) FolderFault) → Changes (Rename (entry_stage work) e.at) t u result → OnOk result (FromTo (HasEdited None work root m (done ++ e ∷ []) more) before u)
    by_result (Err fault) l = tt
    by_result (Ok value) l = from_to_on (HasEdited (Some e.made) work root m done (e ∷ more)) (λ b d. ShowsFree (seen b.state) e.at × Steps (Rename (entry_stage work) e.at) b d (Ok value))
        (HasEdited None work root m (done ++ e ∷ []) more) before t u (λ a b d k l. entry_done work root m done more e a b d k l.0 l.1) h (steps (Ok value) l)

-- and it may be
pub held_allowed : (work root : Path) (m : Making) (done : List Edit) (e : Edit) (before t : Option Told) → e.made [] ≢ NoEntry → FromTo (HasEdited (Some e.made) work root m done (e ∷ [])) before t
    → IfSeen t (λ v. ShowsFree v e.at) → IfSeen before (λ v. below (stage_path work) e.at ≡ None) → (b : Told) → t ≡ Some b → Allowed b.state (Rename (entry_stage work) e.at)
held_allowed work root m done e (Some a) (Some c) some h free apart b is =
    let same : c ≡ b = cc in
    subst (λ (d : Told). Allowed d.state (Rename (entry_stage work) e.at)) same
    (may_call_allowed c.state (Rename (entry_stage work) e.at) (
      child-not_base (stage_path work) (codes "f"),
      λ none. some (sym (h.ready.entry.shown []) ∙ ap (seen c.state) (append-nil (entry_stage work)) ∙ none),
      staged_below (stage_path work) (codes "f") e.at (apart (seen a.state) refl),
      inl (free (seen c.state) refl),
    ))
held_allowed work root m done e None (Some c) some h free apart b is = absurd h
held_allowed work root m done e before None some h free apart b is = cc is

-- it finishes with a settle
pub finishes : (work root : Path) (m : Making) (t u w : Option Told) (result : Result (Unit {0}) FolderFault) → FromTo (HasEdited None work root m m.edits []) t u → Changes Settle u w result
    → FromTo (Edits work root m) t w × OnOk result (FromTo (HasFinished work root m) t w)
finishes work root m t u w (Err fault) h changes = (
  from_to_on (HasEdited None work root m m.edits []) (λ b c. Steps Settle b c (Err fault)) (Edits work root m) t u w (λ a b c k l. settled_edits work root m a b c m.edits k (Err fault) l) h changes,
  tt,
)
finishes work root m t u w (Ok value) h changes = (
  from_to_on (HasEdited None work root m m.edits []) (λ b c. Steps Settle b c (Ok value)) (Edits work root m) t u w (λ a b c k l. settled_edits work root m a b c m.edits k (Ok value) l) h changes,
  from_to_on (HasEdited None work root m m.edits []) (λ b c. Steps Settle b c (Ok value)) (HasFinished work root m) t u w (λ a b c k l. settled_done work root m a b c m.edits k l) h changes,
)

-- ---- exits of calls

pub staging_failed : (held : Option View) (work : Path) (x : Part) (staged : Path) (e : Edit) (files : List (List ℕ)) (t u : Option Told) (result : Result (Unit {0}) FolderFault) → staged ≡ child (stage_path work) x → IsErr result
    → Stages files staged t u → AddsEdits held work (e ∷ []) files t u result
staging_failed held work x staged e files t u (Err fault) is err stages =
    adds_staging held work x (e ∷ []) files t u fault (from_to_more (Staging files (child (stage_path work) x)) (StagingAt files (child (stage_path work) x)) t u
    (λ a b at k. file_staging files (child (stage_path work) x) a b k) (subst (λ p. Stages files p t u) is stages))
staging_failed held work x staged e files t u (Ok value) is err stages = let clash : false ≡ true = err in cc

pub bytes_staged : (work : Path) (x : Part) (staged : Path) (bytes : List ℕ) (t u : Option Told) → staged ≡ child (stage_path work) x → ((a : Told) → u ≡ Some a → IsSound a.state)
    → Stages (bytes ∷ []) staged t u → FromTo (λ a b. IsNewFile bytes a.state b.state (present b.state staged)) t u
    → FromTo (IsStagedWhole (bytes ∷ []) (child (stage_path work) x) (file_view bytes)) t u
bytes_staged work x staged bytes t u is sound stages new =
    file_staged (bytes ∷ []) (child (stage_path work) x) bytes t u sound (subst (λ p. Stages (bytes ∷ []) p t u) is stages)
    (subst (λ p. FromTo (λ a b. IsNewFile bytes a.state b.state (present b.state p)) t u) is new)

pub bytes_renamed : (held : Option View) (work : Path) (x : Part) (staged at : Path) (bytes : List ℕ) (t u w : Option Told) (result : Result (Unit {0}) FolderFault) → staged ≡ child (stage_path work) x
    → Beside work held x → ((a : Told) → u ≡ Some a → IsSound a.state) → IfSeen t (λ v. MayBeBeside v work at)
    → Stages (bytes ∷ []) staged t u → FromTo (λ a b. IsNewFile bytes a.state b.state (present b.state staged)) t u → Changes (Rename staged at) u w result
    → AddsEdits held work (file_edit at bytes ∷ []) (bytes ∷ []) t w result
bytes_renamed held work x staged at bytes t u w result is beside sound may stages new changes =
    adds_renamed held work x (file_edit at bytes) (bytes ∷ []) t u w result beside (bytes_staged work x staged bytes t u is sound stages new) (λ v seen_so. (may v seen_so).free)
    (subst (λ p. Changes (Rename p at) u w result) is changes)

pub bytes_may : (work : Path) (x : Part) (staged at : Path) (bytes : List ℕ) (t u : Option Told) → staged ≡ child (stage_path work) x
    → ((a : Told) → t ≡ Some a → IsSound a.state) → ((a : Told) → u ≡ Some a → IsSound a.state) → IfSeen t (λ v. MayBeBeside v work at)
    → Stages (bytes ∷ []) staged t u → FromTo (λ a b. IsNewFile bytes a.state b.state (present b.state staged)) t u
    → (b : Told) → u ≡ Some b → Allowed b.state (Rename staged at)
bytes_may work x staged at bytes t u is sound sound_now may stages new b there =
    subst (λ p. Allowed b.state (Rename p at)) (sym is)
    (renames_allowed work at x (bytes ∷ []) (file_view bytes) t u sound (λ v seen_so. ((may v seen_so).free, (may v seen_so).apart)) (λ none. cc) (bytes_staged work x staged bytes t u is sound_now stages new) b there)

pub stage_there : (work staged at : Path) (t : Option Told) → staged ≡ child (stage_path work) (codes "n") → IfSeen t (λ v. MayBeBeside v work at) → IsStage t staged
stage_there work staged at t is may =
    subst (IsStage t) (sym is) (record { below_base = child-not_base (stage_path work) (codes "n"); place = λ v is_seen. inl (may v is_seen).staged })
