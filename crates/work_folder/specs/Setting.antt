-- Setting a file: it is staged in the work folder, and put in its place at once.
use Rattle.std.specs.Prelude.{◌≡◌, ◌⊎◌, ℕ, Bool, List, [], ◌∷◌, codes, Option, Some, None, Result, Ok, Err}
use Rattle.folder_spec.specs.declared.FolderFault.{FolderFault}
use Rattle.folder_spec.specs.declared.FolderFault.TheVariants.{Failed, Refused, NoMemory}
use Rattle.folder_spec.specs.Path.{Path, child}
use Rattle.folder_spec.specs.State.{State, HasNothingPendingIn}
use Rattle.folder_spec.specs.Image.{Image, IsImage}
use Rattle.folder_spec.specs.Event.{Told, FromTo}
use Rattle.folder_spec.specs.Moments.{Moments}
use Rattle.folder_spec.specs.Region.{SparesOld, apart_from, apart_from_both}
use Rattle.folder_spec.specs.Written.{HoldFronts}
use Rattle.folder_spec.specs.Replace.{IsOldOrNew, IsReplaced}
use Rattle.folder_spec.specs.View.{FileOf, View, view_of, AgreeIn}
use Rattle.folder_spec.specs.Seen.{seen}
use Rattle.folder_spec.specs.Edit.{edited, file_edit, Publishes, HasSettled}
use Rattle.work_folder.specs.Entries.{stage_path}

-- where the file is staged
abbrev pub staged_file : Path → Path
staged_file work = child (stage_path work) (codes "f")

-- all but the file at the stage, the path, and what is below them
abbrev pub beside : Path → Path → Path → Bool
beside work at = apart_from_both (staged_file work) at

-- the image shows outside the work folder this view, or the same with the file
abbrev pub ShowsWithOrWithout : Path → Path → List ℕ → View → Image → Type 0
ShowsWithOrWithout work at bytes v image = AgreeIn (apart_from work) (view_of image) v ⊎ AgreeIn (apart_from work) (view_of image) (edited v (file_edit at bytes))

-- Since s0 a file with these bytes is being set at the path.
pub record IsSetting (work at : Path) (bytes : List ℕ) (s0 s : State) : Type 0 where
  -- each table has at the path what a table of s0 had there, or the new file, and elsewhere what that table had
  pub file : IsOldOrNew (beside work at) at bytes s0 s
  -- each table shows one of the views shown at s0, or what was seen there with the new file
  pub publishes : Publishes (staged_file work) (file_edit at bytes ∷ []) s0 s
  -- each file that was made holds a front part of the bytes
  pub fronts : HoldFronts (bytes ∷ []) s0 s
  -- So where nothing was pending outside the work folder, a crash leaves there what was seen at s0, or that with the new file.
  pub images : HasNothingPendingIn (apart_from work) s0 → (image : Image) → IsImage s image → ShowsWithOrWithout work at bytes (seen s0) image

-- Since s0 it has been set.
pub record IsSet (work at : Path) (bytes : List ℕ) (s0 s : State) : Type 0 where
  -- all tables have the new file at the path, and no directory change is pending
  pub file : IsReplaced (beside work at) at bytes s0 s
  -- what was seen at s0 is shown alone, with the new file
  pub published : HasSettled (staged_file work) (file_edit at bytes ∷ []) s0 s
  -- every crash leaves the new file
  pub shown : (image : Image) → IsImage s image → view_of image at ≡ FileOf bytes
  -- So where nothing was pending outside the work folder, nothing is, and a crash leaves there what was seen at s0 with the new file.
  pub nothing_pending : HasNothingPendingIn (apart_from work) s0 → HasNothingPendingIn (apart_from work) s
  pub images : HasNothingPendingIn (apart_from work) s0 → (image : Image) → IsImage s image → AgreeIn (apart_from work) (view_of image) (edited (seen s0) (file_edit at bytes))

-- At each moment the file is being set, and each call of the folder spares all else and the files of then.
abbrev pub Sets : Path → Path → List ℕ → Option Told → Option Told → Type 0
Sets work at bytes = Moments (IsSetting work at bytes) (λ s0 s e. SparesOld (beside work at) s0 s e.call)

abbrev pub HasSet : Path → Path → List ℕ → Option Told → Option Told → Type 0
HasSet work at bytes = FromTo (λ a b. IsSet work at bytes a.state b.state)

-- It is done only where there is a place for a file, and refused only where there is none.
abbrev pub SetsIf : Type 0 → Result (Unit {0}) FolderFault → Type 0
SetsIf IsPlace (Ok done) = IsPlace
SetsIf IsPlace (Err Refused) = ¬ IsPlace
SetsIf IsPlace (Err Failed) = Unit {0}
SetsIf IsPlace (Err NoMemory) = Unit {0}

-- The folder is the cause: it failed, or it tells nothing and refused.
abbrev pub IsOfFolder : Option Told → Result (Unit {0}) FolderFault → Type 0
IsOfFolder told (Ok done) = ⊥
IsOfFolder told (Err Failed) = Unit {0}
IsOfFolder None (Err Refused) = Unit {0}
IsOfFolder (Some a) (Err Refused) = ⊥
IsOfFolder told (Err NoMemory) = ⊥
