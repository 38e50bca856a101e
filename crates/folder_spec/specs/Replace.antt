-- A file that is put in the place of another at once: it is written elsewhere, synced, and renamed.
use Rattle.std.specs.Prelude.{◌≡◌, ℕ, ◌<◌, ◌≤◌, ◌⊎◌, Bool, List, [], ◌∷◌}
use Rattle.folder_spec.specs.declared.Spot.{Spot}
use Rattle.folder_spec.specs.declared.Spot.TheVariants.{Nothing, FileNode}
use Rattle.folder_spec.specs.Path.{Path}
use Rattle.folder_spec.specs.State.{Table, Node, State, present, IsTableOf, IsClean}
use Rattle.folder_spec.specs.Image.{Image, IsImage}
use Rattle.folder_spec.specs.View.{FileOf, view_of, AgreeIn}
use Rattle.folder_spec.specs.Region.{AlikeIn, IsAsBefore, HasOldOrFile, apart_from, apart_from_both}
use Rattle.folder_spec.specs.Written.{HoldFronts}
use Rattle.folder_spec.specs.Edit.{file_edit, Publishes, HasSettled}

-- a file made since s0 stands there, and this is its node
pub record IsNewNode (node : Node) (s0 s : State) (spot : Spot) : Type 0 where
  pub number : ℕ
  pub is : spot ≡ FileNode number
  pub new : s0.made ≤ number
  pub holds : s.nodes number ≡ node

-- a file made since s0, whose bytes are these and last through a crash
abbrev pub IsNewFile : List ℕ → State → State → Spot → Type 0
IsNewFile bytes s0 s spot = IsNewNode (record { now = bytes; kept = bytes }) s0 s spot

-- Since s0 the file at the path may have become the new one, and nothing in the region has changed: each table has there what
-- a table of s0 had, and at the path what that table had or the new file. The files of then are as they were.
pub record IsOldOrNew (region : Path → Bool) (at : Path) (bytes : List ℕ) (s0 s : State) : Type 0 where
  pub tables : (t : Table) → IsTableOf s t → (u : Table) × IsTableOf s0 u × AlikeIn region t u × ((t at ≡ u at) ⊎ IsNewFile bytes s0 s (t at))
  pub seen : AlikeIn region (present s) (present s0)
  pub nodes : (n : ℕ) → n < s0.made → s.nodes n ≡ s0.nodes n
  pub made : s0.made ≤ s.made

-- Since s0 the file at the path has become the new one, in every table, and no directory change is pending.
pub record IsReplaced (region : Path → Bool) (at : Path) (bytes : List ℕ) (s0 s : State) : Type 0 where
  pub change : IsOldOrNew region at bytes s0 s
  pub settled : s.later ≡ []
  pub new : IsNewFile bytes s0 s (present s at)

-- Since s0 a new file is being written at the path: all else is as it was, nothing but a file comes to stand there, and each
-- file that was made holds a front part of one of these.
pub record IsStaging (files : List (List ℕ)) (at : Path) (s0 s : State) : Type 0 where
  pub others : IsAsBefore (apart_from at) s0 s
  pub place : HasOldOrFile at s0 s
  pub fronts : HoldFronts files s0 s

-- Since s0 a file of these bytes is being written at the one path, and may have been put at the other.
pub record IsReplacing (staged at : Path) (bytes : List ℕ) (s0 s : State) : Type 0 where
  pub change : IsOldOrNew (apart_from_both staged at) at bytes s0 s
  pub publishes : Publishes staged (file_edit at bytes ∷ []) s0 s
  pub place : HasOldOrFile staged s0 s
  pub fronts : HoldFronts (bytes ∷ []) s0 s

-- Since s0 it has been put there for good, and nothing is left where it was written.
pub record HasReplaced (staged at : Path) (bytes : List ℕ) (s0 s : State) : Type 0 where
  pub replaced : IsReplaced (apart_from_both staged at) at bytes s0 s
  pub published : HasSettled staged (file_edit at bytes ∷ []) s0 s
  pub gone : present s staged ≡ Nothing

-- what a crash leaves shows in the region what a crash at s0 might have left, and at the path that or the new file
pub record ShowsOldOrNew (region : Path → Bool) (at : Path) (bytes : List ℕ) (s0 : State) (image : Image) : Type 0 where
  pub old : Image
  pub is_old : IsImage s0 old
  pub alike : AgreeIn region (view_of image) (view_of old)
  pub file : (view_of image at ≡ view_of old at) ⊎ (view_of image at ≡ FileOf bytes)

-- every file that some table has at the path is clean
abbrev pub IsCleanAt : Path → State → Type 0
IsCleanAt at s = (t : Table) (n : ℕ) → IsTableOf s t → t at ≡ FileNode n → IsClean (s.nodes n)
