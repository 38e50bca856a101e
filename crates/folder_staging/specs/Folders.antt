-- A folder that is staged whole: a directory, with files and directories in it.
use Rattle.std.specs.Prelude.{◌≡◌, ◌≢◌, ℕ, List, [], ◌∷◌, Option, Some, Result, OnOk}
use Rattle.folder_spec.specs.declared.FolderFault.{FolderFault}
use Rattle.folder_spec.specs.declared.Spot.TheVariants.{Nothing}
use Rattle.folder_spec.specs.Path.{Part, Path}
use Rattle.folder_spec.specs.State.{State, present, IsSound}
use Rattle.folder_spec.specs.Event.{Told, FromTo}
use Rattle.folder_spec.specs.Moments.{Moments}
use Rattle.folder_spec.specs.Region.{IsAsBefore, StagesAt, StagesOrPuts, apart_from, apart_from_both}
use Rattle.folder_spec.specs.Written.{HoldFronts}
use Rattle.folder_spec.specs.View.{Folder, View}
use Rattle.folder_spec.specs.Seen.{IfSeen, ShowsFree}
use Rattle.folder_spec.specs.Edit.{Edit, folder_view, IsStagedView, Publishes, HasPublished, HasSettled}
use Rattle.folder_staging.specs.Places.{ArePlacesApart}

-- Since s0 a folder is being staged at the path: all else is as it was, and each file that was made holds a front part of one of
-- these.
pub record IsStagingFolder (contents : List (List ℕ)) (at : Path) (s0 s : State) : Type 0 where
  pub others : IsAsBefore (apart_from at) s0 s
  pub fronts : HoldFronts contents s0 s

abbrev pub StagesFolder : List (List ℕ) → Path → Option Told → Option Told → Type 0
StagesFolder contents at = Moments (IsStagingFolder contents at) (λ s0 s e. StagesAt at s0 s e.call)

-- So far, what stands there shows this view, and its files last through a crash.
pub record HasStaged (contents : List (List ℕ)) (at : Path) (made : View) (before now : Option Told) : Type 0 where
  pub stages : StagesFolder contents at before now
  pub whole : FromTo (λ a b. IsStagedView b.state (present b.state) at made) before now

-- a directory with these files
abbrev pub IsStagedFolder : List (List ℕ) → Path → List (Part × List ℕ) → Option Told → Option Told → Type 0
IsStagedFolder contents at files before now = HasStaged contents at (folder_view files) before now

-- a call begins one, without files
abbrev pub BeginsFolder : Path → Option Told → Option Told → Result (Unit {0}) FolderFault → Type 0
BeginsFolder at old new result = (contents : List (List ℕ)) → StagesFolder contents at old new × OnOk result (IsStagedFolder contents at [] old new)

-- a staged folder can be put at this place
pub record MayPublishFolder (told : Option Told) (staged at : Path) : Type 0 where
  pub below_base : staged ≢ []
  pub apart : ArePlacesApart staged at
  pub there : IfSeen told (λ v. v staged ≡ Folder)
  pub free : IfSeen told (λ v. ShowsFree v at)

-- Since s0 what was staged is being published by this edit, and all else is as it was.
pub record IsPublishingFolder (contents : List (List ℕ)) (staged : Path) (e : Edit) (s0 s : State) : Type 0 where
  pub others : IsAsBefore (apart_from_both staged e.at) s0 s
  pub publishes : Publishes staged (e ∷ []) s0 s
  pub fronts : HoldFronts contents s0 s

abbrev pub PublishingFolder : List (List ℕ) → Path → Edit → Option Told → Option Told → Type 0
PublishingFolder contents staged e = Moments (IsPublishingFolder contents staged e) (λ s0 s event. StagesOrPuts staged e.at s0 s event.call)

-- Since s0 it has been published and not yet settled, and nothing is left where it was staged.
pub record HasPublishedFolder (staged : Path) (e : Edit) (s0 s : State) : Type 0 where
  pub published : HasPublished staged (e ∷ []) s0 s
  pub gone : present s staged ≡ Nothing

-- And settled.
pub record HasPlacedFolder (staged : Path) (e : Edit) (s0 s : State) : Type 0 where
  pub settled : HasSettled staged (e ∷ []) s0 s
  pub gone : present s staged ≡ Nothing

-- A call puts it there at once, whatever it shows, since whenever it has been staged.
abbrev pub PublishesFolder : Path → Path → Option Told → Option Told → Result (Unit {0}) FolderFault → Type 0
PublishesFolder staged at old new result =
    (before : Option Told) (contents : List (List ℕ)) (made : View) → ((a : Told) → before ≡ Some a → IsSound a.state)
    → HasStaged contents staged made before old
    → PublishingFolder contents staged (record { at = at; made = made }) before new
    × OnOk result (FromTo (λ a b. HasPublishedFolder staged (record { at = at; made = made }) a.state b.state) before new)

-- the same so that it lasts
abbrev pub PlacesFolder : Path → Path → Option Told → Option Told → Result (Unit {0}) FolderFault → Type 0
PlacesFolder staged at old new result =
    (before : Option Told) (contents : List (List ℕ)) (made : View) → ((a : Told) → before ≡ Some a → IsSound a.state)
    → HasStaged contents staged made before old
    → PublishingFolder contents staged (record { at = at; made = made }) before new
    × OnOk result (FromTo (λ a b. HasPlacedFolder staged (record { at = at; made = made }) a.state b.state) before new)
