-- Places for files, by what is seen of a folder that tells its state.
use Rattle.std.specs.Prelude.{◌≡◌, ◌≢◌, Option, [], None}
use Rattle.folder_spec.specs.Path.{Path, below}
use Rattle.folder_spec.specs.Event.{Told}
use Rattle.folder_spec.specs.Seen.{IfSeen, ShowsFilePlace}

-- a file is seen there, or may be made there
abbrev pub IsPlace : Option Told → Path → Type 0
IsPlace told at = IfSeen told (λ v. ShowsFilePlace v at)

-- a place below the base
pub record IsStage (told : Option Told) (staged : Path) : Type 0 where
  pub below_base : staged ≢ []
  pub place : IsPlace told staged

-- neither place is at or below the other
pub record ArePlacesApart (staged at : Path) : Type 0 where
  pub apart : below staged at ≡ None
  pub beside : below at staged ≡ None

-- A file can be written at the one place and put at the other.
pub record MayPublish (told : Option Told) (staged at : Path) : Type 0 where
  pub stage : IsStage told staged
  pub place : IsPlace told at
  pub apart : ArePlacesApart staged at
