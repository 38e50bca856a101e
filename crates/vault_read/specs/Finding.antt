-- How looking for a plain path answers, by what stands there.
use Rattle.std.specs.Prelude.{◌≡◌, [], ◌∷◌, ◌++◌, Result, Ok, Err}
use Rattle.folder_spec.specs.Path.{Path}
use Rattle.folder_spec.specs.View.{View}
use Rattle.plain_tree.specs.Names as plain
use Rattle.plain_tree.specs.declared.NodeKind.TheVariants as node
use Rattle.vault_spec.specs.Format.{Format, Directory}
use Rattle.vault_spec.specs.Standing.{Standing, Absent, Strange, File, Dir, standing, standing_in}
use Rattle.vault_spec.specs.Find.{Refusal, entered, then_in}
use Rattle.vault_spec.specs.Find as spec
use Rattle.vault_spec.specs.declared.Lack.TheVariants as lacks
use Rattle.vault_faults.specs.declared.fault.FindFault.{FindFault}
use Rattle.vault_faults.specs.declared.fault.FindFault.TheVariants.{NotFound, WrongKind, NoDirKey, NoFolder, Failed, NoMemory}
use Rattle.vault_read.specs.declared.finding.Place.{Place}
use Rattle.vault_read.specs.declared.finding.DirPlace.{DirPlace}

-- The folder may fail, and memory may be refused, whatever stands there. Any other fault is this refusal, with its folder's path
-- behind the root's.
abbrev pub Refuses : {T : Type 0} → Path → Result T Refusal → FindFault → Type 0
Refuses root found (NotFound path) = found ≡ Err (spec.NotFound path)
Refuses root found (WrongKind path) = found ≡ Err (spec.WrongKind path)
Refuses root found (NoDirKey path) = (at : Path) × (path ≡ root ++ at) × (found ≡ Err (spec.Locked at lacks.NoDirKey))
Refuses root found (NoFolder path) = (at : Path) × (path ≡ root ++ at) × (found ≡ Err (spec.Locked at lacks.NoFolder))
Refuses root found Failed = Unit {0}
Refuses root found NoMemory = Unit {0}

-- the file or the directory that stands there, with its path behind the root's
abbrev pub IsPlace : Path → Standing → Place → Type 0
IsPlace root Absent place = ⊥
IsPlace root (Strange at) place = ⊥
IsPlace root (File at) place = (place.node ≡ node.File) × (place.at ≡ root ++ at)
IsPlace root (Dir at directory) place = (place.node ≡ node.Dir) × (place.at ≡ root ++ at)

-- the directory that a plain path leads to, with its paths behind the root's
pub record IsDirPlace (root : Path) (f : Format) (v : View) (path : plain.Path) (place : DirPlace) : Type 0 where
  pub at : Path
  pub dir : Directory
  pub stands : standing f v path ≡ Dir at (Ok dir)
  pub at_is : place.at ≡ root ++ at
  pub folder_is : place.folder ≡ root ++ dir.folder
  pub key_is : place.key ≡ dir.key

-- what stands at the rest of a path behind what stands at its front, where all before that is entered
abbrev pub reached_from : Format → View → plain.Path → Standing → plain.Path → Result Standing Refusal
reached_from f v front here [] = Ok here
reached_from f v front here (name ∷ rest) = then_in (entered front here) (λ dir. reached_from f v (front ++ name ∷ []) (standing_in f v dir name) rest)
