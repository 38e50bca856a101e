-- A name table as an ordered map (private contracts only).
use Rattle.std.specs.Prelude.{◌≡◌, ◌≢◌, ◌++◌, List, Option, Some, None, Contains}
use Rattle.std.specs.BTreeMap.{BTreeMap, get}
use Rattle.folder_spec.specs.declared.Spot.{Spot}
use Rattle.folder_spec.specs.declared.Spot.TheVariants.{Nothing, Directory}
use Rattle.folder_spec.specs.Path.{Part, Path, below, child}
use Rattle.folder_spec.specs.State.{Table, put}
use Rattle.folder_model.specs.declared.mem.table.NameTable.{NameTable}
use Rattle.folder_model.specs.Order.{path_cmp}

abbrev pub spot_found : Option Spot → Spot
spot_found (Some spot) = spot
spot_found None = Nothing

-- nothing stands where the map has no entry
abbrev pub table_of : BTreeMap Path Spot → Table
table_of m = λ p. spot_found (get path_cmp m p)

abbrev pub names_of : NameTable → Table
names_of t = table_of t.spots

-- what stands has a directory above it
abbrev pub HasParents : Table → Type 0
HasParents t = (p : Path) (a : Part) → t (child p a) ≢ Nothing → t p ≡ Directory

-- the path's name has been added, if it is an entry of the directory
pub record AddsName (path at : Path) (before now : List Part) : Type 0 where
  pub others : (a : Part) → Contains before a → Contains now a
  pub made : (a : Part) → path ≡ child at a → Contains now a

-- the names of the entries at the path have been added
pub record AddsNames (t : Table) (at : Path) (before now : List Part) : Type 0 where
  pub others : (a : Part) → Contains before a → Contains now a
  pub entries : (a : Part) → t (child at a) ≢ Nothing → Contains now a

abbrev pub placed_by : Path → Path → Option Path → Path
placed_by new p (Some rest) = new ++ rest
placed_by new p None = p

-- where what stood at p stands after all at old and below it went to new
abbrev pub placed : Path → Path → Path → Path
placed old new p = placed_by new p (below old p)

-- what stands at the path in t has been put where it stands after the move
pub record MovesPath (t before now : Table) (old new path : Path) : Type 0 where
  pub none : t path ≡ Nothing → now ≡ before
  pub some : t path ≢ Nothing → now ≡ put before (placed old new path) (t path)
