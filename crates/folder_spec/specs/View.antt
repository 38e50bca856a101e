-- What a reader of a region of paths finds, in a table, in a state and in an image.
use Rattle.std.specs.Prelude.{◌≡◌, ℕ, Bool, List, Contains, IsTrue}
use Rattle.folder_spec.specs.declared.Kind.{Kind}
use Rattle.folder_spec.specs.declared.Kind.TheVariants.{Missing, Dir, File, Other}
use Rattle.folder_spec.specs.Path.{Path}
use Rattle.folder_spec.specs.State.{Spot, Nothing, Directory, FileNode, Odd, Table, State, IsTableOf, IsClean}
use Rattle.folder_spec.specs.Image.{Image}

-- what a reader finds at a path
pub data Found : Type 0 where
  NoEntry : Found
  Folder : Found
  FileOf : List ℕ → Found
  Special : Found

abbrev pub View : Type 0
View = Path → Found

abbrev pub kind_found : Found → Kind
kind_found NoEntry = Missing
kind_found Folder = Dir
kind_found (FileOf bytes) = File
kind_found Special = Other

-- by the bytes of the nodes
abbrev pub found : (ℕ → List ℕ) → Spot → Found
found bytes Nothing = NoEntry
found bytes Directory = Folder
found bytes (FileNode n) = FileOf (bytes n)
found bytes Odd = Special

abbrev pub view_of : Image → View
view_of image = λ p. found image.bytes (image.table p)

-- what a read of the table finds as the files stand now
abbrev pub view_in : State → Table → View
view_in s t = λ p. found (λ n. (s.nodes n).now) (t p)

-- two views are alike in the region
abbrev pub AgreeIn : (Path → Bool) → View → View → Type 0
AgreeIn region v w = (p : Path) → IsTrue (region p) → v p ≡ w p

-- the table shows the view in the region, and the files there are clean
pub record Shows (region : Path → Bool) (s : State) (t : Table) (v : View) : Type 0 where
  pub agrees : AgreeIn region (view_in s t) v
  pub clean : (p : Path) (n : ℕ) → IsTrue (region p) → t p ≡ FileNode n → IsClean (s.nodes n)

-- each table of the state shows one of these views in the region
abbrev pub ShowsAmong : (Path → Bool) → State → List View → Type 0
ShowsAmong region s views = (t : Table) → IsTableOf s t → (v : View) × Contains views v × Shows region s t v
