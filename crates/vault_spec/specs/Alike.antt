-- When two views of a vault open alike, and when one opens just one item more.
use Rattle.std.specs.Prelude.{◌≡◌, ◌≢◌, ◌⊎◌, ℕ, List, [], ◌∷◌, ◌++◌, Ok, Err, Result, Option, Some, None}
use Rattle.folder_spec.specs.Path.{Part, Path, child}
use Rattle.folder_spec.specs.View.{View, NoEntry, Folder}
use Rattle.plain_tree.specs.Names as plain
use Rattle.vault_spec.specs.declared.Lack.{Lack}
use Rattle.vault_spec.specs.Format.{Format, Directory}
use Rattle.vault_spec.specs.Standing.{Standing, Absent, Strange, File, Dir, root_of, standing_in, standing}
use Rattle.vault_spec.specs.Reached.{Leads, HaveOwnFolders}

-- no item stands there
abbrev pub HasNoItem : Standing → Type 0
HasNoItem Absent = Unit {0}
HasNoItem (Strange at) = Unit {0}
HasNoItem (File at) = ⊥
HasNoItem (Dir at directory) = ⊥

-- in two views the same stands at a place, with the same bytes where it is a file
pub record IsSame (v w : View) (one other : Standing) : Type 0 where
  pub stands : one ≡ other
  pub bytes : (at : Path) → one ≡ File at → v at ≡ w at

-- the same item stands at a place in both, or none in either
abbrev pub AreAlike : View → View → Standing → Standing → Type 0
AreAlike v w one other = IsSame v w one other ⊎ (HasNoItem one × HasNoItem other)

-- the root is the same, and so is what stands in each directory that is reached
pub record LooksAlike (f : Format) (v w : View) : Type 0 where
  pub root : root_of f v ≡ root_of f w
  pub steps : (path : plain.Path) (dir : Directory) (name : List ℕ) → Leads f v path dir → AreAlike v w (standing_in f v dir name) (standing_in f w dir name)

-- no item stands in the directory
abbrev pub IsEmptyIn : Format → View → Result Directory Lack → Type 0
IsEmptyIn f w (Ok dir) = (name : List ℕ) → HasNoItem (standing_in f w dir name)
IsEmptyIn f w (Err lack) = Unit {0}

-- a file, or a directory in which no item stands
abbrev pub IsLeaf : Format → View → Standing → Type 0
IsLeaf f w Absent = ⊥
IsLeaf f w (Strange at) = ⊥
IsLeaf f w (File at) = Unit {0}
IsLeaf f w (Dir at directory) = IsEmptyIn f w directory

-- The same stands in both views but under one name in the directory that a path leads to: there stands nothing at first, and then a
-- file or a directory in which no item stands.
pub record GainsItem (f : Format) (v w : View) (front : plain.Path) (name : List ℕ) : Type 0 where
  pub root : root_of f v ≡ root_of f w
  pub dir : Directory
  pub leads : Leads f v front dir
  pub free : HasNoItem (standing_in f v dir name)
  pub leaf : IsLeaf f w (standing_in f w dir name)
  pub others : (path : plain.Path) (other : Directory) (n : List ℕ) → Leads f v path other → path ++ n ∷ [] ≢ front ++ name ∷ []
      → AreAlike v w (standing_in f v other n) (standing_in f w other n)

-- whatever stands has a folder above it
abbrev pub HasFolders : View → Type 0
HasFolders v = (p : Path) (a : Part) → v (child p a) ≢ NoEntry → v p ≡ Folder

-- The root is entered. Each directory that stands in a reached one has its key and its folder, one path leads to each, and no two
-- have one folder.
pub record IsOrderly (f : Format) (v : View) : Type 0 where
  pub root_there : v [] ≡ Folder
  pub top : Directory
  pub root : root_of f v ≡ Dir [] (Ok top)
  pub folders : HasFolders v
  pub entered : (path : plain.Path) (dir : Directory) (name : List ℕ) (at : Path) (lack : Lack) → Leads f v path dir → standing_in f v dir name ≢ Dir at (Err lack)
  pub one_path : (path other : plain.Path) (dir : Directory) → Leads f v path dir → Leads f v other dir → path ≡ other
  pub own_folder : HaveOwnFolders f v

-- the place of the content or of the entry of what stands
abbrev pub place_of : Standing → Option Path
place_of Absent = None
place_of (Strange at) = None
place_of (File at) = Some at
place_of (Dir at directory) = Some at

-- no two plain paths have their files or directories at one place
abbrev pub HaveOwnPlaces : Format → View → Type 0
HaveOwnPlaces f v = (path other : plain.Path) (at : Path) → place_of (standing f v path) ≡ Some at → place_of (standing f v other) ≡ Some at → path ≡ other
