-- A walk by levels: the directories that were visited, and those that wait to be, with a path to each.
use Rattle.std.specs.Prelude.{◌≡◌, ◌≢◌, ◌<◌, ◌≤◌, ◌++◌, ℕ, suc, List, [], ◌∷◌, length, Some, Ok, AllPairs, Contains}
use Rattle.folder_spec.specs.Path.{Path}
use Rattle.folder_spec.specs.View.{View}
use Rattle.plain_tree.specs.Names as plain
use Rattle.vault_spec.specs.Format.{Format, Directory}
use Rattle.plain_tree.specs.declared.NodeKind.{NodeKind}
use Rattle.vault_spec.specs.declared.Finding.{Finding}
use Rattle.vault_walk.specs.Here.{IsFindingHere}
use Rattle.vault_spec.specs.Alike.{place_of}
use Rattle.vault_spec.specs.Listing.{node_of}
use Rattle.vault_spec.specs.Plan.{Planned}
use Rattle.vault_spec.specs.Reached.{Leads}
use Rattle.vault_spec.specs.Standing.{Dir, standing_in}

-- a directory with a path to it
pub record Way : Type 0 where
  pub path : plain.Path
  pub dir : Directory

-- one of these ways is to the directory
abbrev pub IsAmong : List Way → Directory → Type 0
IsAmong ways dir = (way : Way) × Contains ways way × (way.dir ≡ dir)

-- no two ways are to one directory
abbrev pub AreApart : List Way → Type 0
AreApart ways = AllPairs (λ (x y : Way). x.dir ≢ y.dir) ways

-- no path to its directory is shorter
abbrev pub IsLeast : Format → View → Way → Type 0
IsLeast f v way = (other : plain.Path) → Leads f v other way.dir → ¬ (length other < length way.path)

-- Directories in fewer steps were visited, and those in so many wait. Each has one way, and it is a shortest one. No directory in so
-- many steps or fewer is left out.
pub record IsWalked (f : Format) (v : View) (steps : ℕ) (visits waiting : List Way) : Type 0 where
  pub leads : (way : Way) → Contains (visits ++ waiting) way → Leads f v way.path way.dir
  pub before : (way : Way) → Contains visits way → length way.path < steps
  pub level : (way : Way) → Contains waiting way → length way.path ≡ steps
  pub least : (way : Way) → Contains (visits ++ waiting) way → IsLeast f v way
  pub apart : AreApart (visits ++ waiting)
  pub near : (path : plain.Path) (dir : Directory) → Leads f v path dir → length path ≤ steps → IsAmong (visits ++ waiting) dir

-- The next level as far as these of a level were visited: new directories, one step further, and all that those lead to.
pub record HasGrown (f : Format) (v : View) (steps : ℕ) (seen visited next : List Way) : Type 0 where
  pub leads : (way : Way) → Contains next way → Leads f v way.path way.dir
  pub level : (way : Way) → Contains next way → length way.path ≡ suc steps
  pub fresh : (way : Way) → Contains next way → ¬ IsAmong seen way.dir
  pub apart : AreApart (seen ++ next)
  pub covers : (way : Way) → Contains visited way → (name : List ℕ) (at : Path) (dir : Directory) → standing_in f v way.dir name ≡ Dir at (Ok dir) → IsAmong (seen ++ next) dir

-- an item of the directory of a way, with its kind and place behind the way's path
pub record IsItemOf (f : Format) (v : View) (way : Way) (item : Planned) : Type 0 where
  pub name : List ℕ
  pub path : item.path ≡ way.path ++ name ∷ []
  pub node : node_of (standing_in f v way.dir name) ≡ Some item.node
  pub place : place_of (standing_in f v way.dir name) ≡ Some item.at

-- these are the items of the directories that were visited, each path once
pub record AreGathered (f : Format) (v : View) (visits : List Way) (plan : List Planned) : Type 0 where
  pub sound : (item : Planned) → Contains plan item → (way : Way) × Contains visits way × IsItemOf f v way item
  pub complete : (way : Way) (item : Planned) → Contains visits way → IsItemOf f v way item → Contains plan item
  pub apart : AllPairs (λ (x y : Planned). x.path ≢ y.path) plan

-- these are items of the directories of some ways, each path once
pub record AreItemsOf (f : Format) (v : View) (ways : List Way) (items : List Planned) : Type 0 where
  pub leads : (way : Way) → Contains ways way → Leads f v way.path way.dir
  pub apart : AreApart ways
  pub sound : (item : Planned) → Contains items item → (way : Way) × Contains ways way × IsItemOf f v way item
  pub paths : AllPairs (λ (x y : Planned). x.path ≢ y.path) items

-- an item stands in the directory of a way
abbrev pub HoldsItem : Format → View → Way → Type 0
HoldsItem f v way = (name : List ℕ) × (node : NodeKind) × (node_of (standing_in f v way.dir name) ≡ Some node)

-- it is found in the directory of one of these ways
abbrev pub IsFoundAmong : Format → View → List Way → Finding → Path → Type 0
IsFoundAmong f v ways finding at = (way : Way) × Contains ways way × IsFindingHere f v way.dir finding at
