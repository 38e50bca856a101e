-- The plan of a vault: its items in order of their paths, each with its kind and its place.
use Rattle.std.specs.Prelude.{◌≡◌, ◌≢◌, ◌↔◌, ℕ, List, [], ◌∷◌, ◌++◌, map, Some, Ok, AllPairs, Contains}
use Rattle.std.specs.declared.cmp.Ordering.TheVariants.{Less}
use Rattle.folder_spec.specs.Path.{Path}
use Rattle.folder_spec.specs.View.{View}
use Rattle.plain_tree.specs.Names as plain
use Rattle.plain_tree.specs.Order.{path_cmp}
use Rattle.plain_tree.specs.declared.NodeKind.{NodeKind}
use Rattle.vault_spec.specs.Alike.{place_of}
use Rattle.vault_spec.specs.Format.{Format, Directory}
use Rattle.vault_spec.specs.Listing.{node_of}
use Rattle.vault_spec.specs.Reached.{Leads, IsReachedIn}
use Rattle.vault_spec.specs.Standing.{Dir, standing, standing_in}

-- an item with its path from the root, its kind, and the place of its entry or content
pub record Planned : Type 0 where
  pub path : plain.Path
  pub node : NodeKind
  pub at : Path

-- it stands so
pub record IsPlanned (f : Format) (v : View) (item : Planned) : Type 0 where
  pub node : node_of (standing f v item.path) ≡ Some item.node
  pub place : place_of (standing f v item.path) ≡ Some item.at

-- these are all items but the root, in order of their paths
pub record IsPlan (f : Format) (v : View) (plan : List Planned) : Type 0 where
  pub ordered : AllPairs (λ (x y : Planned). path_cmp x.path y.path ≡ Less) plan
  pub items : (item : Planned) → Contains plan item ↔ ((item.path ≢ []) × IsPlanned f v item)

abbrev pub paths_of : List Planned → List plain.Path
paths_of plan = map (λ (item : Planned). item.path) plan

-- what stands at a path stands under its last name in a directory that the names before lead to
pub record StandsBelow (f : Format) (v : View) (path : plain.Path) : Type 0 where
  pub front : plain.Path
  pub name : List ℕ
  pub dir : Directory
  pub is : path ≡ front ++ name ∷ []
  pub leads : Leads f v front dir
  pub stands : standing_in f v dir name ≡ standing f v path

-- a directory that is reached in one step more than another stands in that
pub record IsReachedFrom (f : Format) (v : View) (steps : ℕ) (dir : Directory) : Type 0 where
  pub parent : Directory
  pub name : List ℕ
  pub at : Path
  pub reached : IsReachedIn f v steps parent
  pub stands : standing_in f v parent name ≡ Dir at (Ok dir)
