-- What a survey of a vault gives: its items, its findings and its notes, and when the vault passes a limit. Paths begin at the vault's
-- root.
use Rattle.std.specs.Prelude.{◌≡◌, ◌≢◌, ◌↔◌, ◌<◌, ◌++◌, ℕ, List, [], ◌∷◌, length, Some, IsTrue, AllPairs, Contains}
use Rattle.std.specs.declared.cmp.Ordering.TheVariants.{Less}
use Rattle.folder_spec.specs.Path.{Path}
use Rattle.folder_spec.specs.View.{View}
use Rattle.plain_tree.specs.Names as plain
use Rattle.plain_tree.specs.Order.{path_cmp}
use Rattle.plain_tree.specs.declared.NodeKind.{NodeKind}
use Rattle.vault_spec.specs.Findings.{IsFinding, is_fault_of_structure, number_of}
use Rattle.vault_spec.specs.Format.{Format, Directory}
use Rattle.vault_spec.specs.Listing.{node_of}
use Rattle.vault_spec.specs.Plan.{Planned, IsPlanned}
use Rattle.vault_spec.specs.Reached.{Leads, IsReached, IsReachedIn}
use Rattle.vault_spec.specs.Standing.{standing_in}
use Rattle.vault_spec.specs.declared.Finding.{Finding}
use Rattle.vault_spec.specs.declared.Finding.TheVariants as is

-- an item of a directory
pub record Spot : Type 0 where
  pub dir : Directory
  pub name : List ℕ

-- an item stands there, in a directory that is reached
pub record IsItem (f : Format) (v : View) (spot : Spot) : Type 0 where
  pub reached : IsReached f v spot.dir
  pub node : NodeKind
  pub stands : node_of (standing_in f v spot.dir spot.name) ≡ Some node

-- the path is one at which it stands
pub record IsPathOf (f : Format) (v : View) (spot : Spot) (path : plain.Path) : Type 0 where
  pub front : plain.Path
  pub is : path ≡ front ++ spot.name ∷ []
  pub leads : Leads f v front spot.dir

-- no two of them are one item
abbrev pub AreDifferent : Format → View → List Planned → Type 0
AreDifferent f v items = AllPairs (λ (x y : Planned). (spot : Spot) → IsPathOf f v spot x.path → ¬ IsPathOf f v spot y.path) items

-- each item of the reached directories once, at a path at which it stands
pub record HasEachOnce (f : Format) (v : View) (plan : List Planned) : Type 0 where
  pub stand : (item : Planned) → Contains plan item → (item.path ≢ []) × IsPlanned f v item
  pub each : (spot : Spot) → IsItem f v spot → (item : Planned) × Contains plan item × IsPathOf f v spot item.path
  pub once : AreDifferent f v plan

abbrev pub IsOrdered : List Planned → Type 0
IsOrdered plan = AllPairs (λ (x y : Planned). path_cmp x.path y.path ≡ Less) plan

-- a finding with its path
pub record FoundAt : Type 0 where
  pub at : Path
  pub finding : Finding

-- by path, and at one path by number
pub data Precedes (x y : FoundAt) : Type 0 where
  ByPath : path_cmp x.at y.at ≡ Less → Precedes x y
  ByNumber : x.at ≡ y.at → number_of x.finding < number_of y.finding → Precedes x y

-- these are the findings that make a vault not clean, in order
pub record AreFindings (f : Format) (v : View) (found : List FoundAt) : Type 0 where
  pub ordered : AllPairs Precedes found
  pub findings : (x : FoundAt) → Contains found x ↔ (IsTrue (is_fault_of_structure x.finding) × IsFinding f v x.finding x.at)

-- these are the notes, in order
pub record AreNotes (f : Format) (v : View) (notes : List Path) : Type 0 where
  pub ordered : AllPairs (λ (x y : Path). path_cmp x y ≡ Less) notes
  pub paths : (at : Path) → Contains notes at ↔ IsFinding f v is.EmptyOrphan at

pub record IsSurvey (f : Format) (v : View) (plan : List Planned) (found : List FoundAt) (notes : List Path) : Type 0 where
  pub once : HasEachOnce f v plan
  pub ordered : IsOrdered plan
  pub findings : AreFindings f v found
  pub notes_are : AreNotes f v notes

-- how many steps from the root a plain path may have, and how many items a vault
abbrev pub depth_limit : ℕ
depth_limit = 64

abbrev pub item_limit : ℕ
item_limit = 200000

-- an item stands in a directory that is reached in as many steps as a plain path may have
pub record IsTooDeep (f : Format) (v : View) : Type 0 where
  pub spot : Spot
  pub item : IsItem f v spot
  pub deep : IsReachedIn f v depth_limit spot.dir

-- the item stands in a directory that is reached in fewer steps than that
pub record IsNear (f : Format) (v : View) (item : Planned) : Type 0 where
  pub spot : Spot
  pub is : IsItem f v spot
  pub path : IsPathOf f v spot item.path
  pub steps : ℕ
  pub near : steps < depth_limit
  pub reached : IsReachedIn f v steps spot.dir

-- there are more of these items than a vault may have
pub record HasTooMany (f : Format) (v : View) : Type 0 where
  pub items : List Planned
  pub near : (item : Planned) → Contains items item → IsNear f v item
  pub once : AreDifferent f v items
  pub more : item_limit < length items
