-- The items of a directory.
use Rattle.std.specs.Prelude.{◌≡◌, ◌↔◌, ℕ, List, Option, Some, None, AllPairs, Contains}
use Rattle.std.specs.declared.cmp.Ordering.TheVariants.{Less}
use Rattle.folder_spec.specs.View.{View}
use Rattle.plain_tree.specs.Order.{name_cmp}
use Rattle.plain_tree.specs.declared.NodeKind.{NodeKind}
use Rattle.plain_tree.specs.declared.NodeKind.TheVariants as node
use Rattle.vault_spec.specs.Format.{Format, Directory}
use Rattle.vault_spec.specs.Standing.{Standing, Absent, Strange, File, Dir, standing_in}

-- of which kind the item is that stands there, if one does
abbrev pub node_of : Standing → Option NodeKind
node_of Absent = None
node_of (Strange at) = None
node_of (File at) = Some node.File
node_of (Dir at directory) = Some node.Dir

-- an item with its name in its directory
pub record Listed : Type 0 where
  pub name : List ℕ
  pub node : NodeKind

-- These are the items of a directory, in byte order of their names. What stands in it and is no item is passed over.
pub record AreListed (f : Format) (v : View) (dir : Directory) (list : List Listed) : Type 0 where
  pub ordered : AllPairs (λ (x y : Listed). name_cmp x.name y.name ≡ Less) list
  pub items : (item : Listed) → Contains list item ↔ (node_of (standing_in f v dir item.name) ≡ Some item.node)
