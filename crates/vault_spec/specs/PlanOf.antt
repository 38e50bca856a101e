-- The plan of a tree.
use Rattle.std.specs.Prelude.{◌≡◌, List, Option, Some, None, Contains}
use Rattle.plain_tree.specs.declared.NodeKind.{NodeKind}
use Rattle.plain_tree.specs.declared.NodeKind.TheVariants as node
use Rattle.vault_spec.specs.Opens.{Opened, NoItem, Directory, Content, Broken, Tree, AreItems}
use Rattle.vault_spec.specs.Plan.{Planned, paths_of}

abbrev pub node_of : Opened → Option NodeKind
node_of NoItem = None
node_of Directory = Some node.Dir
node_of (Content bytes) = Some node.File
node_of (Broken chunks fault) = Some node.File

-- the items of a tree in order, each with its kind
pub record IsPlanOf (m : Tree) (plan : List Planned) : Type 0 where
  pub items : AreItems m (paths_of plan)
  pub nodes : (item : Planned) → Contains plan item → node_of (m item.path) ≡ Some item.node
