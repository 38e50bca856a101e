-- Directories, as they are put in order.
use Rattle.std.specs.Ordering.{ordering_then}
use Rattle.std.specs.declared.cmp.Ordering.{Ordering}
use Rattle.folder_model.specs.Order.{path_cmp}
use Rattle.plain_tree.specs.Order.{name_cmp}
use Rattle.vault_spec.specs.Format.{Directory}
use Rattle.vault_walk.specs.declared.key.Node.{Node}

abbrev pub node_of : Directory → Node
node_of dir = record { folder = dir.folder; key = dir.key }

-- by folder, and in one folder by key
abbrev pub node_cmp : Node → Node → Ordering
node_cmp x y = ordering_then (path_cmp x.folder y.folder) (name_cmp x.key y.key)
