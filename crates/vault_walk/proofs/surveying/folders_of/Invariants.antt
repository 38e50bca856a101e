use Rattle.std.proofs.Common.{◌≡◌, ◌↔◌, IsTrue, Contains, take}
use Rattle.std.specs.BTreeSet.{contains}
use Rattle.folder_model.specs.Order.{path_cmp}
use Rattle.folder_spec.specs.Path.{Path}
use Rattle.vault_walk.specs.Walking.{Way}
use Rattle.vault_walk.proofs.surveying.folders_of.Given as goal

-- these are the folders of those so far
abbrev pub invariant-loop-way : goal.invariant-loop-way
invariant-loop-way l = (at : Path) → IsTrue (contains path_cmp l.folders at) ↔ ((way : Way) × Contains (take l.way-index l.visits) way × (way.dir.folder ≡ at))
