use Rattle.std.proofs.Common.{◌≡◌, map}
use Rattle.folder_model.specs.Crash.{node_left}
use Rattle.folder_model.proofs.mem.crash.nodes_left.Given as goal

-- what is left of the files so far
abbrev pub invariant-loop-node : goal.invariant-loop-node
invariant-loop-node l = l.left.items ≡ map (λ node. node_left l.tail node) l.yielded
