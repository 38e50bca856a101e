use Rattle.std.proofs.Common.{ℕ, ◌<◌, slice_index_or}
use Rattle.folder_spec.specs.State.{IsClean}
use Rattle.folder_spec.specs.Event.{empty_node}
use Rattle.folder_model.proofs.mem.node.are_clean.Given as goal

-- the files so far are kept
abbrev pub invariant-loop-node : goal.invariant-loop-node
invariant-loop-node l = (k : ℕ) → k < l.node-index → IsClean (slice_index_or l.nodes k empty_node)
