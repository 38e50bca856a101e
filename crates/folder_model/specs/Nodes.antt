-- The nodes of a folder in memory.
use Rattle.std.specs.Prelude.{◌≡◌, ℕ, List, length, take, slice_index_or}
use Rattle.folder_spec.specs.State.{Node}
use Rattle.folder_spec.specs.Event.{empty_node}

-- the node begins with what is kept of it
abbrev pub KeepsFront : Node → Type 0
KeepsFront node = take (length node.kept) node.now ≡ node.kept

abbrev pub KeepsFronts : List Node → Type 0
KeepsFronts nodes = (n : ℕ) → KeepsFront (slice_index_or nodes n empty_node)
