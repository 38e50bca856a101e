-- A file of a folder in memory is changed, by the number of its node.
use Rattle.std.proofs.Common.{◌≡◌, ℕ, ◌<◌, ◌∙◌, sym, length, vec_len, slice_set}
use Rattle.folder_spec.specs.declared.Spot.{Spot}
use Rattle.folder_spec.specs.declared.Spot.TheVariants.{FileNode}
use Rattle.folder_spec.specs.Path.{Path}
use Rattle.folder_spec.specs.State.{Node, present}
use Rattle.folder_model.specs.declared.mem.MemFolder.{MemFolder}
use Rattle.folder_model.specs.Memory.{state_of}
use Rattle.folder_model.specs.Nodes.{KeepsFront, KeepsFronts}
use Rattle.folder_model.specs.Steps.{AreSoundTables}
use Rattle.folder_model.specs.Tables.{names_of}
use Rattle.folder_model.proofs.States.{node_made, node_holds}

module _ (m : MemFolder) (at : Path) (number : ℕ) (spot : Spot) (found : spot ≡ present (state_of m) at) (file : spot ≡ FileNode number) where
  pub here : present (state_of m) at ≡ FileNode number
  here = sym found ∙ file

  pub made : number < length m.nodes.items
  made = node_made m.nodes.items (names_of m.base) m.steps.items m.kept at number m.sound here

  pub within : number < vec_len m.nodes
  within = rw m.nodes.ok.0 made

  -- with another node there, which begins with what is kept of it
  pub holds : (node : Node) → KeepsFront node
      → KeepsFronts (slice_set m.nodes.items number node) × AreSoundTables (length (slice_set m.nodes.items number node)) (names_of m.base) m.steps.items
  holds node front = node_holds m.nodes.items (names_of m.base) m.steps.items m.kept number node made front m.fronts m.sound
