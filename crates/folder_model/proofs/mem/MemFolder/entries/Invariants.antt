use Rattle.std.proofs.Common.{◌≢◌, ℕ, ◌<◌, slice_index_or, string_bytes, String, Global}
use Rattle.folder_spec.specs.declared.Kind.TheVariants.{Missing}
use Rattle.folder_spec.specs.Path.{child}
use Rattle.folder_spec.specs.State.{present, kind_of}
use Rattle.folder_model.specs.Entries.{AreOrdered, AreRight, HasName}
use Rattle.folder_model.specs.Memory.{state_of}
use Rattle.folder_model.proofs.mem.MemFolder.entries.Given as goal

-- the entries of the names so far are gathered, in order
abbrev pub invariant-loop-name : goal.invariant-loop-name
invariant-loop-name l =
    AreOrdered l.entries.items × AreRight (present (state_of l.self)) l.at l.entries.items
    × ((k : ℕ) (d : String Global) → k < l.name-index → kind_of (present (state_of l.self) (child l.at (string_bytes (slice_index_or l.name-items k d)))) ≢ Missing
    → HasName l.entries.items (string_bytes (slice_index_or l.name-items k d)))
