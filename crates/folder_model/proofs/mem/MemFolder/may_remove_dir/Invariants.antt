use Rattle.std.proofs.Common.{◌≡◌, ℕ, ◌<◌, slice_index_or, string_bytes, String, Global}
use Rattle.folder_spec.specs.declared.Spot.TheVariants.{Nothing}
use Rattle.folder_spec.specs.Path.{child}
use Rattle.folder_spec.specs.State.{present}
use Rattle.folder_model.specs.Memory.{state_of}
use Rattle.folder_model.proofs.mem.MemFolder.may_remove_dir.Given as goal

-- no entry stands under the names so far
abbrev pub invariant-loop-name : goal.invariant-loop-name
invariant-loop-name l =
    (k : ℕ) (d : String Global) → k < l.name-index → present (state_of l.self) (child l.at (string_bytes (slice_index_or l.name-items k d))) ≡ Nothing
