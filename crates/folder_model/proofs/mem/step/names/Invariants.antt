use Rattle.std.proofs.Common.{◌≢◌, ◌≤◌, ◌⊎◌, take, length, map, Contains, string_bytes}
use Rattle.folder_spec.specs.declared.Spot.TheVariants.{Nothing}
use Rattle.folder_spec.specs.Path.{Part, child}
use Rattle.folder_model.specs.Steps.{replay}
use Rattle.folder_model.specs.Tables.{names_of}
use Rattle.folder_model.proofs.mem.step.names.Given as goal

-- the name of an entry at `at` has been found, or is one of the entries at the path after the steps that are left
abbrev pub invariant-loop-left : goal.invariant-loop-left
invariant-loop-left l =
    ((a : Part) → replay (names_of l.base) l.steps (child l.at a) ≢ Nothing
    → Contains (map (λ s. string_bytes s) l.found.items) a ⊎ (replay (names_of l.base) (take l.left l.steps) (child l.path a) ≢ Nothing))
    × (l.left ≤ length l.steps)

abbrev pub decreases-loop-left : goal.decreases-loop-left
decreases-loop-left l = l.left
