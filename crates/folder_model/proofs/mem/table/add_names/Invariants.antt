use Rattle.std.proofs.Common.{◌≢◌, ◌⊎◌, map, Contains, string_bytes}
use Rattle.folder_spec.specs.declared.Spot.TheVariants.{Nothing}
use Rattle.folder_spec.specs.Path.{Part, child}
use Rattle.folder_model.specs.Tables.{table_of}
use Rattle.folder_model.proofs.mem.table.add_names.Given as goal

-- the names of then are there, and each entry's name is there or its path is left
abbrev pub invariant-loop-path : goal.invariant-loop-path
invariant-loop-path l =
    ((a : Part) → Contains (map (λ s. string_bytes s) l.fn.found.items) a → Contains (map (λ s. string_bytes s) l.found.items) a)
    × ((a : Part) → table_of l.spots (child l.at a) ≢ Nothing → Contains (map (λ s. string_bytes s) l.found.items) a ⊎ Contains l.path-iterator (child l.at a))
