use Rattle.std.proofs.Common.{◌≡◌, ◌≤◌, ◌-◌, ◌∷◌, length, drop}
use Rattle.folder_spec.specs.State.{Table, IsAmong}
use Rattle.folder_model.specs.Steps.{replay, tables_after}
use Rattle.folder_model.specs.Tables.{names_of}
use Rattle.folder_model.proofs.mem.table.absorb_front.Given as goal

-- the steps that are left lead to the same last table, and make no other tables
abbrev pub invariant-loop-done : goal.invariant-loop-done
invariant-loop-done l =
    (l.done ≤ length l.steps)
    × (replay (names_of l.table) (drop l.done l.steps) ≡ replay (names_of l.fn.table) l.steps)
    × ((t : Table) → IsAmong t (names_of l.table ∷ tables_after (names_of l.table) (drop l.done l.steps))
    → IsAmong t (names_of l.fn.table ∷ tables_after (names_of l.fn.table) l.steps))

abbrev pub decreases-loop-done : goal.decreases-loop-done
decreases-loop-done l = length l.steps - l.done
