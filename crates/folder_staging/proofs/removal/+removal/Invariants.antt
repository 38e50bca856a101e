use Rattle.std.proofs.Common.{◌*◌, ◌+◌, ◌≤◌}
use Rattle.folder_spec.specs.Event.{FromTo}
use Rattle.folder_staging.proofs.Emptying.{SoFar}
use Rattle.folder_staging.proofs.removal.+removal.Given as goal

abbrev pub decreases-empty_dir : goal.decreases-empty_dir
decreases-empty_dir g l = 3 * l.most + 1

abbrev pub decreases-remove_entries : goal.decreases-remove_entries
decreases-remove_entries g l = 3 * l.most + 3

abbrev pub decreases-remove_entry : goal.decreases-remove_entry
decreases-remove_entry g l = 3 * l.most + 2

-- the entries so far are gone
abbrev pub invariant-remove_entries-loop-entry : goal.invariant-remove_entries-loop-entry
invariant-remove_entries-loop-entry g l =
    FromTo (SoFar l.at l.most l.entries l.entry-index) (g.F.Folder.told l.fn.folder) (g.F.Folder.told l.folder)
    × (g.F.Folder.faults l.fn.folder ≤ g.F.Folder.faults l.folder)
