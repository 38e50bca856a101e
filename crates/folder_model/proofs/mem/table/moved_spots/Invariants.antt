use Rattle.folder_model.specs.Tables.{table_of}
use Rattle.folder_model.proofs.NameTables.{IsMovedSoFar}
use Rattle.folder_model.proofs.mem.table.moved_spots.Given as goal

abbrev pub invariant-loop-path : goal.invariant-loop-path
invariant-loop-path l = IsMovedSoFar (table_of l.spots) (table_of l.after) l.old l.new l.path-iterator
