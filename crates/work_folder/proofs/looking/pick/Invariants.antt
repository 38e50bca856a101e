use Rattle.work_folder.specs.Picking.{NoneBefore}
use Rattle.work_folder.proofs.looking.pick.Given as goal

abbrev pub invariant-loop-entry : goal.invariant-loop-entry
invariant-loop-entry l = NoneBefore l.old l.entries l.entry-index
