use Rattle.folder_staging.proofs.Removals.{removing_as_before, removals_spare, removing_writes_nothing}
use Rattle.folder_staging.proofs.laws.removals_leave_the_rest.Goals as goal

pub returns : goal.returns
returns c = record { rest = removing_as_before; calls = removals_spare; files = removing_writes_nothing }
