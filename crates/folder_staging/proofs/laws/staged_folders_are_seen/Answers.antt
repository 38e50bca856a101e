use Rattle.folder_staging.proofs.Wholes.{staged_seen}
use Rattle.folder_staging.proofs.laws.staged_folders_are_seen.Goals as goal

pub returns : goal.returns
returns c = staged_seen
