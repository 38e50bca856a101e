use Rattle.folder_staging.proofs.Pieces.{writing_seen}
use Rattle.folder_staging.proofs.laws.written_files_are_seen.Goals as goal

pub returns : goal.returns
returns c = writing_seen
