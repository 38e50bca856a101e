use Rattle.folder_spec.proofs.Edits.{additions_keep}
use Rattle.folder_spec.proofs.laws.additions_keep_what_stands.Goals as goal

pub returns : goal.returns
returns c = additions_keep
