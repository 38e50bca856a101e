use Rattle.vault_write.proofs.ContentLengths.{told_whole}
use Rattle.vault_write.proofs.laws.files_fit_as_contents.Goals as goal

pub returns : goal.returns
returns c = told_whole c.readings_are_no_longer.ensures
