use Rattle.vault_spec.specs.Vault.{format_of}
use Rattle.vault_read.proofs.FoundFiles.{has_contents, standing_has_content}
use Rattle.vault_read.proofs.laws.files_have_their_contents.Goals as goal

pub returns : goal.returns
returns c = λ vault v path at stands. standing_has_content (format_of vault) (has_contents vault) v path at stands
