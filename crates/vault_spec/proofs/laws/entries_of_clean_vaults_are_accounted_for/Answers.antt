use Rattle.vault_spec.proofs.Accounted.{accounted}
use Rattle.vault_spec.proofs.laws.entries_of_clean_vaults_are_accounted_for.Goals as goal

pub returns : goal.returns
returns c = accounted
