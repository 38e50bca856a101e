use Rattle.vault_spec.proofs.Depths.{shallow}
use Rattle.vault_spec.proofs.laws.clean_vaults_are_shallow.Goals as goal

pub returns : goal.returns
returns c = shallow
