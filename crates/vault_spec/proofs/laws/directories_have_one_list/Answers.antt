use Rattle.vault_spec.proofs.Lists.{one_list}
use Rattle.vault_spec.proofs.laws.directories_have_one_list.Goals as goal

pub returns : goal.returns
returns c = one_list
