use Rattle.vault_spec.proofs.VaultPlans.{vault_plan}
use Rattle.vault_spec.proofs.laws.plans_are_the_tree.Goals as goal

pub returns : goal.returns
returns c = vault_plan
