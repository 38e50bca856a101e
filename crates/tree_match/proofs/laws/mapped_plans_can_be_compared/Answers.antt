use Rattle.tree_match.proofs.MappedPlans.{matchable}
use Rattle.tree_match.proofs.laws.mapped_plans_can_be_compared.Goals as goal

pub returns : goal.returns
returns c = matchable
