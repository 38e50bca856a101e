use Rattle.tree_match.proofs.InOrder.{plan_stays}
use Rattle.tree_match.proofs.laws.plans_stay_by_same.Goals as goal

pub returns : goal.returns
returns c = λ items mapped ordered is. plan_stays c.same_names_stay.ensures.path items mapped ordered is
