use Rattle.vault_walk.proofs.Items.{once_is_plan}
use Rattle.vault_walk.proofs.laws.each_item_once_is_the_plan.Goals as goal

pub returns : goal.returns
returns c = once_is_plan c.what_stands_is_found_step_by_step.ensures.below
