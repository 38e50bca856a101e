use Rattle.writing_commands.proofs.Costs.{go_cost_is_cost, cm_cost_is_cost}
use Rattle.writing_commands.proofs.founding.cost_of.Goals as goal

pub unwrap-requires : goal.unwrap-requires
unwrap-requires c = c.new.ensures.exactly.1 go_cost_is_cost

pub unwrap-requires-in-Cryptomator : goal.unwrap-requires-in-Cryptomator
unwrap-requires-in-Cryptomator c = c.new-in-Cryptomator.ensures.exactly.1 cm_cost_is_cost
