use Rattle.demo_core.proofs.Numbered.{so_many}
use Rattle.demo_core.proofs.laws.trees_have_so_many_items.Goals as goal

pub returns : goal.returns
returns c = so_many
