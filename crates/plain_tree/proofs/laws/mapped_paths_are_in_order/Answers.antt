use Rattle.plain_tree.proofs.Mapping.{in_order}
use Rattle.plain_tree.proofs.laws.mapped_paths_are_in_order.Goals as goal

pub returns : goal.returns
returns c = in_order
