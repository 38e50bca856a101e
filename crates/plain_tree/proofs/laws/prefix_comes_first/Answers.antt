use Rattle.std.proofs.Common.{[]}
use Rattle.plain_tree.proofs.Orders.{prefix_first}
use Rattle.plain_tree.proofs.laws.prefix_comes_first.Goals as goal

pub returns-clause-below : goal.returns-clause-below
returns-clause-below c = prefix_first

pub returns-clause-child : goal.returns-clause-child
returns-clause-child c = λ p name. prefix_first p name []
