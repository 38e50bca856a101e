use Rattle.std.proofs.Common.{◌∷◌}
use Rattle.plain_tree.proofs.Orders.{after_prefix}
use Rattle.plain_tree.proofs.laws.children_are_ordered_by_name.Goals as goal

pub returns : goal.returns
returns c = λ p m n q r. after_prefix p (m ∷ q) (n ∷ r)
