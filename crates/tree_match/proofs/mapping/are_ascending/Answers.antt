use Rattle.std.proofs.Common.{arith}
use Rattle.tree_match.proofs.MappedPlans.{all_ascending}
use Rattle.tree_match.proofs.mapping.are_ascending.Goals as goal

pub pairs-init : goal.pairs-init
pairs-init c = λ k d less. absurd (omega arith)

pub returns : goal.returns
returns c = λ yes. all_ascending c.args.items.now c.pairs.i (omega arith) c.pairs.invariant
