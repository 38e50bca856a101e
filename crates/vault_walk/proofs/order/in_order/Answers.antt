use Rattle.vault_walk.proofs.InOrder.{rising, same}
use Rattle.vault_walk.proofs.order.in_order.Goals as goal

pub returns-clause-ordered : goal.returns-clause-ordered
returns-clause-ordered g c = rising g.met.T.Ord.total g.met.T.Ord.matches_eq _ _ c.sort_unstable.ensures.sorted c.dedup.ensures.filtered

pub returns-clause-same : goal.returns-clause-same
returns-clause-same g c = same g.met.T.Eq.laws c.requires.exact _ _ _ c.sort_unstable.ensures.permutation c.dedup.ensures.filtered
