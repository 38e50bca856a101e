use Rattle.std.proofs.Common.{lit<}
use Rattle.gcm_mode.proofs.Lanes.{IsPair-splat}
use Rattle.gcm_mode.proofs.products.no_pair.Goals as goal

pub invariant_of-result : goal.invariant_of-result
invariant_of-result c = record { high_pair = IsPair-splat 0 (lit< tt); low_pair = IsPair-splat 0 (lit< tt) }
