use Rattle.std.proofs.Common.{refl, arith}
use Rattle.aes_lanes.proofs.XorSteps.{AreXoredAt-none, AreXoredAt-next}
use Rattle.aes_lanes.proofs.block.xor_sixteen.Goals as goal

pub loop-i-init : goal.loop-i-init
loop-i-init c = AreXoredAt-none _ _ _

pub loop-i-preserved : goal.loop-i-preserved
loop-i-preserved c = AreXoredAt-next _ _ _ _ _ _ _ c.loop-i.invariant refl (omega arith) c.xor_block.ensures
