use Rattle.aes_lanes.specs.Private.{AreXoredAt}
use Rattle.aes_lanes.proofs.block.xor_sixteen.Given as goal

abbrev pub invariant-loop-i : goal.invariant-loop-i
invariant-loop-i l = AreXoredAt l.at l.i l.blocks l.initial.bytes l.bytes
