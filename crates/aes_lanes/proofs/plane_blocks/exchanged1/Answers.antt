use Rattle.aes_lanes.proofs.PlaneSwaps.{IsPlane-low, IsPlane-high, bits-low, bits-high, swap1}
use Rattle.aes_lanes.proofs.plane_blocks.exchanged1.Goals as goal

pub invariant_of-result : goal.invariant_of-result
invariant_of-result c = record {
  low_plane = IsPlane-low 1 0x55 swap1 c.args.a c.args.b c.requires.a c.requires.b;
  high_plane = IsPlane-high 1 0x55 swap1 c.args.a c.args.b c.requires.a c.requires.b;
}

pub returns-clause-low : goal.returns-clause-low
returns-clause-low c = bits-low 1 0x55 swap1 c.args.a c.args.b c.requires.a c.requires.b

pub returns-clause-high : goal.returns-clause-high
returns-clause-high c = bits-high 1 0x55 swap1 c.args.a c.args.b c.requires.a c.requires.b
