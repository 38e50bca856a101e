use Rattle.aes_lanes.proofs.PlaneCopies.{IsPlane-repeated, bit-repeated}
use Rattle.aes_lanes.proofs.plane_blocks.repeated.Goals as goal

pub returns : goal.returns
returns c = record {
  plane = IsPlane-repeated c.args.i c.args.v c.requires.i c.requires.v;
  bits = bit-repeated c.args.i c.args.v c.requires.i c.requires.v;
}
