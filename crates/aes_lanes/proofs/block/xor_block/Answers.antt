use Rattle.std.proofs.Common.{◌≡◌, ◌+◌, ◌-◌, arith}
use Rattle.aes_lanes.proofs.XorSteps.{IsXoredAt-lanes}
use Rattle.aes_lanes.proofs.block.xor_block.Goals as goal

pub returns : goal.returns
returns c =
    let sixteen : c.args.at + 16 - c.args.at ≡ 16 = omega arith in
    IsXoredAt-lanes c.args.at (c.args.at + 16 - c.args.at) c.args.block.now c.args.bytes.now sixteen c.requires c.told-block
