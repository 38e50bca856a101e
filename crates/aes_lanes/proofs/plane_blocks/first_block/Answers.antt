use Rattle.std.proofs.lemmas.Simd.{pick_l_left}
use Rattle.aes_lanes.proofs.PlaneBlocks.{first_rows}
use Rattle.aes_lanes.proofs.plane_blocks.first_block.Goals as goal

pub returns : goal.returns
returns c = pick_l_left 0 c.args.v c.args.v 32 first_rows c.requires.long tt
