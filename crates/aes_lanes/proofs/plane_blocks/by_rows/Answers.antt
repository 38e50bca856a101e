use Rattle.aes_lanes.proofs.PlaneBlocks.{IsPlane-rows, lane_bytes, rows-first_block, rows-second_block}
use Rattle.aes_lanes.proofs.plane_blocks.by_rows.Goals as goal

pub returns : goal.returns
returns c =
    let a = c.args.first in
    let b = c.args.second in
    let long_a = c.fits-first.0 in
    let long_b = c.fits-second.0 in
    record {
      plane = IsPlane-rows a b long_a long_b (lane_bytes a c.fits-first.1) (lane_bytes b c.fits-second.1);
      first = rows-first_block a b long_a long_b;
      second = rows-second_block a b long_a long_b;
      first_length = long_a;
      second_length = long_b;
    }
