use Rattle.aes_lanes.proofs.CounterWords.{counted_words}
use Rattle.aes_lanes.proofs.PlaneBlocks.{lane_bytes}
use Rattle.aes_lanes.proofs.counter_planes.counted.Goals as goal

pub returns : goal.returns
returns c = counted_words c.args.block c.args.count c.fits-block.0 (lane_bytes c.args.block c.fits-block.1)
