use Rattle.std.proofs.lemmas.Simd.{pick_l_left}
use Rattle.aes_lanes.specs.Rounds.{shift_rows}
use Rattle.aes_lanes.proofs.BlockSteps.{shifted_places}
use Rattle.aes_lanes.proofs.rounds.shifted.Goals as goal

pub returns : goal.returns
unfolding shift_rows
returns c = pick_l_left 0 c.args.v c.args.v 16 shifted_places c.fits-v.0 tt
