use Rattle.std.proofs.lemmas.Simd.{pick_l_left}
use Rattle.aes_lanes.specs.Rounds.{inverse_shift_rows}
use Rattle.aes_lanes.proofs.BlockSteps.{unshifted_places}
use Rattle.aes_lanes.proofs.rounds.unshifted.Goals as goal

pub returns : goal.returns
unfolding inverse_shift_rows
returns c = pick_l_left 0 c.args.v c.args.v 16 unshifted_places c.fits-v.0 tt
