use Rattle.aes_lanes.proofs.BlockSteps.{IsBlock-lanes, mixed_is}
use Rattle.aes_lanes.proofs.rounds.mixed.Goals as goal

pub returns : goal.returns
returns c = mixed_is c.args.v c.doubled.result (IsBlock-lanes c.args.v c.fits-v) c.doubled.ensures
