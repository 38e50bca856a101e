use Rattle.aes_lanes.proofs.BlockSteps.{IsBlock-lanes, unmixed_is}
use Rattle.aes_lanes.proofs.rounds.unmixed.Goals as goal

pub returns : goal.returns
returns c = unmixed_is c.args.v c.quadrupled.result c.mixed.result (IsBlock-lanes c.args.v c.fits-v) c.quadrupled.ensures c.mixed.ensures
