use Rattle.std.proofs.Common.{◌∙◌, ap, map}
use Rattle.aes_lanes.specs.Field.{multiply}
use Rattle.aes_lanes.proofs.BlockSteps.{IsBlock-lanes, quadrupled_lanes}
use Rattle.aes_lanes.proofs.rounds.quadrupled.Goals as goal

pub returns : goal.returns
returns c = c.doubled-2.ensures ∙ ap (map (multiply 2)) c.doubled.ensures ∙ quadrupled_lanes c.args.v (IsBlock-lanes c.args.v c.fits-v)
