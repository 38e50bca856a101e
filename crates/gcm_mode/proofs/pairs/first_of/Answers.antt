use Rattle.gcm_mode.proofs.Lanes.{first_lane}
use Rattle.gcm_mode.proofs.pairs.first_of.Goals as goal

pub returns : goal.returns
returns c =
    let facts = first_lane c.args.v c.requires in
    record { block = facts.0; first = facts.1 }
