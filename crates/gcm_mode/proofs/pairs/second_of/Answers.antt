use Rattle.gcm_mode.proofs.Lanes.{second_lane}
use Rattle.gcm_mode.proofs.pairs.second_of.Goals as goal

pub returns : goal.returns
returns c =
    let facts = second_lane c.args.v c.requires in
    record { block = facts.0; second = facts.1 }
