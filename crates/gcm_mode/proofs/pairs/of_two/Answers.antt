use Rattle.gcm_mode.proofs.Lanes.{pair_of_two, whole_pair}
use Rattle.gcm_mode.proofs.pairs.of_two.Goals as goal

pub returns : goal.returns
returns c =
    let facts = pair_of_two c.args.first c.args.second _ (whole_pair c.args.first c.args.second c.requires.first c.requires.second) c.requires.first c.requires.second in
    record { pair = facts.0; first_lane = facts.1; second_lane = facts.2 }
