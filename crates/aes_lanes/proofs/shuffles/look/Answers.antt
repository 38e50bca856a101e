use Rattle.aes_lanes.proofs.ShuffleSteps.{look_is, places_within}
use Rattle.aes_lanes.proofs.shuffles.look.Goals as goal

pub swizzle : goal.swizzle
swizzle c = places_within c.args.places c.requires

pub returns : goal.returns
returns c = look_is c.args.table c.args.places c.requires.sixteen
