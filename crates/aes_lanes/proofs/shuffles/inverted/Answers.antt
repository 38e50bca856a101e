use Rattle.std.proofs.Common.{refl}
use Rattle.aes_lanes.specs.Shuffles.{high_half, low_half}
use Rattle.aes_lanes.proofs.ShuffleSteps.{both, both_are, first_places, highs_are, lows_are, of_both, of_both_is, of_high, of_high_is, places-map, second_places}
use Rattle.aes_lanes.proofs.shuffles.inverted.Goals as goal

pub look-share-requires : goal.look-share-requires
look-share-requires c = places-map low_half refl c.args.v _ c.requires (lows_are c.args.v c.requires)

pub look-of_high-requires : goal.look-of_high-requires
look-of_high-requires c = places-map high_half refl c.args.v _ c.requires (highs_are c.args.v c.requires)

pub look-of_sum-requires : goal.look-of_sum-requires
look-of_sum-requires c = places-map both refl c.args.v _ c.requires (both_are c.args.v c.requires)

pub look-first-requires : goal.look-first-requires
look-first-requires c =
    places-map of_high refl c.args.v _ c.requires
    (of_high_is c.args.v c.look-share.result c.look-of_high.result c.look-of_sum.result c.requires c.look-share.ensures c.look-of_high.ensures c.look-of_sum.ensures)

pub look-second-requires : goal.look-second-requires
look-second-requires c =
    places-map of_both refl c.args.v _ c.requires
    (of_both_is c.args.v c.look-share.result c.look-of_high.result c.look-of_sum.result c.requires c.look-share.ensures c.look-of_high.ensures c.look-of_sum.ensures)

pub returns : goal.returns
returns c = record {
  first =
      first_places c.args.v c.look-share.result c.look-of_high.result c.look-of_sum.result c.requires
      c.look-share.ensures c.look-of_high.ensures c.look-of_sum.ensures c.look-first.result c.look-first.ensures;
  second =
      second_places c.args.v c.look-share.result c.look-of_high.result c.look-of_sum.result c.requires
      c.look-share.ensures c.look-of_high.ensures c.look-of_sum.ensures c.look-second.result c.look-second.ensures;
}
