use Rattle.std.proofs.Common.{◌∙◌, bit_xor, refl}
use Rattle.std.proofs.lemmas.Simd.{zip2_of_maps}
use Rattle.aes_lanes.specs.Field.{inverse_sbox}
use Rattle.aes_lanes.specs.Shuffles.{first_place, second_place}
use Rattle.aes_lanes.specs.declared.shuffles.TheConstants.{UNMAPPED_LOW, UNMAPPED_HIGH, INVERSE_FIRST, INVERSE_SECOND, INVERSES, SHARES}
use Rattle.aes_lanes.proofs.LaneSteps.{map-agree}
use Rattle.aes_lanes.proofs.ShuffleSteps.{for_byte, looked, of_bytes, places-map, shuffled_inverse_sbox, shuffled_inverse_sbox-is}
use Rattle.aes_lanes.proofs.shuffles.unsub.Goals as goal

pub look-first-requires : goal.look-first-requires
look-first-requires c =
    places-map (for_byte first_place UNMAPPED_LOW UNMAPPED_HIGH) refl c.args.v _ c.requires
    (of_bytes UNMAPPED_LOW UNMAPPED_HIGH (first_place INVERSES SHARES) c.args.v c.by_halves-element.result _ c.by_halves-element.ensures c.inverted-places.ensures.first)

pub look-second-requires : goal.look-second-requires
look-second-requires c =
    places-map (for_byte second_place UNMAPPED_LOW UNMAPPED_HIGH) refl c.args.v _ c.requires
    (of_bytes UNMAPPED_LOW UNMAPPED_HIGH (second_place INVERSES SHARES) c.args.v c.by_halves-element.result _ c.by_halves-element.ensures c.inverted-places.ensures.second)

pub returns : goal.returns
unfolding shuffled_inverse_sbox
returns c =
    let v = c.args.v in
    let element = c.by_halves-element in
    let places = c.inverted-places.ensures in
    let first = of_bytes UNMAPPED_LOW UNMAPPED_HIGH (first_place INVERSES SHARES) v element.result _ element.ensures places.first in
    let second = of_bytes UNMAPPED_LOW UNMAPPED_HIGH (second_place INVERSES SHARES) v element.result _ element.ensures places.second in
    zip2_of_maps bit_xor _ _ v
    (looked INVERSE_FIRST v _ _ (for_byte first_place UNMAPPED_LOW UNMAPPED_HIGH) first c.look-first.ensures)
    (looked INVERSE_SECOND v _ _ (for_byte second_place UNMAPPED_LOW UNMAPPED_HIGH) second c.look-second.ensures)
    ∙ map-agree shuffled_inverse_sbox inverse_sbox shuffled_inverse_sbox-is v c.requires.bytes
