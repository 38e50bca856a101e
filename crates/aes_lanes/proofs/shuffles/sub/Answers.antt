use Rattle.std.proofs.Common.{◌∙◌, bit_xor, refl}
use Rattle.std.proofs.lemmas.Simd.{splat_is_map, zip2_of_maps}
use Rattle.aes_lanes.specs.Field.{sbox}
use Rattle.aes_lanes.specs.Shuffles.{first_place, second_place}
use Rattle.aes_lanes.specs.declared.shuffles.TheConstants.{BASIS_LOW, BASIS_HIGH, SBOX_FIRST, SBOX_SECOND, INVERSES, SHARES}
use Rattle.aes_lanes.proofs.LaneSteps.{map-agree}
use Rattle.aes_lanes.proofs.ShuffleSteps.{for_byte, looked, of_bytes, places-map, shuffled_sbox, shuffled_sbox-is}
use Rattle.aes_lanes.proofs.shuffles.sub.Goals as goal

pub look-first-requires : goal.look-first-requires
look-first-requires c =
    places-map (for_byte first_place BASIS_LOW BASIS_HIGH) refl c.args.v _ c.requires
    (of_bytes BASIS_LOW BASIS_HIGH (first_place INVERSES SHARES) c.args.v c.by_halves-element.result _ c.by_halves-element.ensures c.inverted-places.ensures.first)

pub look-second-requires : goal.look-second-requires
look-second-requires c =
    places-map (for_byte second_place BASIS_LOW BASIS_HIGH) refl c.args.v _ c.requires
    (of_bytes BASIS_LOW BASIS_HIGH (second_place INVERSES SHARES) c.args.v c.by_halves-element.result _ c.by_halves-element.ensures c.inverted-places.ensures.second)

pub returns : goal.returns
unfolding shuffled_sbox
returns c =
    let v = c.args.v in
    let element = c.by_halves-element in
    let places = c.inverted-places.ensures in
    let first = of_bytes BASIS_LOW BASIS_HIGH (first_place INVERSES SHARES) v element.result _ element.ensures places.first in
    let second = of_bytes BASIS_LOW BASIS_HIGH (second_place INVERSES SHARES) v element.result _ element.ensures places.second in
    zip2_of_maps bit_xor _ _ v
    (zip2_of_maps bit_xor _ _ v
    (looked SBOX_FIRST v _ _ (for_byte first_place BASIS_LOW BASIS_HIGH) first c.look-first.ensures)
    (looked SBOX_SECOND v _ _ (for_byte second_place BASIS_LOW BASIS_HIGH) second c.look-second.ensures))
    (splat_is_map v 16 0x63 c.requires.sixteen)
    ∙ map-agree shuffled_sbox sbox shuffled_sbox-is v c.requires.bytes
