use Rattle.std.proofs.Common.{bit_xor, refl}
use Rattle.std.proofs.lemmas.Simd.{zip2_of_maps}
use Rattle.aes_lanes.specs.Shuffles.{byte_from, high_half, low_half}
use Rattle.aes_lanes.proofs.ShuffleSteps.{highs, highs_are, looked, lows, lows_are, places-map}
use Rattle.aes_lanes.proofs.shuffles.by_halves.Goals as goal

pub look-low_bytes-requires : goal.look-low_bytes-requires
look-low_bytes-requires c = places-map low_half refl c.args.v _ c.requires (lows_are c.args.v c.requires)

pub look-high_bytes-requires : goal.look-high_bytes-requires
look-high_bytes-requires c = places-map high_half refl c.args.v _ c.requires (highs_are c.args.v c.requires)

pub returns : goal.returns
returns c =
    let v = c.args.v in
    zip2_of_maps bit_xor (λ x. byte_from c.args.low (low_half x)) (λ x. byte_from c.args.high (high_half x)) v
    (looked c.args.low v (lows v) _ low_half (lows_are v c.requires) c.look-low_bytes.ensures)
    (looked c.args.high v (highs v) _ high_half (highs_are v c.requires) c.look-high_bytes.ensures)
