use Rattle.std.proofs.Common.{◌≡◌, ◌∙◌, ◌+◌, ◌-◌, ◌%◌, ◌^◌, ℕ, bit_and, bit_xor, map, replicate}
use Rattle.std.proofs.lemmas.Simd.{splat_is_map, zip2_of_maps}
use Rattle.aes_lanes.specs.Field.{multiply}
use Rattle.aes_lanes.proofs.LaneSteps.{map-agree, map-itself}
use Rattle.aes_lanes.proofs.PlaneBlocks.{lane_bytes}
use Rattle.aes_lanes.proofs.BlockSteps.{doubled_lane, doubled_lane-is}
use Rattle.aes_lanes.proofs.rounds.doubled.Goals as goal

pub returns : goal.returns
unfolding doubled_lane
returns c =
    let v = c.args.v in
    let lanes = map-itself v in
    let each : (n : ℕ) → replicate 16 n ≡ map (λ _. n) v = λ n. splat_is_map v 16 n c.fits-v.0 in
    zip2_of_maps bit_xor _ _ v (zip2_of_maps (λ (a b : ℕ). (a + b) % 2 ^ 8) _ _ v lanes lanes)
    (zip2_of_maps bit_and _ _ v (zip2_of_maps (λ (a b : ℕ). (a + (2 ^ 8 - b)) % 2 ^ 8) _ _ v (each 0) (zip2_of_maps _ _ _ v lanes (each 7))) (each 0x1b))
    ∙ map-agree doubled_lane (multiply 2) doubled_lane-is v (lane_bytes v c.fits-v.1)
