use Rattle.std.proofs.Common.{◌≡◌, ◌∙◌, ℕ, map, replicate}
use Rattle.std.proofs.lemmas.Simd.{zip2_of_maps, splat_is_map}
use Rattle.aes_lanes.specs.Field.{inverse_affine_map}
use Rattle.aes_lanes.proofs.LaneSteps.{map-agree, map-itself, unmapped_lane, unmapped_lane-is}
use Rattle.aes_lanes.proofs.lanes.inverse_affine_map.Goals as goal

pub returns : goal.returns
unfolding unmapped_lane
returns c =
    let v = c.args.v in
    let lanes = map-itself v in
    let each : (n : ℕ) → replicate 64 n ≡ map (λ _. n) v = λ n. splat_is_map v 64 n c.requires.sixty_four in
    zip2_of_maps _ _ _ v
    (zip2_of_maps _ _ _ v
    (zip2_of_maps _ _ _ v
    (zip2_of_maps _ _ _ v (zip2_of_maps _ _ _ v lanes (each 6)) (zip2_of_maps _ _ _ v lanes (each 2)))
    (zip2_of_maps _ _ _ v (zip2_of_maps _ _ _ v lanes (each 3)) (zip2_of_maps _ _ _ v lanes (each 5))))
    (zip2_of_maps _ _ _ v (zip2_of_maps _ _ _ v lanes (each 1)) (zip2_of_maps _ _ _ v lanes (each 7))))
    (each 0x05)
    ∙ map-agree unmapped_lane inverse_affine_map unmapped_lane-is v c.requires.bytes
