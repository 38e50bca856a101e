use Rattle.std.proofs.Common.{◌≡◌, ◌∙◌, ℕ, map, replicate}
use Rattle.std.proofs.lemmas.Simd.{zip2_of_maps, splat_is_map}
use Rattle.aes_lanes.specs.Field.{affine_map}
use Rattle.aes_lanes.proofs.LaneSteps.{map-agree, map-itself, mapped_lane, mapped_lane-is}
use Rattle.aes_lanes.proofs.lanes.affine_map.Goals as goal

pub returns : goal.returns
unfolding mapped_lane
returns c =
    let v = c.args.v in
    let lanes = map-itself v in
    let each : (n : ℕ) → replicate 64 n ≡ map (λ _. n) v = λ n. splat_is_map v 64 n c.requires.sixty_four in
    zip2_of_maps _ _ _ v
    (zip2_of_maps _ _ _ v
    (zip2_of_maps _ _ _ v
    (zip2_of_maps _ _ _ v
    (zip2_of_maps _ _ _ v lanes
    (zip2_of_maps _ _ _ v (zip2_of_maps _ _ _ v lanes (each 4)) (zip2_of_maps _ _ _ v lanes (each 4))))
    (zip2_of_maps _ _ _ v (zip2_of_maps _ _ _ v lanes (each 3)) (zip2_of_maps _ _ _ v lanes (each 5))))
    (zip2_of_maps _ _ _ v (zip2_of_maps _ _ _ v lanes (each 2)) (zip2_of_maps _ _ _ v lanes (each 6))))
    (zip2_of_maps _ _ _ v (zip2_of_maps _ _ _ v lanes (each 1)) (zip2_of_maps _ _ _ v lanes (each 7))))
    (each 0x63)
    ∙ map-agree mapped_lane affine_map mapped_lane-is v c.requires.bytes
