use Rattle.std.proofs.Common.{◌∙◌}
use Rattle.std.proofs.lemmas.Simd.{zip2_of_maps, splat_is_map}
use Rattle.aes_lanes.specs.Field.{xtimes}
use Rattle.aes_lanes.proofs.LaneSteps.{map-agree, map-itself, times_x_lane, times_x_lane-is}
use Rattle.aes_lanes.proofs.lanes.xtimes.Goals as goal

pub returns : goal.returns
unfolding times_x_lane
returns c =
    let v = c.args.v in
    let long = c.requires.sixty_four in
    let lanes = map-itself v in
    zip2_of_maps _ _ _ v
    (zip2_of_maps _ _ _ v lanes (splat_is_map v 64 1 long))
    (zip2_of_maps _ _ _ v (zip2_of_maps _ _ _ v lanes (splat_is_map v 64 7 long)) (splat_is_map v 64 0x1b long))
    ∙ map-agree times_x_lane xtimes times_x_lane-is v c.requires.bytes
