use Rattle.std.proofs.Common.{lit<}
use Rattle.aes_lanes.proofs.PlaneBits.{IsPlane-splat}
use Rattle.aes_lanes.proofs.planes.no_planes.Goals as goal

pub invariant_of-result : goal.invariant_of-result
invariant_of-result c =
    let plane = IsPlane-splat 0 (lit< tt) in
    record { plane0 = plane; plane1 = plane; plane2 = plane; plane3 = plane; plane4 = plane; plane5 = plane; plane6 = plane; plane7 = plane }
