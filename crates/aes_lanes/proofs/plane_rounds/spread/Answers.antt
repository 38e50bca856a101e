use Rattle.aes_lanes.proofs.Circuits.{values, zeros}
use Rattle.aes_lanes.proofs.PlaneUnmix.{IsPlane-spread, block_of-spread, spread_gates}
use Rattle.aes_lanes.proofs.plane_rounds.spread.Goals as goal

pub invariant_of-result : goal.invariant_of-result
unfolding values spread_gates zeros
invariant_of-result c =
    let s = c.args.s.now in
    let plane = IsPlane-spread s.p0 s.p1 s.p2 s.p3 s.p4 s.p5 s.p6 s.p7 s.plane0 s.plane1 s.plane2 s.plane3 s.plane4 s.plane5 s.plane6 s.plane7 in
    record { plane0 = plane 7; plane1 = plane 6; plane2 = plane 5; plane3 = plane 4; plane4 = plane 3; plane5 = plane 2; plane6 = plane 1; plane7 = plane 0 }

pub returns : goal.returns
unfolding values spread_gates zeros
returns c k =
    let s = c.args.s.now in
    block_of-spread s.p0 s.p1 s.p2 s.p3 s.p4 s.p5 s.p6 s.p7 s.plane0 s.plane1 s.plane2 s.plane3 s.plane4 s.plane5 s.plane6 s.plane7 k
