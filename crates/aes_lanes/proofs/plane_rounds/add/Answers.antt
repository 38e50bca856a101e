use Rattle.aes_lanes.proofs.PlaneBits.{IsPlane-sum}
use Rattle.aes_lanes.proofs.PlaneMoves.{block_of-sum}
use Rattle.aes_lanes.proofs.plane_rounds.add.Goals as goal

pub invariant_of-result : goal.invariant_of-result
invariant_of-result c =
    let s = c.args.s.now in
    let t = c.args.key.now in
    record { plane0 = IsPlane-sum s.p0 t.p0 s.plane0 t.plane0; plane1 = IsPlane-sum s.p1 t.p1 s.plane1 t.plane1; plane2 = IsPlane-sum s.p2 t.p2 s.plane2 t.plane2; plane3 = IsPlane-sum s.p3 t.p3 s.plane3 t.plane3; plane4 = IsPlane-sum s.p4 t.p4 s.plane4 t.plane4; plane5 = IsPlane-sum s.p5 t.p5 s.plane5 t.plane5; plane6 = IsPlane-sum s.p6 t.p6 s.plane6 t.plane6; plane7 = IsPlane-sum s.p7 t.p7 s.plane7 t.plane7 }

pub returns : goal.returns
returns c k =
    let s = c.args.s.now in
    let t = c.args.key.now in
    block_of-sum s.p0 s.p1 s.p2 s.p3 s.p4 s.p5 s.p6 s.p7 t.p0 t.p1 t.p2 t.p3 t.p4 t.p5 t.p6 t.p7
    s.plane0 s.plane1 s.plane2 s.plane3 s.plane4 s.plane5 s.plane6 s.plane7
    t.plane0 t.plane1 t.plane2 t.plane3 t.plane4 t.plane5 t.plane6 t.plane7 k
