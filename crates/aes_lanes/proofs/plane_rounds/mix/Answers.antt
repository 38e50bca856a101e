use Rattle.aes_lanes.proofs.PlaneMoves.{IsPlane-mixed, IsPlane-paired, IsPlane-doubled, block_of-mix}
use Rattle.aes_lanes.proofs.plane_rounds.mix.Goals as goal

pub invariant_of-result : goal.invariant_of-result
invariant_of-result c =
    let s = c.args.s.now in
    record {
      plane0 = IsPlane-mixed _ s.p0 (IsPlane-paired s.p7 s.plane7) s.plane0;
      plane1 = IsPlane-mixed _ s.p1 (IsPlane-doubled s.p0 s.p7 s.plane0 s.plane7) s.plane1;
      plane2 = IsPlane-mixed _ s.p2 (IsPlane-paired s.p1 s.plane1) s.plane2;
      plane3 = IsPlane-mixed _ s.p3 (IsPlane-doubled s.p2 s.p7 s.plane2 s.plane7) s.plane3;
      plane4 = IsPlane-mixed _ s.p4 (IsPlane-doubled s.p3 s.p7 s.plane3 s.plane7) s.plane4;
      plane5 = IsPlane-mixed _ s.p5 (IsPlane-paired s.p4 s.plane4) s.plane5;
      plane6 = IsPlane-mixed _ s.p6 (IsPlane-paired s.p5 s.plane5) s.plane6;
      plane7 = IsPlane-mixed _ s.p7 (IsPlane-paired s.p6 s.plane6) s.plane7;
    }

pub returns : goal.returns
returns c k =
    let s = c.args.s.now in
    block_of-mix s.p0 s.p1 s.p2 s.p3 s.p4 s.p5 s.p6 s.p7 s.plane0 s.plane1 s.plane2 s.plane3 s.plane4 s.plane5 s.plane6 s.plane7 k
