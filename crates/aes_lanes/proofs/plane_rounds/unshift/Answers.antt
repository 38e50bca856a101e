use Rattle.std.proofs.Common.{refl}
use Rattle.aes_lanes.specs.Rounds.{inverse_shift_rows}
use Rattle.aes_lanes.proofs.PlaneMoves.{unshift, IsPlane-moved, block_of-rows}
use Rattle.aes_lanes.proofs.plane_rounds.unshift.Goals as goal

pub invariant_of-result : goal.invariant_of-result
invariant_of-result c =
    let s = c.args.s.now in
    let plane = IsPlane-moved unshift refl tt in
    record { plane0 = plane s.p0 s.plane0; plane1 = plane s.p1 s.plane1; plane2 = plane s.p2 s.plane2; plane3 = plane s.p3 s.plane3; plane4 = plane s.p4 s.plane4; plane5 = plane s.p5 s.plane5; plane6 = plane s.p6 s.plane6; plane7 = plane s.p7 s.plane7 }

pub returns : goal.returns
unfolding inverse_shift_rows
returns c k =
    let s = c.args.s.now in
    block_of-rows unshift refl tt inverse_shift_rows (λ f. refl) (λ f. refl) s.p0 s.p1 s.p2 s.p3 s.p4 s.p5 s.p6 s.p7 s.plane0 s.plane1 s.plane2 s.plane3 s.plane4 s.plane5 s.plane6 s.plane7 k
