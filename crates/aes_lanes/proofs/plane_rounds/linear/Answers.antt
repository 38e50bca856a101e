use Rattle.std.proofs.Common.{bit_xor}
use Rattle.aes_lanes.specs.Field.{inverse_affine_map}
use Rattle.aes_lanes.proofs.Circuits.{IsPlane-gates, byte_at-gates, values, linear_gates, linear-by_gates, zeros, ones}
use Rattle.aes_lanes.proofs.plane_rounds.linear.Goals as goal

pub invariant_of-result : goal.invariant_of-result
unfolding values linear_gates zeros ones
invariant_of-result c =
    let s = c.args.s.now in
    let plane = IsPlane-gates linear_gates 14 12 10 8 6 4 2 0 (λ x. bit_xor (inverse_affine_map x) 0x05) linear-by_gates s.p0 s.p1 s.p2 s.p3 s.p4 s.p5 s.p6 s.p7 s.plane0 s.plane1 s.plane2 s.plane3 s.plane4 s.plane5 s.plane6 s.plane7 in
    record { plane0 = plane 14; plane1 = plane 12; plane2 = plane 10; plane3 = plane 8; plane4 = plane 6; plane5 = plane 4; plane6 = plane 2; plane7 = plane 0 }

pub returns : goal.returns
unfolding values linear_gates zeros ones
returns c =
    let s = c.args.s.now in
    byte_at-gates linear_gates 14 12 10 8 6 4 2 0 (λ x. bit_xor (inverse_affine_map x) 0x05) linear-by_gates s.p0 s.p1 s.p2 s.p3 s.p4 s.p5 s.p6 s.p7 s.plane0 s.plane1 s.plane2 s.plane3 s.plane4 s.plane5 s.plane6 s.plane7
