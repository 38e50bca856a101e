use Rattle.std.proofs.Common.{◌∙◌, ◌/◌, arith, bit_xor}
use Rattle.aes_lanes.specs.Planes.{block_of}
use Rattle.aes_lanes.proofs.Masks.{masked-all, length-block_of}
use Rattle.aes_lanes.specs.PlaneList.{list_of}
use Rattle.aes_lanes.proofs.PlaneBits.{block_of-map}
use Rattle.aes_lanes.proofs.Circuits.{IsPlane-gates, byte_at-gates, values, gates_63, sum63-by_gates, zeros, ones}
use Rattle.aes_lanes.proofs.plane_rounds.add_63.Goals as goal

pub invariant_of-result : goal.invariant_of-result
unfolding values gates_63 zeros ones
invariant_of-result c =
    let s = c.args.s.now in
    let plane = IsPlane-gates gates_63 3 2 9 8 7 1 0 4 (λ x. bit_xor x 0x63) sum63-by_gates s.p0 s.p1 s.p2 s.p3 s.p4 s.p5 s.p6 s.p7 s.plane0 s.plane1 s.plane2 s.plane3 s.plane4 s.plane5 s.plane6 s.plane7 in
    record { plane0 = plane 3; plane1 = plane 2; plane2 = plane 9; plane3 = plane 8; plane4 = plane 7; plane5 = plane 1; plane6 = plane 0; plane7 = plane 4 }

pub returns : goal.returns
unfolding values gates_63 zeros ones
returns c k lk =
    let s = c.args.s.now in
    block_of-map (λ x. bit_xor x 0x63) _ (list_of s) k (λ p lt.
    byte_at-gates gates_63 3 2 9 8 7 1 0 4 (λ x. bit_xor x 0x63) sum63-by_gates s.p0 s.p1 s.p2 s.p3 s.p4 s.p5 s.p6 s.p7 s.plane0 s.plane1 s.plane2 s.plane3 s.plane4 s.plane5 s.plane6 s.plane7 (k / 2) p (omega arith) lt)
    ∙ masked-all (block_of (list_of s) k) (length-block_of (list_of s) k)
