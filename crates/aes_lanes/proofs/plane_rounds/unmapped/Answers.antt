use Rattle.std.proofs.Common.{ap, ◌∙◌, bit_xor}
use Rattle.aes_lanes.specs.Field.{inverse_affine_map}
use Rattle.aes_lanes.specs.Laws.Sums.{bit_xor-twice}
use Rattle.aes_lanes.specs.Planes.{byte_at}
use Rattle.aes_lanes.specs.PlaneList.{list_of}
use Rattle.aes_lanes.proofs.Circuits.{IsPlane-gates, byte_at-gates, values, gates_05, sum05-by_gates, zeros, ones}
use Rattle.aes_lanes.proofs.plane_rounds.unmapped.Goals as goal

pub invariant_of-result : goal.invariant_of-result
unfolding values gates_05 zeros ones
invariant_of-result c =
    let s = c.linear-l.result in
    let plane = IsPlane-gates gates_05 1 8 0 6 5 4 3 2 (λ x. bit_xor x 0x05) sum05-by_gates s.p0 s.p1 s.p2 s.p3 s.p4 s.p5 s.p6 s.p7 s.plane0 s.plane1 s.plane2 s.plane3 s.plane4 s.plane5 s.plane6 s.plane7 in
    record { plane0 = plane 1; plane1 = plane 8; plane2 = plane 0; plane3 = plane 6; plane4 = plane 5; plane5 = plane 4; plane6 = plane 3; plane7 = plane 2 }

pub returns : goal.returns
unfolding values gates_05 zeros ones
returns c k p lk lt =
    let l = c.linear-l.result in
    byte_at-gates gates_05 1 8 0 6 5 4 3 2 (λ x. bit_xor x 0x05) sum05-by_gates l.p0 l.p1 l.p2 l.p3 l.p4 l.p5 l.p6 l.p7 l.plane0 l.plane1 l.plane2 l.plane3 l.plane4 l.plane5 l.plane6 l.plane7 k p lk lt
    ∙ ap (λ x. bit_xor x 0x05) (c.linear-l.ensures k p lk lt) ∙ bit_xor-twice (inverse_affine_map (byte_at (list_of c.args.s.now) k p)) 0x05
