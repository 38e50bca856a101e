use Rattle.std.proofs.Common.{ap, ◌∙◌, ◌/◌, arith, bit_xor}
use Rattle.aes_lanes.specs.Field.{inverse_affine_map, inverse_sbox, sbox}
use Rattle.aes_lanes.specs.Rounds.{inverse_sub_bytes}
use Rattle.aes_lanes.specs.Planes.{byte_at}
use Rattle.aes_lanes.specs.PlaneList.{list_of}
use Rattle.aes_lanes.proofs.PlaneBits.{block_of-map, byte_at-lt}
use Rattle.aes_lanes.proofs.Circuits.{unsbox-by_sbox}
use Rattle.aes_lanes.proofs.plane_rounds.unsub.Goals as goal

pub returns : goal.returns
unfolding inverse_sub_bytes
returns c k lk =
    let s = c.args.s.now in
    block_of-map inverse_sbox _ _ k (λ p lt.
    c.linear.ensures (k / 2) p (omega arith) lt
    ∙ ap (λ x. bit_xor (inverse_affine_map x) 0x05) (c.gates.ensures (k / 2) p (omega arith) lt ∙ ap (λ x. bit_xor (sbox x) 0x63) (c.unmapped.ensures (k / 2) p (omega arith) lt))
    ∙ unsbox-by_sbox (byte_at (list_of s) (k / 2) p) (byte_at-lt s.p0 s.p1 s.p2 s.p3 s.p4 s.p5 s.p6 s.p7 (k / 2) p))
