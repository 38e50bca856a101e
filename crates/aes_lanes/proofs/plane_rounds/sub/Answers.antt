use Rattle.std.proofs.Common.{◌∙◌, ◌/◌, arith, bit_xor}
use Rattle.aes_lanes.specs.Field.{sbox}
use Rattle.aes_lanes.specs.Planes.{block_of}
use Rattle.aes_lanes.specs.PlaneList.{list_of}
use Rattle.aes_lanes.proofs.PlaneBits.{block_of-map}
use Rattle.aes_lanes.proofs.Masks.{masked-sub, length-block_of}
use Rattle.aes_lanes.proofs.plane_rounds.sub.Goals as goal

pub returns : goal.returns
returns c k lk =
    let s = list_of c.args.s.now in
    block_of-map (λ x. bit_xor (sbox x) 0x63) _ s k (λ p lt. c.gates.ensures (k / 2) p (omega arith) lt)
    ∙ masked-sub (block_of s k) (length-block_of s k)
