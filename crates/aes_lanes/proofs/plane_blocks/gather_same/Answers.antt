use Rattle.std.proofs.Common.{◌≡◌, ℕ, ◌<◌, ◌%◌, ◌/◌, List, [], ◌∷◌, get_or, arith}
use Rattle.aes_lanes.specs.Planes.{bit, block_of}
use Rattle.aes_lanes.proofs.PlaneBits.{bit-lt, eight}
use Rattle.aes_lanes.proofs.PlaneBlocks.{lane_block-column}
use Rattle.aes_lanes.proofs.PlaneCopies.{in_each_lane}
use Rattle.aes_lanes.proofs.plane_blocks.gather_same.Goals as goal

pub returns : goal.returns
unfolding block_of
returns c k lt =
    let both = c.by_rows-both in
    let planes : List (List ℕ) = c.repeated.result ∷ c.repeated-2.result ∷ c.repeated-3.result ∷ c.repeated-4.result ∷ c.repeated-5.result ∷ c.repeated-6.result ∷ c.repeated-7.result ∷ c.repeated-8.result ∷ [] in
    let few : k / 2 < 8 = omega arith in
    lane_block-column c.repeated.result c.repeated-2.result c.repeated-3.result c.repeated-4.result c.repeated-5.result c.repeated-6.result c.repeated-7.result c.repeated-8.result
    both.result c.args.block.now (k % 2) (k / 2) (bit-lt k)
    (λ i p li lp. eight (λ n. bit p (k / 2) (get_or planes n []) ≡ bit p n both.result)
    (c.repeated.ensures.bits p (k / 2) lp few) (c.repeated-2.ensures.bits p (k / 2) lp few) (c.repeated-3.ensures.bits p (k / 2) lp few) (c.repeated-4.ensures.bits p (k / 2) lp few)
    (c.repeated-5.ensures.bits p (k / 2) lp few) (c.repeated-6.ensures.bits p (k / 2) lp few) (c.repeated-7.ensures.bits p (k / 2) lp few) (c.repeated-8.ensures.bits p (k / 2) lp few) i li)
    both.ensures.plane (in_each_lane both.result c.args.block.now both.ensures.first both.ensures.second (k % 2) (bit-lt k)) both.ensures.first_length
