use Rattle.std.proofs.Common.{◌≡◌, [], get_or, arith, lit<, slice_index}
use Rattle.aes_lanes.specs.Planes.{block_of, place}
use Rattle.aes_lanes.specs.PlaneList.{list_of}
use Rattle.aes_lanes.proofs.PlaneBits.{each_block}
use Rattle.aes_lanes.proofs.PlaneBlocks.{in_first_lane, lane_block-column}
use Rattle.aes_lanes.proofs.plane_blocks.gather.Goals as goal

pub returns : goal.returns
unfolding block_of
returns c =
    let t = c.transposed.result in
    let law = c.transposed.ensures in
    let block = lane_block-column t.p0 t.p1 t.p2 t.p3 t.p4 t.p5 t.p6 t.p7 in
    each_block (λ k. block_of (list_of t) k ≡ get_or c.args.blocks.now k [])
    (block _ _ 0 0 (omega arith) (λ i p li lp. law p i 0 lp li (lit< tt)) c.by_rows.ensures.plane (in_first_lane _ (λ p. slice_index _ (place p)) c.by_rows.ensures.first) c.by_rows.ensures.first_length)
    (block _ _ 1 0 (omega arith) (λ i p li lp. law p i 0 lp li (lit< tt)) c.by_rows.ensures.plane c.by_rows.ensures.second c.by_rows.ensures.second_length)
    (block _ _ 0 1 (omega arith) (λ i p li lp. law p i 1 lp li (lit< tt)) c.by_rows-2.ensures.plane (in_first_lane _ (λ p. slice_index _ (place p)) c.by_rows-2.ensures.first) c.by_rows-2.ensures.first_length)
    (block _ _ 1 1 (omega arith) (λ i p li lp. law p i 1 lp li (lit< tt)) c.by_rows-2.ensures.plane c.by_rows-2.ensures.second c.by_rows-2.ensures.second_length)
    (block _ _ 0 2 (omega arith) (λ i p li lp. law p i 2 lp li (lit< tt)) c.by_rows-3.ensures.plane (in_first_lane _ (λ p. slice_index _ (place p)) c.by_rows-3.ensures.first) c.by_rows-3.ensures.first_length)
    (block _ _ 1 2 (omega arith) (λ i p li lp. law p i 2 lp li (lit< tt)) c.by_rows-3.ensures.plane c.by_rows-3.ensures.second c.by_rows-3.ensures.second_length)
    (block _ _ 0 3 (omega arith) (λ i p li lp. law p i 3 lp li (lit< tt)) c.by_rows-4.ensures.plane (in_first_lane _ (λ p. slice_index _ (place p)) c.by_rows-4.ensures.first) c.by_rows-4.ensures.first_length)
    (block _ _ 1 3 (omega arith) (λ i p li lp. law p i 3 lp li (lit< tt)) c.by_rows-4.ensures.plane c.by_rows-4.ensures.second c.by_rows-4.ensures.second_length)
    (block _ _ 0 4 (omega arith) (λ i p li lp. law p i 4 lp li (lit< tt)) c.by_rows-5.ensures.plane (in_first_lane _ (λ p. slice_index _ (place p)) c.by_rows-5.ensures.first) c.by_rows-5.ensures.first_length)
    (block _ _ 1 4 (omega arith) (λ i p li lp. law p i 4 lp li (lit< tt)) c.by_rows-5.ensures.plane c.by_rows-5.ensures.second c.by_rows-5.ensures.second_length)
    (block _ _ 0 5 (omega arith) (λ i p li lp. law p i 5 lp li (lit< tt)) c.by_rows-6.ensures.plane (in_first_lane _ (λ p. slice_index _ (place p)) c.by_rows-6.ensures.first) c.by_rows-6.ensures.first_length)
    (block _ _ 1 5 (omega arith) (λ i p li lp. law p i 5 lp li (lit< tt)) c.by_rows-6.ensures.plane c.by_rows-6.ensures.second c.by_rows-6.ensures.second_length)
    (block _ _ 0 6 (omega arith) (λ i p li lp. law p i 6 lp li (lit< tt)) c.by_rows-7.ensures.plane (in_first_lane _ (λ p. slice_index _ (place p)) c.by_rows-7.ensures.first) c.by_rows-7.ensures.first_length)
    (block _ _ 1 6 (omega arith) (λ i p li lp. law p i 6 lp li (lit< tt)) c.by_rows-7.ensures.plane c.by_rows-7.ensures.second c.by_rows-7.ensures.second_length)
    (block _ _ 0 7 (omega arith) (λ i p li lp. law p i 7 lp li (lit< tt)) c.by_rows-8.ensures.plane (in_first_lane _ (λ p. slice_index _ (place p)) c.by_rows-8.ensures.first) c.by_rows-8.ensures.first_length)
    (block _ _ 1 7 (omega arith) (λ i p li lp. law p i 7 lp li (lit< tt)) c.by_rows-8.ensures.plane c.by_rows-8.ensures.second c.by_rows-8.ensures.second_length)
