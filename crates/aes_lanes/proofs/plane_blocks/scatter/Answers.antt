use Rattle.std.proofs.Common.{◌≡◌, ◌∙◌, ℕ, List, [], ◌∷◌, get_or, arith, lit<}
use Rattle.aes_lanes.specs.Planes.{block_of}
use Rattle.aes_lanes.specs.PlaneList.{list_of}
use Rattle.aes_lanes.proofs.PlaneBits.{each_block}
use Rattle.aes_lanes.proofs.PlaneBlocks.{lane_block-bytes}
use Rattle.aes_lanes.proofs.plane_blocks.scatter.Goals as goal

pub returns-clause-blocks : goal.returns-clause-blocks
unfolding block_of
returns-clause-blocks c =
    let s = c.args.s.now in
    let t = c.transposed-t.result in
    let law = c.transposed-t.ensures in
    let blocks : List (List ℕ) = c.first_block.result ∷ c.second_block.result ∷ c.first_block-2.result ∷ c.second_block-2.result ∷ c.first_block-3.result ∷ c.second_block-3.result ∷ c.first_block-4.result ∷ c.second_block-4.result ∷ c.first_block-5.result ∷ c.second_block-5.result ∷ c.first_block-6.result ∷ c.second_block-6.result ∷ c.first_block-7.result ∷ c.second_block-7.result ∷ c.first_block-8.result ∷ c.second_block-8.result ∷ [] in
    each_block (λ k. get_or blocks k [] ≡ block_of (list_of s) k)
    (c.first_block.ensures ∙ lane_block-bytes s.p0 s.p1 s.p2 s.p3 s.p4 s.p5 s.p6 s.p7 t.p0 0 0 (omega arith) (λ i p li lp. law p 0 i lp (lit< tt) li) t.plane0)
    (c.second_block.ensures ∙ lane_block-bytes s.p0 s.p1 s.p2 s.p3 s.p4 s.p5 s.p6 s.p7 t.p0 1 0 (omega arith) (λ i p li lp. law p 0 i lp (lit< tt) li) t.plane0)
    (c.first_block-2.ensures ∙ lane_block-bytes s.p0 s.p1 s.p2 s.p3 s.p4 s.p5 s.p6 s.p7 t.p1 0 1 (omega arith) (λ i p li lp. law p 1 i lp (lit< tt) li) t.plane1)
    (c.second_block-2.ensures ∙ lane_block-bytes s.p0 s.p1 s.p2 s.p3 s.p4 s.p5 s.p6 s.p7 t.p1 1 1 (omega arith) (λ i p li lp. law p 1 i lp (lit< tt) li) t.plane1)
    (c.first_block-3.ensures ∙ lane_block-bytes s.p0 s.p1 s.p2 s.p3 s.p4 s.p5 s.p6 s.p7 t.p2 0 2 (omega arith) (λ i p li lp. law p 2 i lp (lit< tt) li) t.plane2)
    (c.second_block-3.ensures ∙ lane_block-bytes s.p0 s.p1 s.p2 s.p3 s.p4 s.p5 s.p6 s.p7 t.p2 1 2 (omega arith) (λ i p li lp. law p 2 i lp (lit< tt) li) t.plane2)
    (c.first_block-4.ensures ∙ lane_block-bytes s.p0 s.p1 s.p2 s.p3 s.p4 s.p5 s.p6 s.p7 t.p3 0 3 (omega arith) (λ i p li lp. law p 3 i lp (lit< tt) li) t.plane3)
    (c.second_block-4.ensures ∙ lane_block-bytes s.p0 s.p1 s.p2 s.p3 s.p4 s.p5 s.p6 s.p7 t.p3 1 3 (omega arith) (λ i p li lp. law p 3 i lp (lit< tt) li) t.plane3)
    (c.first_block-5.ensures ∙ lane_block-bytes s.p0 s.p1 s.p2 s.p3 s.p4 s.p5 s.p6 s.p7 t.p4 0 4 (omega arith) (λ i p li lp. law p 4 i lp (lit< tt) li) t.plane4)
    (c.second_block-5.ensures ∙ lane_block-bytes s.p0 s.p1 s.p2 s.p3 s.p4 s.p5 s.p6 s.p7 t.p4 1 4 (omega arith) (λ i p li lp. law p 4 i lp (lit< tt) li) t.plane4)
    (c.first_block-6.ensures ∙ lane_block-bytes s.p0 s.p1 s.p2 s.p3 s.p4 s.p5 s.p6 s.p7 t.p5 0 5 (omega arith) (λ i p li lp. law p 5 i lp (lit< tt) li) t.plane5)
    (c.second_block-6.ensures ∙ lane_block-bytes s.p0 s.p1 s.p2 s.p3 s.p4 s.p5 s.p6 s.p7 t.p5 1 5 (omega arith) (λ i p li lp. law p 5 i lp (lit< tt) li) t.plane5)
    (c.first_block-7.ensures ∙ lane_block-bytes s.p0 s.p1 s.p2 s.p3 s.p4 s.p5 s.p6 s.p7 t.p6 0 6 (omega arith) (λ i p li lp. law p 6 i lp (lit< tt) li) t.plane6)
    (c.second_block-7.ensures ∙ lane_block-bytes s.p0 s.p1 s.p2 s.p3 s.p4 s.p5 s.p6 s.p7 t.p6 1 6 (omega arith) (λ i p li lp. law p 6 i lp (lit< tt) li) t.plane6)
    (c.first_block-8.ensures ∙ lane_block-bytes s.p0 s.p1 s.p2 s.p3 s.p4 s.p5 s.p6 s.p7 t.p7 0 7 (omega arith) (λ i p li lp. law p 7 i lp (lit< tt) li) t.plane7)
    (c.second_block-8.ensures ∙ lane_block-bytes s.p0 s.p1 s.p2 s.p3 s.p4 s.p5 s.p6 s.p7 t.p7 1 7 (omega arith) (λ i p li lp. law p 7 i lp (lit< tt) li) t.plane7)
