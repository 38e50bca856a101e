use Rattle.std.proofs.Common.{◌≡◌, ℕ, List, [], ◌∷◌, get_or}
use Rattle.aes_lanes.specs.Planes.{bit, low_bits, high_bits}
use Rattle.aes_lanes.specs.PlaneList.{list_of}
use Rattle.aes_lanes.proofs.PlaneBits.{eight}
use Rattle.aes_lanes.proofs.PlaneBlocks.{bit-row, three_steps}
use Rattle.aes_lanes.proofs.plane_blocks.transposed.Goals as goal

pub returns : goal.returns
unfolding low_bits high_bits
returns c p i k lt li lk =
    let s = c.args.s.now in
    let new : List (List ℕ) = c.exchanged4-c04.result.low ∷ c.exchanged4-c15.result.low ∷ c.exchanged4-c26.result.low ∷ c.exchanged4-c37.result.low ∷ c.exchanged4-c04.result.high ∷ c.exchanged4-c15.result.high ∷ c.exchanged4-c26.result.high ∷ c.exchanged4-c37.result.high ∷ [] in
    eight (λ n. bit p k (get_or new n []) ≡ bit p n (get_or (list_of s) k []))
    (bit-row p 0 _ s.p0 s.p1 s.p2 s.p3 s.p4 s.p5 s.p6 s.p7
    (three_steps (low_bits 4) (low_bits 2) (low_bits 1) p _ _ _ _ _ _ _ s.p0 s.p1 s.p2 s.p3 s.p4 s.p5 s.p6 s.p7
    (c.exchanged4-c04.ensures.low p lt) (c.exchanged2-b02.ensures.low p lt) (c.exchanged2-b46.ensures.low p lt) (c.exchanged1-a01.ensures.low p lt) (c.exchanged1-a23.ensures.low p lt) (c.exchanged1-a45.ensures.low p lt) (c.exchanged1-a67.ensures.low p lt)) k lk)
    (bit-row p 1 _ s.p0 s.p1 s.p2 s.p3 s.p4 s.p5 s.p6 s.p7
    (three_steps (low_bits 4) (low_bits 2) (high_bits 1) p _ _ _ _ _ _ _ s.p0 s.p1 s.p2 s.p3 s.p4 s.p5 s.p6 s.p7
    (c.exchanged4-c15.ensures.low p lt) (c.exchanged2-b13.ensures.low p lt) (c.exchanged2-b57.ensures.low p lt) (c.exchanged1-a01.ensures.high p lt) (c.exchanged1-a23.ensures.high p lt) (c.exchanged1-a45.ensures.high p lt) (c.exchanged1-a67.ensures.high p lt)) k lk)
    (bit-row p 2 _ s.p0 s.p1 s.p2 s.p3 s.p4 s.p5 s.p6 s.p7
    (three_steps (low_bits 4) (high_bits 2) (low_bits 1) p _ _ _ _ _ _ _ s.p0 s.p1 s.p2 s.p3 s.p4 s.p5 s.p6 s.p7
    (c.exchanged4-c26.ensures.low p lt) (c.exchanged2-b02.ensures.high p lt) (c.exchanged2-b46.ensures.high p lt) (c.exchanged1-a01.ensures.low p lt) (c.exchanged1-a23.ensures.low p lt) (c.exchanged1-a45.ensures.low p lt) (c.exchanged1-a67.ensures.low p lt)) k lk)
    (bit-row p 3 _ s.p0 s.p1 s.p2 s.p3 s.p4 s.p5 s.p6 s.p7
    (three_steps (low_bits 4) (high_bits 2) (high_bits 1) p _ _ _ _ _ _ _ s.p0 s.p1 s.p2 s.p3 s.p4 s.p5 s.p6 s.p7
    (c.exchanged4-c37.ensures.low p lt) (c.exchanged2-b13.ensures.high p lt) (c.exchanged2-b57.ensures.high p lt) (c.exchanged1-a01.ensures.high p lt) (c.exchanged1-a23.ensures.high p lt) (c.exchanged1-a45.ensures.high p lt) (c.exchanged1-a67.ensures.high p lt)) k lk)
    (bit-row p 4 _ s.p0 s.p1 s.p2 s.p3 s.p4 s.p5 s.p6 s.p7
    (three_steps (high_bits 4) (low_bits 2) (low_bits 1) p _ _ _ _ _ _ _ s.p0 s.p1 s.p2 s.p3 s.p4 s.p5 s.p6 s.p7
    (c.exchanged4-c04.ensures.high p lt) (c.exchanged2-b02.ensures.low p lt) (c.exchanged2-b46.ensures.low p lt) (c.exchanged1-a01.ensures.low p lt) (c.exchanged1-a23.ensures.low p lt) (c.exchanged1-a45.ensures.low p lt) (c.exchanged1-a67.ensures.low p lt)) k lk)
    (bit-row p 5 _ s.p0 s.p1 s.p2 s.p3 s.p4 s.p5 s.p6 s.p7
    (three_steps (high_bits 4) (low_bits 2) (high_bits 1) p _ _ _ _ _ _ _ s.p0 s.p1 s.p2 s.p3 s.p4 s.p5 s.p6 s.p7
    (c.exchanged4-c15.ensures.high p lt) (c.exchanged2-b13.ensures.low p lt) (c.exchanged2-b57.ensures.low p lt) (c.exchanged1-a01.ensures.high p lt) (c.exchanged1-a23.ensures.high p lt) (c.exchanged1-a45.ensures.high p lt) (c.exchanged1-a67.ensures.high p lt)) k lk)
    (bit-row p 6 _ s.p0 s.p1 s.p2 s.p3 s.p4 s.p5 s.p6 s.p7
    (three_steps (high_bits 4) (high_bits 2) (low_bits 1) p _ _ _ _ _ _ _ s.p0 s.p1 s.p2 s.p3 s.p4 s.p5 s.p6 s.p7
    (c.exchanged4-c26.ensures.high p lt) (c.exchanged2-b02.ensures.high p lt) (c.exchanged2-b46.ensures.high p lt) (c.exchanged1-a01.ensures.low p lt) (c.exchanged1-a23.ensures.low p lt) (c.exchanged1-a45.ensures.low p lt) (c.exchanged1-a67.ensures.low p lt)) k lk)
    (bit-row p 7 _ s.p0 s.p1 s.p2 s.p3 s.p4 s.p5 s.p6 s.p7
    (three_steps (high_bits 4) (high_bits 2) (high_bits 1) p _ _ _ _ _ _ _ s.p0 s.p1 s.p2 s.p3 s.p4 s.p5 s.p6 s.p7
    (c.exchanged4-c37.ensures.high p lt) (c.exchanged2-b13.ensures.high p lt) (c.exchanged2-b57.ensures.high p lt) (c.exchanged1-a01.ensures.high p lt) (c.exchanged1-a23.ensures.high p lt) (c.exchanged1-a45.ensures.high p lt) (c.exchanged1-a67.ensures.high p lt)) k lk)
    i li
