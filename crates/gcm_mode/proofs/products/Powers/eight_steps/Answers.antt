use Rattle.std.proofs.Common.{bit_xor, ap, ap₂, ◌∙◌, arith, lit<}
use lib.Bits.{xor_zero_l}
use Rattle.gcm_mode.specs.Hash.{block_number, blocks_of}
use Rattle.gcm_mode.specs.Private.{ghash_from}
use Rattle.gcm_mode.proofs.Lanes.{IsBlock-splat, IsPair-sum, block_number-lt, block_number-none, lane-sum}
use Rattle.gcm_mode.proofs.Weighed.{block_at, eight-weighed, ghash-eight, lane-loaded}
use Rattle.gcm_mode.proofs.products.Powers.eight_steps.Goals as goal

pub of_two-before-requires : goal.of_two-before-requires
of_two-before-requires c = record { first = c.requires.hash; second = IsBlock-splat 0 (lit< tt) }

pub nibbles_of-requires : goal.nibbles_of-requires
nibbles_of-requires c = IsPair-sum _ _ c.of_two-before.ensures.pair c.loaded-first.ensures.pair

pub returns-clause-steps : goal.returns-clause-steps
returns-clause-steps c =
    let bytes = c.args.bytes.now in
    let before = c.of_two-before in
    let first = c.loaded-first in
    let second = c.loaded-second.ensures in
    let third = c.loaded-third.ensures in
    let fourth = c.loaded-fourth.ensures in
    let a = c.nibbles_of in
    let b = c.nibbles_of-2 in
    let d = c.nibbles_of-3 in
    let e = c.nibbles_of-4 in
    let sums = c.sum_of_products-sum.ensures.lanes in
    c.sum_of_two.ensures.sum ∙ ap₂ bit_xor (sums 0 (omega arith)) (sums 1 (omega arith))
    ∙ eight-weighed _ _ a.result b.result d.result e.result c.self.invariant.powers
    ∙ ghash-eight _ (block_number c.args.hash) bytes _ _ _ _ _ _ _ _ (block_number-lt _ c.self.invariant.block) c.requires.eight
    (a.ensures 0 (omega arith) ∙ lane-sum 0 before.result first.result (omega arith) before.ensures.pair first.ensures.pair
    ∙ ap₂ bit_xor before.ensures.first_lane (lane-loaded bytes first.result 0 0 0 (omega arith) (omega arith) first.ensures.each))
    (a.ensures 1 (omega arith) ∙ lane-sum 1 before.result first.result (omega arith) before.ensures.pair first.ensures.pair
    ∙ ap₂ bit_xor (before.ensures.second_lane ∙ block_number-none) (lane-loaded bytes first.result 0 1 1 (omega arith) (omega arith) first.ensures.each)
    ∙ xor_zero_l (block_at bytes 1))
    (b.ensures 0 (omega arith) ∙ lane-loaded bytes _ 32 2 0 (omega arith) (omega arith) second.each)
    (b.ensures 1 (omega arith) ∙ lane-loaded bytes _ 32 3 1 (omega arith) (omega arith) second.each)
    (d.ensures 0 (omega arith) ∙ lane-loaded bytes _ 64 4 0 (omega arith) (omega arith) third.each)
    (d.ensures 1 (omega arith) ∙ lane-loaded bytes _ 64 5 1 (omega arith) (omega arith) third.each)
    (e.ensures 0 (omega arith) ∙ lane-loaded bytes _ 96 6 0 (omega arith) (omega arith) fourth.each)
    (e.ensures 1 (omega arith) ∙ lane-loaded bytes _ 96 7 1 (omega arith) (omega arith) fourth.each)
    ∙ ap (λ h. ghash_from h (block_number c.args.hash) (blocks_of bytes)) c.self.view_is
