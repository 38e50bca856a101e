use Rattle.std.proofs.Common.{ℕ, bit_xor, ap, ap₂, ◌∙◌, arith}
use Rattle.gcm_mode.specs.Field.{product}
use Rattle.gcm_mode.specs.Hash.{block_number}
use Rattle.gcm_mode.proofs.Lanes.{IsBlock-sum, block_number-lt, block_number-sum}
use Rattle.gcm_mode.proofs.Weighed.{two-weighed}
use Rattle.gcm_mode.proofs.products.Powers.two_steps.Goals as goal

pub of_two-requires-clause-first : goal.of_two-requires-clause-first
of_two-requires-clause-first c = IsBlock-sum c.args.hash c.args.first c.requires.hash c.requires.first

pub returns-clause-steps : goal.returns-clause-steps
returns-clause-steps c =
    let h : ℕ = block_number c.self.inside.subkey in
    let sums = c.products-sum.ensures.lanes in
    let x : ℕ = bit_xor (block_number c.args.hash) (block_number c.args.first) in
    let y : ℕ = block_number c.args.second in
    let first = c.of_two.ensures.first_lane ∙ block_number-sum c.args.hash c.args.first c.requires.hash c.requires.first in
    c.sum_of_two.ensures.sum
    ∙ ap₂ bit_xor
    (sums 0 (omega arith) ∙ ap₂ product first (c.self.invariant.powers.each c.index-self-3.result 3 0 (omega arith) (omega arith)))
    (sums 1 (omega arith) ∙ ap₂ product c.of_two.ensures.second_lane (c.self.invariant.powers.each c.index-self-3.result 3 1 (omega arith) (omega arith)))
    ∙ two-weighed h x y (block_number-lt _ c.self.invariant.block)
    ∙ ap (λ (k : ℕ). product (bit_xor (product x k) y) k) c.self.view_is
