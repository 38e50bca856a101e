use Rattle.std.proofs.Common.{◌≡◌, ℕ, suc, ◌+◌, ◌-◌, get_or, sym, ap, ◌∙◌, arith}
use Rattle.aes_lanes.proofs.LaneSteps.{gathered_product, product-start, product-next, product-done}
use Rattle.aes_lanes.proofs.lanes.multiply.Goals as goal

pub loop-bit-init : goal.loop-bit-init
loop-bit-init c = product-start c.args.left c.args.right c.requires.left

pub loop-bit-preserved : goal.loop-bit-preserved
loop-bit-preserved c = λ k lt.
    let n : ℕ = 8 - (c.loop-bit._bit + 1) in
    let here : 8 - c.loop-bit._bit ≡ suc n = omega arith in
    sym (product-next n c.loop-bit.sum c.loop-bit.multiple c.loop-bit.rest _ c.loop-bit.auto.sum.0 c.loop-bit.auto.multiple.0 c.loop-bit.auto.rest.0 c.xtimes-next.ensures k lt)
    ∙ ap (λ m. gathered_product m (get_or c.loop-bit.sum k 0) (get_or c.loop-bit.multiple k 0) (get_or c.loop-bit.rest k 0)) (sym here)
    ∙ c.loop-bit.invariant k lt

pub returns : goal.returns
unfolding gathered_product
returns c =
    let none : 8 - c.loop-bit._bit ≡ 0 = omega arith in
    product-done c.loop-bit.sum c.args.left c.args.right c.loop-bit.auto.sum.0 c.requires.left.sixty_four c.requires.right.sixty_four
    (λ k lt.
    sym (ap (λ m. gathered_product m (get_or c.loop-bit.sum k 0) (get_or c.loop-bit.multiple k 0) (get_or c.loop-bit.rest k 0)) none)
    ∙ c.loop-bit.invariant k lt)
