use Rattle.std.proofs.Common.{arith, rules, ap, ◌∙◌, ℕ, ◌≡◌}
use Rattle.gcm_mode.specs.Field.{product, terms, times_power}
use Rattle.gcm_mode.proofs.Terms.{terms-more, times_power-more}
use Rattle.gcm_mode.proofs.field.product.Goals as goal

pub loop-i-init : goal.loop-i-init
unfolding terms times_power
loop-i-init c = search rules

pub loop-i-preserved : goal.loop-i-preserved
loop-i-preserved c =
    let sum = c.loop-i.invariant.0 in
    let multiple = c.loop-i.invariant.1 in
    (terms-more _ _ _ _ _ _ sum multiple c.where_set-sum.ensures, times_power-more _ _ _ _ multiple c.times_u-multiple.ensures)

pub returns : goal.returns
unfolding product
returns c =
    let last : c.loop-i.i ≡ 128 = omega arith in
    c.loop-i.invariant.0 ∙ ap (λ (n : ℕ). terms n c.args.x c.args.y) last
