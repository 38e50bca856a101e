use Rattle.std.proofs.Common.{ap, ◌∙◌, arith}
use Rattle.gcm_mode.specs.Field.{product}
use Rattle.gcm_mode.specs.Hash.{block_number}
use Rattle.gcm_mode.specs.Private.{power}
use Rattle.gcm_mode.proofs.products.Powers.times.Goals as goal

pub returns-clause-product : goal.returns-clause-product
unfolding power
returns-clause-product c =
    c.times.ensures.product
    ∙ ap (product (block_number c.args.x)) (c.self.invariant.powers.each c.index-self-3.result 3 1 (omega arith) (omega arith) ∙ c.self.view_is)
