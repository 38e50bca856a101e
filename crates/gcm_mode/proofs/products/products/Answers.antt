use Rattle.std.proofs.Common.{ap₂, ◌∙◌}
use Rattle.gcm_mode.specs.Products.{products_sum}
use Rattle.gcm_mode.proofs.Weighed.{one-product}
use Rattle.gcm_mode.proofs.products.products.Goals as goal

pub returns-clause-lanes : goal.returns-clause-lanes
returns-clause-lanes c = λ l two.
    let nibbles = c.nibbles_of-nibbles in
    c.sum_of_products.ensures.lanes l two
    ∙ ap₂ (products_sum l) c.from_ref.ensures.value c.from_ref-2.ensures.value
    ∙ one-product l c.args.pair.now nibbles.result _ (nibbles.ensures l two)
