use Rattle.gcm_mode.proofs.Linear.{product-xor}
use Rattle.gcm_mode.proofs.Algebra.{product-sum}
use Rattle.gcm_mode.proofs.laws.product_distributes_over_sums.Goals as goal

pub returns : goal.returns
returns c = record { left = product-xor; right = product-sum }
