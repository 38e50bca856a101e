use Rattle.gcm_mode.proofs.Algebra.{product-regroup}
use Rattle.gcm_mode.proofs.laws.product_is_associative.Goals as goal

pub returns : goal.returns
returns c = λ x y z x_fits. product-regroup x y z
