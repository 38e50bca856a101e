use Rattle.std.proofs.Common.{◌≡◌, ◌∙◌, map}
use Rattle.aes_lanes.specs.Field.{inverse}
use Rattle.aes_lanes.proofs.LaneSteps.{map-agree, map-itself, product-lanes, power2, power3, power6, power12, power15, power30, power60, power120, power240, power252, power254, power254-is}
use Rattle.aes_lanes.proofs.lanes.inverse.Goals as goal

pub returns : goal.returns
unfolding power2 power3 power6 power12 power15 power30 power60 power120 power240 power252 power254
returns c =
    let v = c.args.v in
    let lanes = map-itself v in
    let power2_is : c.multiply-second.result ≡ map power2 v = product-lanes (λ x. x) (λ x. x) v _ _ _ lanes lanes c.multiply-second.ensures in
    let power3_is : c.multiply-third.result ≡ map power3 v = product-lanes power2 (λ x. x) v _ _ _ power2_is lanes c.multiply-third.ensures in
    let power6_is : c.multiply-sixth.result ≡ map power6 v = product-lanes power3 power3 v _ _ _ power3_is power3_is c.multiply-sixth.ensures in
    let power12_is : c.multiply-twelfth.result ≡ map power12 v = product-lanes power6 power6 v _ _ _ power6_is power6_is c.multiply-twelfth.ensures in
    let power15_is : c.multiply-power15.result ≡ map power15 v = product-lanes power12 power3 v _ _ _ power12_is power3_is c.multiply-power15.ensures in
    let power30_is : c.multiply-power30.result ≡ map power30 v = product-lanes power15 power15 v _ _ _ power15_is power15_is c.multiply-power30.ensures in
    let power60_is : c.multiply-power60.result ≡ map power60 v = product-lanes power30 power30 v _ _ _ power30_is power30_is c.multiply-power60.ensures in
    let power120_is : c.multiply-power120.result ≡ map power120 v = product-lanes power60 power60 v _ _ _ power60_is power60_is c.multiply-power120.ensures in
    let power240_is : c.multiply-power240.result ≡ map power240 v = product-lanes power120 power120 v _ _ _ power120_is power120_is c.multiply-power240.ensures in
    let power252_is : c.multiply-power252.result ≡ map power252 v = product-lanes power240 power12 v _ _ _ power240_is power12_is c.multiply-power252.ensures in
    let power254_is : c.multiply.result ≡ map power254 v = product-lanes power252 power2 v _ _ _ power252_is power2_is c.multiply.ensures in
    power254_is ∙ map-agree power254 inverse power254-is v c.requires.bytes
