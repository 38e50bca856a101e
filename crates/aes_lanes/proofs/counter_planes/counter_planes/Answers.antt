use Rattle.std.proofs.Common.{◌≡◌, ◌∙◌, ℕ, List, [], ◌∷◌, get_or}
use Rattle.std.specs.Fn.{iterate}
use Rattle.aes_lanes.specs.Counter.{increment}
use Rattle.aes_lanes.proofs.PlaneBits.{each_block}
use Rattle.aes_lanes.proofs.counter_planes.counter_planes.Goals as goal

pub returns : goal.returns
returns c k lt =
    let blocks : List (List ℕ) = c.counted32.result ∷ c.counted32-2.result ∷ c.counted32-3.result ∷ c.counted32-4.result ∷ c.counted32-5.result ∷ c.counted32-6.result ∷ c.counted32-7.result ∷ c.counted32-8.result ∷ c.counted32-9.result ∷ c.counted32-10.result ∷ c.counted32-11.result ∷ c.counted32-12.result ∷ c.counted32-13.result ∷ c.counted32-14.result ∷ c.counted32-15.result ∷ c.counted32-16.result ∷ [] in
    c.gather.ensures k lt
    ∙ each_block (λ n. get_or blocks n [] ≡ iterate (increment 4) n c.args.counter.now)
    c.counted32.ensures c.counted32-2.ensures c.counted32-3.ensures c.counted32-4.ensures c.counted32-5.ensures c.counted32-6.ensures c.counted32-7.ensures c.counted32-8.ensures c.counted32-9.ensures c.counted32-10.ensures c.counted32-11.ensures c.counted32-12.ensures c.counted32-13.ensures c.counted32-14.ensures c.counted32-15.ensures c.counted32-16.ensures
    k lt
