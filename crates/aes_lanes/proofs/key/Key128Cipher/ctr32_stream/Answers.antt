use Rattle.std.proofs.Common.{ap, ◌∙◌}
use Rattle.std.specs.Fn.{iterate}
use Rattle.aes_lanes.specs.Cipher.{aes, cipher, key_schedule}
use Rattle.aes_lanes.specs.Counter.{increment}
use Rattle.aes_lanes.proofs.key.Key128Cipher.ctr32_stream.Goals as goal

pub returns : goal.returns
unfolding aes
returns c = λ k lt.
    c.counter_images.ensures.images _ k c.self.invariant.planes lt
    ∙ ap (λ words. cipher 10 words (iterate (increment 4) k c.args.start.now)) (c.self.invariant.schedule ∙ ap (key_schedule 4) c.self.view_is)
