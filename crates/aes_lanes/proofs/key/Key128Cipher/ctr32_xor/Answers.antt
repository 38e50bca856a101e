use Rattle.std.proofs.Common.{ap, ◌∙◌}
use Rattle.aes_lanes.specs.Cipher.{aes, cipher, key_schedule}
use Rattle.aes_lanes.specs.Counter.{ctr32}
use Rattle.aes_lanes.proofs.key.Key128Cipher.ctr32_xor.Goals as goal

pub returns : goal.returns
unfolding aes
returns c =
    c.ctr32_under.ensures _ c.self.invariant.blocks c.self.invariant.planes
    ∙ ap (λ words. ctr32 (cipher 10 words) c.args.start.now c.args.bytes.now) (c.self.invariant.schedule ∙ ap (key_schedule 4) c.self.view_is)
