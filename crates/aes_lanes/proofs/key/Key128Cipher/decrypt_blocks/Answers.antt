use Rattle.std.proofs.Common.{map, ap, ◌∙◌}
use Rattle.aes_lanes.specs.Cipher.{inverse_aes, inverse_cipher, key_schedule}
use Rattle.aes_lanes.proofs.key.Key128Cipher.decrypt_blocks.Goals as goal

pub returns : goal.returns
unfolding inverse_aes
returns c =
    c.cipher_all.ensures _ c.self.invariant.blocks c.self.invariant.planes
    ∙ ap (λ words. map (inverse_cipher 10 words) c.args.blocks.now) (c.self.invariant.schedule ∙ ap (key_schedule 4) c.self.view_is)
