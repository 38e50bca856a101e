use Rattle.std.proofs.Common.{ap, [], get_or}
use Rattle.aes_lanes.specs.Cipher.{aes256}
use Rattle.eme_mode.proofs.Masks.{eme-steps}
use Rattle.eme_mode.proofs.Eme.encrypt.Goals as goal

pub returns : goal.returns
returns c =
    rw (← c.self.view_is, ← c.self.invariant)
    (eme-steps (aes256 c.self.inside.key) _ _ _ _ _ _ _ _ _ _ c.add_masks.ensures c.encrypt_blocks.ensures c.sum_of-sum.ensures
    (ap (λ blocks. get_or blocks 0 []) c.encrypt_blocks-2.ensures) c.mix.ensures c.encrypt_blocks-3.ensures c.add_masks-2.ensures)
