use Rattle.std.proofs.Common.{ap, ◌∙◌, [], get_or}
use Rattle.aes_lanes.specs.Cipher.{inverse_aes256}
use Rattle.aes_lanes.specs.Bytes.{IsBlock}
use Rattle.eme_mode.specs.Eme.{eme256}
use Rattle.eme_mode.proofs.Masks.{eme-steps}
use Rattle.eme_mode.proofs.Eme.decrypt.Goals as goal

pub returns-clause-decrypted : goal.returns-clause-decrypted
returns-clause-decrypted c =
    rw (← c.self.view_is, ← c.self.invariant)
    (eme-steps (inverse_aes256 c.self.inside.key) _ _ _ _ _ _ _ _ _ _ c.add_masks.ensures c.decrypt_blocks.ensures c.sum_of-sum.ensures
    (ap (λ blocks. get_or blocks 0 []) c.decrypt_blocks-2.ensures) c.mix.ensures c.decrypt_blocks-3.ensures c.add_masks-2.ensures)

pub returns-clause-back : goal.returns-clause-back
returns-clause-back c =
    let is_tweak : IsBlock c.args.tweak.now = record { sixteen = c.told-tweak; bytes = c.fits-tweak } in
    ap (eme256 c.args.self.now c.args.tweak.now) (returns-clause-decrypted c)
    ∙ c.directions_undo_each_other.ensures.encrypted c.args.self.now c.args.tweak.now c.args.blocks.now is_tweak c.are_blocks.ensures
