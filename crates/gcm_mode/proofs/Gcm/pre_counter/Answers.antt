use Rattle.std.proofs.Common.{sym, refl, ap, ◌∙◌, lit<}
use Rattle.aes_lanes.specs.Cipher.{aes256}
use Rattle.gcm_mode.specs.Gcm.{hash_subkey}
use Rattle.gcm_mode.specs.Hash.{blocks_of}
use Rattle.gcm_mode.specs.Private.{ghash_from}
use Rattle.gcm_mode.proofs.Lanes.{IsBlock-splat, block_number-none}
use Rattle.gcm_mode.proofs.Modes.{pre_counter-short, pre_counter-hashed}
use Rattle.gcm_mode.proofs.Gcm.pre_counter.Goals as goal

pub returns-then-iv-eq12 : goal.returns-then-iv-eq12
returns-then-iv-eq12 c = c.short_counter.ensures ∙ sym (pre_counter-short _ _ c.if-iv-eq12.true)

pub last_steps-requires : goal.last_steps-requires
last_steps-requires c = IsBlock-splat 0 (lit< tt)

pub returns : goal.returns
returns c =
    let hash = ap (λ y. ghash_from (hash_subkey (aes256 c.args.self.now)) y (blocks_of c.args.iv.now)) block_number-none in
    c.last_steps.ensures ∙ rw c.bit_length.ensures (pre_counter-hashed _ _ _ _ c.if-iv-eq12.false refl hash)
