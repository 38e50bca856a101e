use Rattle.std.proofs.Common.{◌≡◌, ◌+◌, ◌*◌, ◌^◌, ◌%◌, refl, ap, ◌∙◌, arith, lit<}
use Rattle.aes_lanes.specs.Cipher.{aes256}
use Rattle.gcm_mode.specs.Hash.{block_bytes, blocks_of}
use Rattle.gcm_mode.specs.Private.{ghash_from}
use Rattle.gcm_mode.specs.Gcm.{hash_subkey, lengths_block}
use Rattle.gcm_mode.proofs.Lanes.{IsBlock-splat, block_number-none}
use Rattle.gcm_mode.proofs.Modes.{hashed-is}
use Rattle.gcm_mode.proofs.Gcm.hash.Goals as goal

pub hash_on-hash-requires : goal.hash_on-hash-requires
hash_on-hash-requires c = IsBlock-splat 0 (lit< tt)

pub returns : goal.returns
unfolding lengths_block
returns c =
    let subkey = rw c.self.view_is at c.self.invariant in
    let lengths : (c.bit_length.result * 2 ^ 64) % 2 ^ 128 + c.bit_length-2.result ≡ lengths_block c.args.ad.now c.args.text.now = omega arith in
    let first = (rw subkey at c.hash_on-hash.ensures.steps) ∙ ap (λ y. ghash_from (hash_subkey (aes256 c.args.self.now)) y (blocks_of c.args.ad.now)) block_number-none in
    c.last_steps.ensures ∙ rw lengths (ap block_bytes (hashed-is _ _ _ _ _ _ refl first refl))
