use Rattle.std.proofs.Common.{◌≡◌, ℕ, bit_xor, ap, ap₂, sym, ◌∙◌}
use Rattle.std.specs.Int.{bytes_high_first}
use Rattle.gcm_mode.specs.Field.{product}
use Rattle.gcm_mode.specs.Hash.{block_bytes, block_number, blocks_of}
use Rattle.gcm_mode.specs.Private.{ghash_from}
use Rattle.gcm_mode.proofs.Lanes.{IsBlock-high_first, block_number-bytes, bytes-block_number}
use Rattle.gcm_mode.proofs.Gcm.last_steps.Goals as goal

pub hash_to_end-requires-clause-last : goal.hash_to_end-requires-clause-last
hash_to_end-requires-clause-last c = rw c.to_be_bytes-block.ensures (IsBlock-high_first c.args.lengths)

pub returns : goal.returns
unfolding block_bytes
returns c =
    let subkey = rw c.self.view_is at c.self.invariant in
    let number : block_number c.to_be_bytes-block.result ≡ c.args.lengths = ap block_number c.to_be_bytes-block.ensures ∙ block_number-bytes c.args.lengths c.ranges.lengths.fits in
    sym (bytes-block_number c.hash_to_end.result c.hash_to_end.ensures.block)
    ∙ ap (bytes_high_first 16) (c.hash_to_end.ensures.steps
    ∙ ap₂ (λ (h n : ℕ). product (bit_xor (ghash_from h (block_number c.args.hash) (blocks_of c.args.bytes.now)) n) h) subkey number)
