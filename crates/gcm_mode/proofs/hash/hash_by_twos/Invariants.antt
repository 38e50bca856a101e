use Rattle.std.proofs.Common.{◌≡◌, length}
use Rattle.aes_lanes.specs.Bytes.{IsBlock}
use Rattle.gcm_mode.specs.Hash.{block_number, blocks_of}
use Rattle.gcm_mode.specs.Private.{ghash_from}
use Rattle.gcm_mode.proofs.hash.hash_by_twos.Given as goal

abbrev pub invariant-loop-rest : goal.invariant-loop-rest
invariant-loop-rest l =
    IsBlock l.hash × (ghash_from l.powers (block_number l.hash) (blocks_of l.rest) ≡ ghash_from l.powers (block_number l.initial.hash) (blocks_of l.bytes))

abbrev pub decreases-loop-rest : goal.decreases-loop-rest
decreases-loop-rest l = length l.rest
