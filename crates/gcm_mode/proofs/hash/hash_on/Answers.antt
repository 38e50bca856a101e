use Rattle.std.proofs.Common.{◌∙◌, arith}
use Rattle.gcm_mode.specs.Hash.{block_number}
use Rattle.gcm_mode.proofs.Hashes.{ghash_from-part}
use Rattle.gcm_mode.proofs.hash.hash_on.Goals as goal

pub loop-rest-preserved : goal.loop-rest-preserved
loop-rest-preserved c = (
  c.eight_steps-next.ensures.block,
  ghash_from-part c.args.powers.now (block_number c.loop-rest.hash) _ c.loop-rest.rest.now _ _ 8 (omega arith)
      c.split_at.ensures.front c.split_at.ensures.back c.eight_steps-next.ensures.steps
      ∙ c.loop-rest.invariant.1,
)

pub returns : goal.returns
returns c = record { block = c.hash_by_twos.ensures.block; steps = c.hash_by_twos.ensures.steps ∙ c.loop-rest.invariant.1 }
