use Rattle.std.proofs.Common.{◌≡◌, ℕ, ◌<◌, length, ap, sym, ◌∙◌, arith, rules}
use Rattle.gcm_mode.specs.Field.{product}
use Rattle.gcm_mode.specs.Hash.{block_number}
use Rattle.gcm_mode.proofs.Hashes.{ghash_from-none, ghash_from-one, ghash_from-two}
use Rattle.gcm_mode.proofs.Lanes.{IsBlock-sum, block_number-sum}
use Rattle.gcm_mode.proofs.hash.hash_by_twos.Goals as goal

pub loop-rest-preserved : goal.loop-rest-preserved
loop-rest-preserved c = (
  c.two_steps-next.ensures.block,
  ghash_from-two c.args.powers.now (block_number c.loop-rest.hash) _ _ _ c.loop-rest.rest.now _ _ _ _ _ (omega arith)
      c.split_at.ensures.front c.split_at.ensures.back c.min.ensures c.split_at-in-loop-rest.ensures.front c.split_at-in-loop-rest.ensures.back
      c.block_of.ensures.number c.block_of-in-loop-rest.ensures.number c.two_steps-next.ensures.steps
      ∙ c.loop-rest.invariant.1,
)

pub returns-then-is_empty-clause-steps : goal.returns-then-is_empty-clause-steps
returns-then-is_empty-clause-steps c =
    let none : length c.loop-rest.rest.now ≡ 0 = search rules in
    sym (ghash_from-none c.args.powers.now (block_number c.loop-rest.hash) c.loop-rest.rest.now none) ∙ c.loop-rest.invariant.1

pub times-requires : goal.times-requires
times-requires c = IsBlock-sum c.loop-rest.hash c.block_of-2.result c.loop-rest.invariant.0 c.block_of-2.ensures.block

pub returns-clause-steps : goal.returns-clause-steps
returns-clause-steps c =
    let some : 0 < length c.loop-rest.rest.now = search rules in
    let block = c.block_of-2 in
    c.times.ensures.product
    ∙ ap (λ (x : ℕ). product x c.args.powers.now) (block_number-sum c.loop-rest.hash block.result c.loop-rest.invariant.0 block.ensures.block)
    ∙ sym (ghash_from-one c.args.powers.now (block_number c.loop-rest.hash) (block_number block.result) c.loop-rest.rest.now some (omega arith) block.ensures.number)
    ∙ c.loop-rest.invariant.1
