use Rattle.std.proofs.Common.{bit_xor, ap₂, ◌∙◌}
use Rattle.gcm_mode.proofs.Lanes.{IsBlock-sum, block_number-sum}
use Rattle.gcm_mode.proofs.pairs.sum_of_two.Goals as goal

pub returns : goal.returns
returns c =
    let first = c.first_of-first in
    let second = c.second_of-second in
    record {
      block = IsBlock-sum first.result second.result first.ensures.block second.ensures.block;
      sum = block_number-sum first.result second.result first.ensures.block second.ensures.block ∙ ap₂ bit_xor first.ensures.first second.ensures.second;
    }
