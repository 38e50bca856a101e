use Rattle.std.proofs.Common.{◌∙◌}
use Rattle.gcm_mode.proofs.Counters.{increment32-is}
use Rattle.gcm_mode.proofs.counter.next_counter.Goals as goal

pub returns : goal.returns
returns c =
    increment32-is c.args.block.now _ _ c.told-block c.from_be_bytes-count.ensures (c.copy_from_slice.ensures.after ∙ c.to_be_bytes.ensures)
