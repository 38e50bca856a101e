use Rattle.gcm_mode.proofs.Blocks.{block_number-padded}
use Rattle.gcm_mode.proofs.hash.block_of.Goals as goal

pub returns-clause-number : goal.returns-clause-number
returns-clause-number c = rw c.copy_from_slice.ensures.after (block_number-padded c.args.bytes.now c.requires)
