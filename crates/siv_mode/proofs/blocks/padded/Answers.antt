use Rattle.siv_mode.proofs.Macs.{padded-made}
use Rattle.siv_mode.proofs.blocks.padded.Goals as goal

pub returns : goal.returns
returns c = rw c.copy_from_slice.ensures.after (padded-made c.args.bytes.now c.requires)
