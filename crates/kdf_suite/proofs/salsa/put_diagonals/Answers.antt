use Rattle.kdf_suite.proofs.WholeBlocks.{in_order-written}
use Rattle.kdf_suite.proofs.salsa.put_diagonals.Goals as goal

pub returns : goal.returns
returns c = in_order-written c.args.s c.args.block.now c.requires.whole c.requires.room
