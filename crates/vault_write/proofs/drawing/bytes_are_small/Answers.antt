use Rattle.std.proofs.Common.{arith}
use Rattle.vault_write.proofs.drawing.bytes_are_small.Goals as goal

pub returns : goal.returns
returns c place = omega (arith, c.type_inv.bytes place)
