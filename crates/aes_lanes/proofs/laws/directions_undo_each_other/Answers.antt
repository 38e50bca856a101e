use Rattle.aes_lanes.specs.Laws.Cipher.{aes-undone}
use Rattle.aes_lanes.proofs.laws.directions_undo_each_other.Goals as goal

pub returns : goal.returns
returns c = aes-undone
