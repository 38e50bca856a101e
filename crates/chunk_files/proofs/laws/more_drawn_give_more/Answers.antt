use Rattle.chunk_files.proofs.Encrypting.{more_drawn_give_more}
use Rattle.chunk_files.proofs.laws.more_drawn_give_more.Goals as goal

pub returns : goal.returns
returns c = more_drawn_give_more
