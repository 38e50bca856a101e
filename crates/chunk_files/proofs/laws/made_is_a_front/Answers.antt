use Rattle.chunk_files.proofs.Encrypting.{made_is_a_front}
use Rattle.chunk_files.proofs.laws.made_is_a_front.Goals as goal

pub returns : goal.returns
returns c = made_is_a_front
