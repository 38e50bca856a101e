use Rattle.std.proofs.Common.{◌∙◌, ◌∷◌, [], ap, length}
use Rattle.std.proofs.lemmas.List.{take_at}
use Rattle.chunk_files.proofs.draw.padded.Goals as goal

pub returns : goal.returns
returns c =
    take_at c.copy_from_slice.new.self (0 ∷ 0 ∷ 0 ∷ 0 ∷ []) 12 (ap length c.copy_from_slice.ensures.after ∙ c.told-nonce) ∙ c.copy_from_slice.ensures.after
