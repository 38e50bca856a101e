use Rattle.std.proofs.Common.{append-nil, ℕ, List, ◌++◌, replicate, ap, ◌∙◌}
use Rattle.chunk_files.proofs.header.new_plain.Goals as goal

pub returns : goal.returns
returns c = ap (λ (x : List ℕ). replicate 8 0xFF ++ x) (append-nil c.copy_from_slice.new.self ∙ c.copy_from_slice.ensures.after)
