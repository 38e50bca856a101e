use Rattle.std.proofs.Common.{ℕ, List, ◌+◌, ◌++◌, length, ap, ap₂, ◌∙◌}
use Rattle.chunk_files.proofs.PutBehind.{put-within}
use Rattle.chunk_files.proofs.told.chunk_data.Goals as goal

pub returns-clause-data : goal.returns-clause-data
returns-clause-data c =
    let number = c.copy_from_slice.ensures.after ∙ c.to_be_bytes.ensures in
    let file = c.copy_from_slice-2.ensures.after in
    put-within 8 (8 + length c.args.file.now) c.copy_from_slice.new.self _ c.copy_from_slice-2.new.self (ap length number) (ap (λ (x : List ℕ). 8 + length x) file)
    ∙ ap₂ (λ (a b : List ℕ). a ++ b) number file
