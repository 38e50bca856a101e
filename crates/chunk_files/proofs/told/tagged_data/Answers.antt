use Rattle.std.proofs.Common.{ℕ, List, ◌++◌, length, ap, ap₂, ◌∙◌, refl}
use Rattle.chunk_files.proofs.PutBehind.{put-behind}
use Rattle.chunk_files.proofs.told.tagged_data.Goals as goal

pub returns : goal.returns
returns c =
    let nonce = c.copy_from_slice.ensures.after in
    let number = c.copy_from_slice-2.ensures.after ∙ c.to_be_bytes.ensures in
    put-behind 16 8 c.copy_from_slice.new.self _ c.copy_from_slice-2.new.self (ap length nonce ∙ c.told-nonce) refl
    ∙ ap₂ (λ (a b : List ℕ). a ++ b) nonce number
