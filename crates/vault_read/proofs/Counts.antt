-- The count of faults behind a call of a folder that ends a function.
use Rattle.std.proofs.Common.{ℕ, Option, Result, Ok, Err, arith}
use Rattle.folder_spec.specs.declared.FolderFault.{FolderFault}
use Rattle.folder_spec.specs.Event.{Told}
use Rattle.folder_spec.specs.View.{View}
use Rattle.folder_spec.specs.Seen.{IfSeen}
use Rattle.folder_model.specs.Answers.{Answers, Counts, CountsAbove}
use Rattle.folder_model.proofs.Counting.{never_falls, counts_at_fault}

-- where its condition holds
pub counts_of : (T : Type 0) (t : Option Told) (before after : ℕ) (Condition : View → Type 0) (IsRight : View → T → Type 0) (result : Result T FolderFault)
    → IfSeen t (λ v. Condition v) → Answers {T = T} t Condition IsRight result → Counts {T = T} t before after result → CountsAbove {T = T} before after result
counts_of T t before after Condition IsRight (Ok value) holds answers counts = never_falls {T = T} t before after (Ok value) counts
counts_of T t before after Condition IsRight (Err fault) holds answers counts =
    counts_at_fault T T t before before after Condition IsRight fault (omega arith) holds answers counts
