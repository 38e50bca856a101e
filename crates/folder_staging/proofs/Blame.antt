-- A folder that failed or refused is told as a fault of a call above, and its count rose.
use Rattle.std.proofs.Common.{◌≡◌, ℕ, Err}
use Rattle.port_model.specs.Counts.{CountRose}
use Rattle.folder_spec.specs.declared.FolderFault.{FolderFault}
use Rattle.folder_spec.specs.declared.FolderFault.TheVariants.{Failed, Refused, NoMemory}
use Rattle.folder_model.specs.Answers.{CountsAbove}

pub risen_by : {F : Type 0} (told : FolderFault → F) (failed : F) → (told NoMemory ≡ failed → ⊥) → (before after : ℕ) (fault : FolderFault)
    → CountsAbove {T = Unit {0}} before after (Err fault) → told fault ≡ failed → CountRose before after
risen_by told failed other before after Failed counts e = counts.1
risen_by told failed other before after Refused counts e = counts.1
risen_by told failed other before after NoMemory counts e = absurd (other e)
