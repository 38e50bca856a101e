-- In a clean vault nothing stands much further down than items do.
use Rattle.std.proofs.Common.{◌≡◌, ◌<◌, ℕ, ◌+◌, length, inl, inr, arith}
use Rattle.folder_spec.specs.Path.{Path}
use Rattle.folder_spec.specs.View.{NoEntry, View}
use Rattle.vault_spec.specs.Alike.{IsOrderly}
use Rattle.vault_spec.specs.Depth.{IsWithinSteps}
use Rattle.vault_spec.specs.Findings.{IsClean}
use Rattle.vault_spec.specs.Vault.{Vault, Gocryptfs, Cryptomator, format_of}
use Rattle.vault_spec.proofs.Places.{none_or_there}
use Rattle.vault_spec.proofs.GoDepth.{go_too_deep}
use Rattle.vault_spec.proofs.CmDepth.{cm_too_deep}

pub shallow : (vault : Vault) (v : View) (steps : ℕ) → IsOrderly (format_of vault) v → IsClean (format_of vault) v → IsWithinSteps (format_of vault) v steps
    → (at : Path) → steps + 5 < length at → v at ≡ NoEntry
shallow (Gocryptfs keys) v steps orderly clean within at long = elim (none_or_there (v at)) [
  | inl free ↦ free
  | inr there ↦ absurd (go_too_deep keys v steps orderly clean within at long there)
]
shallow (Cryptomator cm) v steps orderly clean within at long = elim (none_or_there (v at)) [
  | inl free ↦ free
  | inr there ↦ absurd (cm_too_deep cm v orderly.folders clean at (omega (arith, long)) there)
]
