-- How the keys and the kind of an opened vault are told, and what its calls ask.
use Rattle.std.specs.Prelude.{◌≡◌, ℕ, List, length}
use Rattle.vault_spec.specs.Vault.{Vault, Gocryptfs, Cryptomator}
use Rattle.vault_read.specs.declared.vault.OpenedKeys.{OpenedKeys}
use Rattle.vault_read.specs.declared.vault.OpenedKeys.TheVariants as opened
use Rattle.vault_read.specs.declared.vault.VaultKeys.{VaultKeys}
use Rattle.vault_read.specs.declared.vault.VaultKeys.TheVariants as keys
use Rattle.vault_read.specs.declared.vault.VaultKind.{VaultKind}
use Rattle.vault_read.specs.declared.vault.VaultKind.TheVariants as kind

abbrev pub vault_of : VaultKeys → Vault
vault_of (keys.Gocryptfs go) = Gocryptfs go
vault_of (keys.Cryptomator cm) = Cryptomator cm

-- the same of keys that are expanded
abbrev pub vault_with : OpenedKeys → Vault
vault_with (opened.Gocryptfs go) = Gocryptfs go
vault_with (opened.Cryptomator cm) = Cryptomator cm

abbrev pub kind_of : Vault → VaultKind
kind_of (Gocryptfs go) = kind.Gocryptfs
kind_of (Cryptomator cm) = kind.Cryptomator

-- the key is of the size that names are stored under
abbrev pub FitsKey : Vault → List ℕ → Type 0
FitsKey (Gocryptfs go) key = length key ≡ 16
FitsKey (Cryptomator cm) key = Unit {0}

abbrev pub IsCryptomator : Vault → Type 0
IsCryptomator (Gocryptfs go) = ⊥
IsCryptomator (Cryptomator cm) = Unit {0}
