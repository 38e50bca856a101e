-- An opened vault as contracts see it.
use Rattle.folder_spec.specs.Path.{Path}
use Rattle.vault_spec.specs.Vault.{Vault}

-- the root's path, and the vault
pub record OpenedVault : Type 0 where
  pub root : Path
  pub vault : Vault
