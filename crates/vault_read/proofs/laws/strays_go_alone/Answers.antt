use Rattle.vault_spec.specs.Moving.{StraysGoAlone}
use Rattle.vault_spec.specs.Vault.{Vault, Gocryptfs, Cryptomator, format_of}
use Rattle.vault_read.proofs.laws.strays_go_alone.Goals as goal

pub returns : goal.returns
returns c = alone
  where
    alone : (vault : Vault) → StraysGoAlone (format_of vault)
    alone (Gocryptfs keys) = c.strays_of_gocryptfs_go_alone.ensures.strays keys
    alone (Cryptomator vault) = c.strays_of_cryptomator_go_alone.ensures vault
