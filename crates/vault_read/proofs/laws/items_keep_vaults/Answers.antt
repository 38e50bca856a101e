use Rattle.vault_spec.specs.Vault.{Vault, Gocryptfs, Cryptomator, format_of}
use Rattle.vault_read.specs.Laws.{KeepsVaults}
use Rattle.vault_read.proofs.laws.items_keep_vaults.Goals as goal

pub returns : goal.returns
returns c = kept
  where
    kept : (vault : Vault) → KeepsVaults (format_of vault)
    kept (Gocryptfs keys) = record {
      alone = c.new_items_of_gocryptfs_come_alone.ensures.new keys;
      clean = c.new_items_of_gocryptfs_keep_vaults_clean.ensures.new keys;
      tidy = c.vaults_of_gocryptfs_stay_tidy.ensures.new keys;
      free = c.places_of_gocryptfs_are_free_unless_shared.ensures keys;
      stay = c.new_items_of_gocryptfs_keep_the_vault.ensures.new keys;
      last = c.new_items_of_gocryptfs_open_in_any_vault.ensures.new keys;
      replaced_alone = c.new_items_of_gocryptfs_come_alone.ensures.replaced keys;
      replaced_clean = c.new_items_of_gocryptfs_keep_vaults_clean.ensures.replaced keys;
      replaced_tidy = c.vaults_of_gocryptfs_stay_tidy.ensures.replaced keys;
      replaced_stay = c.new_items_of_gocryptfs_keep_the_vault.ensures.replaced keys;
      replaced_anew = c.new_items_of_gocryptfs_open_in_any_vault.ensures.replaced keys;
    }
    kept (Cryptomator vault) = record {
      alone = c.new_items_of_cryptomator_come_alone.ensures.new vault;
      clean = c.new_items_of_cryptomator_keep_vaults_clean.ensures.new vault;
      tidy = c.vaults_of_cryptomator_stay_tidy.ensures.new vault;
      free = c.places_of_cryptomator_are_free_unless_shared.ensures vault;
      stay = c.new_items_of_cryptomator_keep_the_vault.ensures.new vault;
      last = c.new_items_of_cryptomator_open_in_any_vault.ensures.new vault;
      replaced_alone = c.new_items_of_cryptomator_come_alone.ensures.replaced vault;
      replaced_clean = c.new_items_of_cryptomator_keep_vaults_clean.ensures.replaced vault;
      replaced_tidy = c.vaults_of_cryptomator_stay_tidy.ensures.replaced vault;
      replaced_stay = c.new_items_of_cryptomator_keep_the_vault.ensures.replaced vault;
      replaced_anew = c.new_items_of_cryptomator_open_in_any_vault.ensures.replaced vault;
    }
