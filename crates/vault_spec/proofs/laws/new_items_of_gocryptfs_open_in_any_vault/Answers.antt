use Rattle.vault_spec.specs.Gocryptfs.{go_format}
use Rattle.vault_spec.proofs.GoVault.{go_lawful}
use Rattle.vault_spec.proofs.GoAdding.{go_makes}
use Rattle.vault_spec.proofs.MadeItems.{new_items_at_last}
use Rattle.vault_spec.proofs.Replacing.{opens_anew}
use Rattle.vault_spec.proofs.laws.new_items_of_gocryptfs_open_in_any_vault.Goals as goal

pub returns : goal.returns
returns c =
    record {
      new = λ keys. new_items_at_last (go_format keys) (go_lawful c.go_stored_names.ensures keys) (go_makes c.go_stored_names.ensures keys);
      replaced = λ keys. opens_anew (go_format keys) (go_lawful c.go_stored_names.ensures keys);
    }
