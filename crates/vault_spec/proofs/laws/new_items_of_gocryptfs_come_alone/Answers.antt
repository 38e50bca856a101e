use Rattle.vault_spec.specs.Gocryptfs.{go_format}
use Rattle.vault_spec.proofs.GoVault.{go_lawful}
use Rattle.vault_spec.proofs.GoAdding.{go_makes}
use Rattle.vault_spec.proofs.MadeItems.{new_items_alone}
use Rattle.vault_spec.proofs.Replacing.{content_replaced}
use Rattle.vault_spec.proofs.laws.new_items_of_gocryptfs_come_alone.Goals as goal

pub returns : goal.returns
returns c =
    record {
      new = λ keys. new_items_alone (go_format keys) (go_lawful c.go_stored_names.ensures keys) (go_makes c.go_stored_names.ensures keys);
      replaced = λ keys. content_replaced (go_format keys) (go_lawful c.go_stored_names.ensures keys);
    }
