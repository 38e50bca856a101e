use Rattle.vault_spec.specs.Gocryptfs.{go_format}
use Rattle.vault_spec.proofs.GoVault.{go_lawful}
use Rattle.vault_spec.proofs.GoKeeping.{go_keeps}
use Rattle.vault_spec.proofs.StaysClean.{new_items_clean}
use Rattle.vault_spec.proofs.ReplacedClean.{content_clean}
use Rattle.vault_spec.proofs.laws.new_items_of_gocryptfs_keep_vaults_clean.Goals as goal

pub returns : goal.returns
returns c =
    record { new = λ keys. new_items_clean (go_format keys) (go_lawful c.go_stored_names.ensures keys) (go_keeps c.go_stored_names.ensures keys); replaced = λ keys. content_clean (go_format keys) (go_lawful c.go_stored_names.ensures keys) }
