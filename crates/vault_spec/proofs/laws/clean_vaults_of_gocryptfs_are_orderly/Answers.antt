use Rattle.vault_spec.specs.Gocryptfs.{go_format}
use Rattle.vault_spec.proofs.GoVault.{go_lawful, own_folders}
use Rattle.vault_spec.proofs.Clean.{clean_is_orderly}
use Rattle.vault_spec.proofs.OwnPlaces.{own_places}
use Rattle.vault_spec.proofs.laws.clean_vaults_of_gocryptfs_are_orderly.Goals as goal

pub returns : goal.returns
returns c =
    record {
      orderly = λ keys v there folders clean. clean_is_orderly (go_format keys) (go_lawful c.go_stored_names.ensures keys) v there folders (own_folders c.go_stored_names.ensures keys v) clean;
      places = λ keys v orderly. own_places (go_format keys) (go_lawful c.go_stored_names.ensures keys) v orderly;
    }
