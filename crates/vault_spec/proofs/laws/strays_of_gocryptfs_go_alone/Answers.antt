use Rattle.vault_spec.proofs.GoVault.{own_folders}
use Rattle.vault_spec.proofs.GoStrays.{go_strays_alone}
use Rattle.vault_spec.proofs.laws.strays_of_gocryptfs_go_alone.Goals as goal

pub returns : goal.returns
returns c =
    record { strays = go_strays_alone c.go_stored_names.ensures; own = own_folders c.go_stored_names.ensures }
