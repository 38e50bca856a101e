use Rattle.vault_spec.proofs.GoFree.{go_places_free}
use Rattle.vault_spec.proofs.laws.places_of_gocryptfs_are_free_unless_shared.Goals as goal

pub returns : goal.returns
returns c =
    go_places_free c.go_stored_names.ensures
