use Rattle.vault_spec.proofs.CmFree.{cm_places_free}
use Rattle.vault_spec.proofs.laws.places_of_cryptomator_are_free_unless_shared.Goals as goal

pub returns : goal.returns
returns c vault =
    cm_places_free vault (c.cm_stored_names.ensures vault.keys)
