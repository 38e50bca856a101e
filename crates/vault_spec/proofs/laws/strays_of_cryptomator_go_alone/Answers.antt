use Rattle.vault_spec.proofs.CmStrays.{cm_strays_alone}
use Rattle.vault_spec.proofs.laws.strays_of_cryptomator_go_alone.Goals as goal

pub returns : goal.returns
returns c =
    λ vault. cm_strays_alone vault (c.cm_stored_names.ensures vault.keys)
