use Rattle.std.proofs.Common.{subst, sym}
use Rattle.vault_spec.proofs.CmVault.{cm_lawful}
use Rattle.vault_spec.proofs.Lawful.{IsLawful}
use Rattle.vault_spec.proofs.Clean.{clean_is_orderly}
use Rattle.vault_spec.proofs.OwnPlaces.{own_places}
use Rattle.vault_spec.proofs.laws.clean_vaults_of_cryptomator_are_orderly.Goals as goal

pub returns : goal.returns
returns c =
    record {
      orderly = λ vault v f is there folders own clean.
          clean_is_orderly f (subst IsLawful (sym is) (cm_lawful vault (c.cm_stored_names.ensures vault.keys))) v there folders own clean;
      places = λ vault v f is orderly.
          own_places f (subst IsLawful (sym is) (cm_lawful vault (c.cm_stored_names.ensures vault.keys))) v orderly;
    }
