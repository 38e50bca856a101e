use Rattle.vault_spec.specs.Cryptomator.{cm_format}
use Rattle.vault_spec.proofs.CmVault.{cm_lawful}
use Rattle.vault_spec.proofs.CmKeeping.{cm_keeps}
use Rattle.vault_spec.proofs.StaysClean.{new_items_clean}
use Rattle.vault_spec.proofs.ReplacedClean.{content_clean}
use Rattle.vault_spec.proofs.laws.new_items_of_cryptomator_keep_vaults_clean.Goals as goal

pub returns : goal.returns
returns c =
    record {
      new = λ vault.
          new_items_clean (cm_format vault)
          (cm_lawful vault (c.cm_stored_names.ensures vault.keys)) (cm_keeps vault (c.cm_stored_names.ensures vault.keys));
      replaced = λ vault.
          content_clean (cm_format vault)
          (cm_lawful vault (c.cm_stored_names.ensures vault.keys));
    }
