use Rattle.std.proofs.Common.{[], subst}
use Rattle.cryptomator_conf.specs.Text.{made_master, master_text, vault_text, version_bytes, version_mac}
use Rattle.vault_values.specs.declared.keys.CmKeys.{CmKeys}
use Rattle.vault_names.specs.Cryptomator.{cm_folder_of}
use Rattle.vault_spec.specs.Cryptomator.{cm_format}
use Rattle.vault_spec.specs.Tidy.{IsTidy}
use Rattle.vault_spec.proofs.CmNew.{new_root}
use Rattle.vault_spec.proofs.CmTidy.{cm_items_tidy, cm_new_tidy}
use Rattle.vault_spec.proofs.CmVault.{cm_lawful}
use Rattle.vault_spec.proofs.Tidying.{content_tidy}
use Rattle.vault_spec.proofs.laws.vaults_of_cryptomator_stay_tidy.Goals as goal

pub returns : goal.returns
returns c =
    record {
      made = λ vault pass cost drawn same.
          subst (λ (k : CmKeys). IsTidy (cm_format vault)
          (new_root (master_text (made_master pass cost drawn) (version_mac drawn.mac version_bytes)) (vault_text vault.combo drawn) (cm_folder_of k []))) same
          (cm_new_tidy vault (c.cm_stored_names.ensures vault.keys)
          (master_text (made_master pass cost drawn) (version_mac drawn.mac version_bytes)) (vault_text vault.combo drawn));
      replaced = λ vault.
          content_tidy (cm_format vault)
          (cm_lawful vault (c.cm_stored_names.ensures vault.keys));
      new = λ vault. cm_items_tidy vault (c.cm_stored_names.ensures vault.keys);
    }
