use Rattle.std.proofs.Common.{[], subst}
use Rattle.cryptomator_conf.specs.Text.{made_master, master_text, vault_text, version_bytes, version_mac}
use Rattle.vault_values.specs.declared.keys.CmKeys.{CmKeys}
use Rattle.vault_names.specs.Cryptomator.{cm_folder_of}
use Rattle.vault_spec.specs.Cryptomator.{cm_format}
use Rattle.vault_spec.specs.Empty.{IsEmptyVault}
use Rattle.vault_spec.proofs.CmNew.{new_root, new_is_empty}
use Rattle.vault_spec.proofs.laws.new_vaults_of_cryptomator_are_empty.Goals as goal

pub returns : goal.returns
returns c vault pass cost drawn same =
    subst (λ (k : CmKeys). IsEmptyVault (cm_format vault)
    (new_root (master_text (made_master pass cost drawn) (version_mac drawn.mac version_bytes)) (vault_text vault.combo drawn) (cm_folder_of k []))) same
    (new_is_empty vault (c.cm_stored_names.ensures vault.keys)
    (master_text (made_master pass cost drawn) (version_mac drawn.mac version_bytes)) (vault_text vault.combo drawn))
