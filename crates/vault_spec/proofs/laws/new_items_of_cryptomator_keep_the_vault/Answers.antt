use Rattle.vault_spec.specs.Cryptomator.{cm_format}
use Rattle.vault_spec.proofs.CmVault.{cm_lawful}
use Rattle.vault_spec.proofs.CmAdding.{cm_makes}
use Rattle.vault_spec.proofs.MadeItems.{new_items_stay}
use Rattle.vault_spec.proofs.ReplacedVaults.{contents_stay}
use Rattle.vault_spec.proofs.laws.new_items_of_cryptomator_keep_the_vault.Goals as goal

pub returns : goal.returns
returns c =
    let texts = c.cm_stored_names.ensures in
    record {
      new = λ vault. new_items_stay (cm_format vault) (cm_lawful vault (texts vault.keys)) (cm_makes vault (texts vault.keys));
      replaced = λ vault. contents_stay (cm_format vault) (cm_lawful vault (texts vault.keys));
    }
