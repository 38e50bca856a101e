use Rattle.std.proofs.Common.{refl}
use Rattle.folder_spec.specs.View.{View}
use Rattle.vault_spec.specs.Alike.{HasFolders, IsOrderly}
use Rattle.vault_spec.specs.Cryptomator.{cm_format}
use Rattle.vault_spec.specs.Findings.{IsClean}
use Rattle.vault_spec.specs.Gocryptfs.{go_format}
use Rattle.vault_spec.specs.Vault.{Vault, Gocryptfs, Cryptomator, format_of}
use Rattle.vault_read.specs.OwnFolders.{HasOwnFolders}
use Rattle.vault_read.proofs.OrderlyVaults.{root_there}
use Rattle.vault_read.proofs.laws.clean_vaults_are_orderly.Goals as goal

pub returns : goal.returns
returns c = orderly
  where
    orderly : (vault : Vault) (v : View) → HasFolders v → HasOwnFolders vault v → IsClean (format_of vault) v → IsOrderly (format_of vault) v
    orderly (Gocryptfs keys) v folders own clean =
        c.clean_vaults_of_gocryptfs_are_orderly.ensures.orderly keys v (root_there (go_format keys) v folders clean) folders clean
    orderly (Cryptomator vault) v folders own clean =
        c.clean_vaults_of_cryptomator_are_orderly.ensures.orderly vault v (cm_format vault) refl (root_there (cm_format vault) v folders clean) folders own clean
