use Rattle.gocrypt_conf.specs.Text.{conf_text, made_conf}
use Rattle.vault_spec.specs.Gocryptfs.{go_format}
use Rattle.vault_spec.proofs.GoVault.{go_lawful}
use Rattle.vault_spec.proofs.GoTidy.{go_items_tidy, go_new_tidy}
use Rattle.vault_spec.proofs.Tidying.{content_tidy}
use Rattle.vault_spec.proofs.laws.vaults_of_gocryptfs_stay_tidy.Goals as goal

pub returns : goal.returns
returns c =
    record {
      made = λ keys pass cost drawn key is_key. go_new_tidy c.go_stored_names.ensures keys (conf_text (made_conf pass cost drawn)) key is_key;
      new = go_items_tidy c.go_stored_names.ensures;
      replaced = λ keys. content_tidy (go_format keys) (go_lawful c.go_stored_names.ensures keys);
    }
