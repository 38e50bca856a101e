use Rattle.gocrypt_conf.specs.Text.{conf_text, made_conf}
use Rattle.vault_spec.proofs.GoNew.{new_is_empty}
use Rattle.vault_spec.proofs.laws.new_vaults_of_gocryptfs_are_empty.Goals as goal

pub returns : goal.returns
returns c keys pass cost drawn key is_key = new_is_empty c.go_stored_names.ensures keys (conf_text (made_conf pass cost drawn)) key is_key
