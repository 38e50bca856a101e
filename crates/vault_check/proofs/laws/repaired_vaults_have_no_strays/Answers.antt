use Rattle.vault_check.proofs.Opening.{repaired_opens}
use Rattle.vault_check.proofs.laws.repaired_vaults_have_no_strays.Goals as goal

pub returns : goal.returns
returns c = λ root lost moved a b sound apart own h.
    repaired_opens c.args.vault.now.vault root lost moved a b (c.strays_go_alone.ensures c.args.vault.now.vault) c.strays_of_gocryptfs_go_alone.ensures.own sound apart own h
