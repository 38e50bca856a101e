use Rattle.vault_check.proofs.Opening.{images_open}
use Rattle.vault_check.proofs.laws.repairs_keep_what_opens.Goals as goal

pub returns : goal.returns
returns c = λ root lost s0 s image sound settled apart own repairing shown.
    images_open c.args.vault.now.vault root lost s0 s image (c.strays_go_alone.ensures c.args.vault.now.vault) c.strays_of_gocryptfs_go_alone.ensures.own sound settled apart own repairing shown
