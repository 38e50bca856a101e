use Rattle.std.proofs.Common.{Ok}
use Rattle.std.proofs.lemmas.Result.{IfErr-weaker}
use Rattle.vault_spec.specs.Vault.{TestsCm, UnlocksCm}
use Rattle.vault_read.proofs.LoadingLemmas.{refuses_as}
use Rattle.vault_read.proofs.loading.unlock_cm.Goals as goal

pub returns-clause-fault : goal.returns-clause-fault
returns-clause-fault c =
    let root = c.args.root.now in
    let pass = c.args.pass.now in
    IfErr-weaker c.unlock_master.result _ _
    (λ fault tests. refuses_as root (UnlocksCm c.in-Ok.master c.in-Ok-read_vault.vault pass) (TestsCm c.args.master.now c.args.vault.now pass) fault
    (λ answer h. (Ok c.in-Ok.master, c.in-Ok.ensures.file, rw c.in-Ok-read_vault.ensures.file h)) (tests root)) c.unlock_master.ensures.fault
