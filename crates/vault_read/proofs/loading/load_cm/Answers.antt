use Rattle.std.proofs.Common.{Ok, sym, subst}
use Rattle.std.proofs.lemmas.Result.{err_from_is_err_and, IfOk-weaker, IfErr-weaker}
use Rattle.folder_spec.specs.Seen.{IsSeen, under}
use Rattle.vault_spec.specs.Vault.{LoadsCm, TestsCm}
use Rattle.vault_read.specs.Opened.{vault_of}
use Rattle.vault_read.proofs.LoadingLemmas.{loads_cm, lacks_master, lacks_vault, refuses_as}
use Rattle.vault_read.proofs.loading.load_cm.Goals as goal

pub returns-in_err-master-clause-fault : goal.returns-in_err-master-clause-fault
returns-in_err-master-clause-fault g c =
    let p = err_from_is_err_and c.from_residual.result c.from_residual.ensures.1 in
    rw (p.1, p.2)
    (λ v is. refuses_as c.args.root.now _ (LoadsCm (under c.args.root.now v) c.args.pass.now) c.in_err-master.field-0.0 (λ answer h. lacks_master c.args.root.now v c.args.pass.now answer h) (c.in_err-master.ensures.fault v is))

pub returns-in_err-vault-clause-fault : goal.returns-in_err-vault-clause-fault
returns-in_err-vault-clause-fault g c =
    let p = err_from_is_err_and c.from_residual-in_err-vault.result c.from_residual-in_err-vault.ensures.1 in
    rw (p.1, p.2)
    (λ v is. refuses_as c.args.root.now _ (LoadsCm (under c.args.root.now v) c.args.pass.now) c.in_err-vault.field-0.0
    (λ answer h. lacks_vault c.args.root.now v c.args.pass.now c.in_ok-master.master answer (c.in_ok-master.ensures.bytes v is) h)
    (c.in_err-vault.ensures.fault v (subst (λ t. IsSeen t v) (sym c.in_ok-master.ensures.looks.told) is)))

pub returns-clause-keys : goal.returns-clause-keys
returns-clause-keys g c =
    let root = c.args.root.now in
    let pass = c.args.pass.now in
    IfOk-weaker c.unlock_cm.result _ _
    (λ keys tests v is. loads_cm root v pass c.in_ok-master.master c.in_ok-vault.vault (Ok (vault_of keys)) (c.in_ok-master.ensures.bytes v is)
    (c.in_ok-vault.ensures.bytes v (subst (λ t. IsSeen t v) (sym c.in_ok-master.ensures.looks.told) is)) (rw (c.as_slice.ensures, c.as_slice-2.ensures) at tests)) c.unlock_cm.ensures.keys

pub returns-clause-fault : goal.returns-clause-fault
returns-clause-fault g c =
    let root = c.args.root.now in
    let pass = c.args.pass.now in
    IfErr-weaker c.unlock_cm.result _ _
    (λ fault tests v is. refuses_as root (TestsCm c.as_slice.result.now c.as_slice-2.result.now pass) (LoadsCm (under root v) pass) fault
    (λ answer h. loads_cm root v pass c.in_ok-master.master c.in_ok-vault.vault answer (c.in_ok-master.ensures.bytes v is)
    (c.in_ok-vault.ensures.bytes v (subst (λ t. IsSeen t v) (sym c.in_ok-master.ensures.looks.told) is)) (rw (c.as_slice.ensures, c.as_slice-2.ensures) at h)) tests) c.unlock_cm.ensures.fault
