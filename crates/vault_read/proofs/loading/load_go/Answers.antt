use Rattle.std.proofs.Common.{Ok}
use Rattle.std.proofs.lemmas.Result.{err_from_is_err_and, IfOk-weaker, IfErr-weaker}
use Rattle.folder_spec.specs.Seen.{under}
use Rattle.vault_spec.specs.Vault.{LoadsGo, TestsGo}
use Rattle.vault_read.specs.Opened.{vault_of}
use Rattle.vault_read.proofs.LoadingLemmas.{loads_go, lacks_go, refuses_as}
use Rattle.vault_read.proofs.loading.load_go.Goals as goal

pub returns-in_err-bytes-clause-fault : goal.returns-in_err-bytes-clause-fault
returns-in_err-bytes-clause-fault g c =
    let p = err_from_is_err_and c.from_residual.result c.from_residual.ensures.1 in
    rw (p.1, p.2)
    (λ v is. refuses_as c.args.root.now _ (LoadsGo (under c.args.root.now v) c.args.pass.now) c.in_err-bytes.field-0.0 (λ answer h. lacks_go c.args.root.now v c.args.pass.now answer h) (c.in_err-bytes.ensures.fault v is))

pub returns-clause-keys : goal.returns-clause-keys
returns-clause-keys g c =
    let root = c.args.root.now in
    let pass = c.args.pass.now in
    IfOk-weaker c.unlock_go.result _ _
    (λ keys tests v is. loads_go root v pass c.in_ok-bytes.bytes (Ok (vault_of keys)) (c.in_ok-bytes.ensures.bytes v is) (rw c.as_slice.ensures at tests)) c.unlock_go.ensures.keys

pub returns-clause-fault : goal.returns-clause-fault
returns-clause-fault g c =
    let root = c.args.root.now in
    let pass = c.args.pass.now in
    IfErr-weaker c.unlock_go.result _ _
    (λ fault tests v is. refuses_as root (TestsGo c.as_slice.result.now pass) (LoadsGo (under root v) pass) fault
    (λ answer h. loads_go root v pass c.in_ok-bytes.bytes answer (c.in_ok-bytes.ensures.bytes v is) (rw c.as_slice.ensures at h)) tests) c.unlock_go.ensures.fault
