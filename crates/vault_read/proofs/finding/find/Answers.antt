use Rattle.std.proofs.Common.{IfOk, IfErr, sym, subst}
use Rattle.std.proofs.lemmas.Result.{IfOk-weaker, IfErr-weaker, err_from_is_err_and}
use Rattle.folder_spec.specs.Seen.{IfSeen, under}
use Rattle.vault_spec.specs.Find.{find, item_there}
use Rattle.vault_spec.specs.Standing.{Standing, standing}
use Rattle.vault_spec.specs.Vault.{format_of}
use Rattle.vault_read.specs.Finding.{Refuses, IsPlace}
use Rattle.vault_read.specs.Stands.{standing_of}
use Rattle.vault_read.proofs.Reaching.{reached_stands, refused_find, refused_there}
use Rattle.vault_read.proofs.finding.find.Goals as goal

pub returns-in_err-here-clause-fault : goal.returns-in_err-here-clause-fault
returns-in_err-here-clause-fault g c =
    let p = err_from_is_err_and c.from_residual.result c.from_residual.ensures.1 in
    let root = c.args.vault.now.root in
    rw (p.1, p.2)
    (λ v is. refused_find root (format_of c.args.vault.now.vault) (under root v) c.args.path.now c.in_err-here.field-0.0 (c.in_err-here.ensures.fault v is))

pub returns-clause-fault : goal.returns-clause-fault
returns-clause-fault g c =
    let root = c.args.vault.now.root in
    let f = format_of c.args.vault.now.vault in
    let path = c.args.path.now in
    let here = standing_of c.in_ok-here.here in
    let t = g.F.Folder.told c.args.folder.now in
    IfErr-weaker c.place_of.result
    (λ fault. Refuses {T = Standing} root (item_there path here) fault)
    (λ fault. IfSeen t (λ v. Refuses {T = Standing} root (find f (under root v) path) fault))
    (λ fault refused v is. refused_there root f (under root v) path here fault (c.in_ok-here.ensures.stands v is) refused)
    (subst (λ r. IfErr c.place_of.result (λ fault. Refuses {T = Standing} r (item_there path here) fault)) c.root.ensures c.place_of.ensures.fault)

pub returns-clause-place : goal.returns-clause-place
returns-clause-place g c =
    let root = c.args.vault.now.root in
    let f = format_of c.args.vault.now.vault in
    let path = c.args.path.now in
    let here = standing_of c.in_ok-here.here in
    let t = g.F.Folder.told c.args.folder.now in
    IfOk-weaker c.place_of.result
    (λ place. IsPlace root here place)
    (λ place. IfSeen t (λ v. IsPlace root (standing f (under root v) path) place))
    (λ place there v is. subst (λ x. IsPlace root x place) (sym (reached_stands f (under root v) path here (c.in_ok-here.ensures.stands v is))) there)
    (subst (λ r. IfOk c.place_of.result (λ place. IsPlace r here place)) c.root.ensures c.place_of.ensures.place)
