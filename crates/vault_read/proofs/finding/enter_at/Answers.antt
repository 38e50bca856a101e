use Rattle.std.proofs.Common.{◌≡◌, Ok, ◌∙◌}
use Rattle.std.proofs.lemmas.Result.{IfOk-weaker, IfErr-weaker, err_from_is_err_and}
use Rattle.folder_spec.specs.Seen.{IfSeen, under}
use Rattle.vault_spec.specs.Find.{enter, entered}
use Rattle.vault_spec.specs.Format.{Directory}
use Rattle.vault_spec.specs.Standing.{Dir, standing}
use Rattle.vault_spec.specs.Vault.{format_of}
use Rattle.vault_read.specs.Finding.{Refuses}
use Rattle.vault_read.specs.Stands.{standing_of}
use Rattle.vault_read.proofs.Reaching.{reached_stands, refused_enter, not_entered_there}
use Rattle.vault_read.proofs.finding.enter_at.Goals as goal

pub returns-in_err-here-clause-fault : goal.returns-in_err-here-clause-fault
returns-in_err-here-clause-fault g c =
    let p = err_from_is_err_and c.from_residual.result c.from_residual.ensures.1 in
    let root = c.args.vault.now.root in
    rw (p.1, p.2)
    (λ v is. refused_enter root (format_of c.args.vault.now.vault) (under root v) c.args.path.now c.in_err-here.field-0.0 (c.in_err-here.ensures.fault v is))

pub returns-clause-fault : goal.returns-clause-fault
returns-clause-fault g c =
    let root = c.args.vault.now.root in
    let f = format_of c.args.vault.now.vault in
    let path = c.args.path.now in
    let here = standing_of c.in_ok-here.here in
    let t = g.F.Folder.told c.args.folder.now in
    IfErr-weaker c.enter_here.result
    (λ fault. Refuses {T = Directory} root (entered path here) fault)
    (λ fault. IfSeen t (λ v. Refuses {T = Directory} root (enter f (under root v) path) fault))
    (λ fault refused v is. not_entered_there root f (under root v) path here fault (c.in_ok-here.ensures.stands v is) refused)
    c.enter_here.ensures.fault

pub returns-clause-stands : goal.returns-clause-stands
returns-clause-stands g c =
    let root = c.args.vault.now.root in
    let f = format_of c.args.vault.now.vault in
    let path = c.args.path.now in
    let here = standing_of c.in_ok-here.here in
    let t = g.F.Folder.told c.args.folder.now in
    IfOk-weaker c.enter_here.result
    (λ entered. here ≡ Dir entered.at (Ok entered.dir))
    (λ entered. IfSeen t (λ v. standing f (under root v) path ≡ Dir entered.at (Ok entered.dir)))
    (λ entered same v is. reached_stands f (under root v) path here (c.in_ok-here.ensures.stands v is) ∙ same)
    c.enter_here.ensures.stands
