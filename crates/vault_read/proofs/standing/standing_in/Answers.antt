use Rattle.std.proofs.Common.{◌≡◌, ap, ◌∙◌}
use Rattle.std.proofs.lemmas.Result.{IfOk-weaker}
use Rattle.folder_spec.specs.Seen.{IfSeen, under}
use Rattle.vault_spec.specs.Format.{Directory}
use Rattle.vault_spec.specs.Standing.{standing_in}
use Rattle.vault_spec.specs.Vault.{format_of}
use Rattle.vault_read.specs.Stands.{standing_of, standing_at}
use Rattle.vault_read.proofs.Keys.{at_name}
use Rattle.vault_read.proofs.standing.standing_in.Goals as goal

pub returns-clause-stands : goal.returns-clause-stands
returns-clause-stands g c =
    let f = format_of c.args.vault.now.vault in
    let root = c.args.vault.now.root in
    let dir = c.args.dir.now in
    let t = g.F.Folder.told c.args.folder.now in
    IfOk-weaker c.standing_at.result
    (λ here. IfSeen t (λ v. standing_of here ≡ standing_at f (under root v) dir c.in_ok-stored.stored))
    (λ here. IfSeen t (λ v. standing_of here ≡ standing_in f (under root v) dir c.args.name.now))
    (λ here stands v is. stands v is ∙ at_name f (under root v) dir c.args.name.now c.in_ok-stored.stored c.bytes-bytes.ensures.named
    (c.in_ok-stored.ensures ∙ ap (λ key. f.stored key c.args.name.now) (c.as_slice.ensures ∙ ap (λ (d : Directory). d.key) c.dir.view_is)))
    c.standing_at.ensures.stands
