use Rattle.std.proofs.Common.{[], ◌∷◌, refl}
use Rattle.folder_spec.specs.Path.{child}
use Rattle.folder_spec.proofs.Tellings.{from_to_same}
use Rattle.folder_spec.proofs.Stages.{Staging, staging_none}
use Rattle.vault_write.proofs.init.stage_in.Goals as goal

pub returns-in_err-at-clause-moments : goal.returns-in_err-at-clause-moments
returns-in_err-at-clause-moments g c =
    let files = c.args.bytes.now ∷ [] in
    let at = child c.args.staged.now c.args.name.now in
    from_to_same (Staging files at) (g.F.Folder.told c.args.folder.now) (g.F.Folder.told c.args.folder.now) refl (staging_none files at)
