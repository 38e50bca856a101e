use Rattle.std.proofs.Common.{[], ◌∷◌}
use Rattle.folder_spec.specs.Edit.{file_edit}
use Rattle.folder_spec.specs.Event.{Rename}
use Rattle.folder_model.proofs.Counting.{counts_after}
use Rattle.vault_write.proofs.Adding.{staging_failed, bytes_renamed, bytes_may, stage_there}
use Rattle.vault_write.proofs.Edited.{name_beside}
use Rattle.vault_write.proofs.stage.publish_bytes.Goals as goal

pub stage_file-requires : goal.stage_file-requires
stage_file-requires g c = stage_there c.args.work.now c.in_ok-staged.staged c.args.at.now (g.F.Folder.told c.args.folder.now) c.in_ok-staged.ensures c.requires

pub returns-in_err-stage_file-clause-made : goal.returns-in_err-stage_file-clause-made
returns-in_err-stage_file-clause-made g c = λ held.
    staging_failed held c.args.work.now (110 ∷ []) c.in_ok-staged.staged (file_edit c.args.at.now c.args.bytes.now) (c.args.bytes.now ∷ []) (g.F.Folder.told c.args.folder.now) (g.F.Folder.told c.stage_file.new.folder)
    c.from_residual-in_err-stage_file.result c.in_ok-staged.ensures c.from_residual-in_err-stage_file.ensures.0 c.stage_file.ensures.moments

pub returns-clause-made : goal.returns-clause-made
returns-clause-made g c = λ held.
    bytes_renamed held c.args.work.now (110 ∷ []) c.in_ok-staged.staged c.args.at.now c.args.bytes.now (g.F.Folder.told c.args.folder.now) (g.F.Folder.told c.stage_file.new.folder)
    (g.F.Folder.told c.rename.new.self) c.rename.result c.in_ok-staged.ensures (name_beside c.args.work.now held) (g.met.F.Folder.sound c.stage_file.new.folder) c.requires c.in_ok-stage_file.ensures.moments c.in_ok-stage_file.ensures.written
    c.rename.ensures.changes

pub returns-clause-counts : goal.returns-clause-counts
returns-clause-counts g c =
    counts_after (Rename c.in_ok-staged.staged c.args.at.now) (g.F.Folder.told c.stage_file.new.folder) (g.F.Folder.told c.rename.new.self)
    (g.F.Folder.faults c.args.folder.now) (g.F.Folder.faults c.stage_file.new.folder) (g.F.Folder.faults c.rename.new.self) c.rename.result c.in_ok-stage_file.ensures.counts
    (bytes_may c.args.work.now (110 ∷ []) c.in_ok-staged.staged c.args.at.now c.args.bytes.now (g.F.Folder.told c.args.folder.now) (g.F.Folder.told c.stage_file.new.folder) c.in_ok-staged.ensures
    (g.met.F.Folder.sound c.args.folder.now) (g.met.F.Folder.sound c.stage_file.new.folder) c.requires c.in_ok-stage_file.ensures.moments c.in_ok-stage_file.ensures.written)
    c.rename.ensures.changes c.rename.ensures.counts
