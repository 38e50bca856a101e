use Rattle.std.proofs.Common.{arith, [], ◌∷◌, ◌++◌}
use Rattle.folder_spec.specs.Edit.{folder_edit}
use Rattle.folder_spec.specs.Event.{Rename}
use Rattle.folder_model.proofs.Counting.{counts_after}
use Rattle.vault_spec.specs.Cryptomator.{full_files}
use Rattle.vault_spec.specs.Making.{full_texts}
use Rattle.vault_write.proofs.Directories.{directory_free, directory_failed, directory_renamed, directory_may, name_place, name_among, key_among, key_staged}
use Rattle.vault_write.proofs.stage.publish_directory.Goals as goal

pub stage_directory-requires : goal.stage_directory-requires
stage_directory-requires g c = directory_free c.args.work.now (102 ∷ []) c.in_ok-staged.staged c.args.at.now (g.F.Folder.told c.args.folder.now) c.in_ok-staged.ensures c.requires.may

pub returns-in_err-stage_directory-clause-made : goal.returns-in_err-stage_directory-clause-made
returns-in_err-stage_directory-clause-made g c =
    directory_failed c.args.work.now (102 ∷ []) c.in_ok-staged.staged (folder_edit c.args.at.now (full_files c.args.full.now ++ (c.args.key_name.now, c.args.key.now) ∷ []) ∷ []) (full_texts c.args.full.now ++ c.args.key.now ∷ [])
    (g.F.Folder.told c.args.folder.now) (g.F.Folder.told c.stage_directory.new.folder) c.from_residual-in_err-stage_directory.result c.in_ok-staged.ensures c.from_residual-in_err-stage_directory.ensures.0
    (key_staged c.args.full.now c.in_ok-staged.staged c.args.key_name.now c.args.key.now (g.F.Folder.told c.args.folder.now) (g.F.Folder.told c.stage_directory.new.folder) c.stage_directory.result
    c.stage_directory.ensures.staged).0

pub stage_name-requires : goal.stage_name-requires
stage_name-requires g c =
    name_place c.staged_folders_are_seen.ensures c.in_ok-staged.staged (full_texts c.args.full.now ++ c.args.key.now ∷ []) c.args.key_name.now c.args.key.now (g.F.Folder.told c.args.folder.now)
    (g.F.Folder.told c.stage_directory.new.folder) c.requires.name
    (c.in_ok-stage_directory.ensures.staged (full_texts c.args.full.now ++ c.args.key.now ∷ []) (key_among c.args.full.now c.args.key.now)).1

pub returns-in_err-stage_name-clause-made : goal.returns-in_err-stage_name-clause-made
returns-in_err-stage_name-clause-made g c =
    directory_failed c.args.work.now (102 ∷ []) c.in_ok-staged.staged (folder_edit c.args.at.now (full_files c.args.full.now ++ (c.args.key_name.now, c.args.key.now) ∷ []) ∷ []) (full_texts c.args.full.now ++ c.args.key.now ∷ [])
    (g.F.Folder.told c.args.folder.now) (g.F.Folder.told c.stage_name.new.folder) c.from_residual-in_err-stage_name.result c.in_ok-staged.ensures c.from_residual-in_err-stage_name.ensures.0
    (c.stage_name.ensures.staged (g.F.Folder.told c.args.folder.now) (full_texts c.args.full.now ++ c.args.key.now ∷ []) ((c.args.key_name.now, c.args.key.now) ∷ []) (name_among c.args.full.now c.args.key.now)
    (c.in_ok-stage_directory.ensures.staged (full_texts c.args.full.now ++ c.args.key.now ∷ []) (key_among c.args.full.now c.args.key.now)).1).0

pub returns-clause-made : goal.returns-clause-made
returns-clause-made g c =
    directory_renamed c.args.work.now (102 ∷ []) c.in_ok-staged.staged c.args.at.now (full_files c.args.full.now ++ (c.args.key_name.now, c.args.key.now) ∷ []) (full_texts c.args.full.now ++ c.args.key.now ∷ [])
    (g.F.Folder.told c.args.folder.now) (g.F.Folder.told c.stage_name.new.folder) (g.F.Folder.told c.rename.new.self) c.rename.result c.in_ok-staged.ensures (g.met.F.Folder.sound c.stage_name.new.folder) c.requires.may
    (c.in_ok-stage_name.ensures.staged (g.F.Folder.told c.args.folder.now) (full_texts c.args.full.now ++ c.args.key.now ∷ []) ((c.args.key_name.now, c.args.key.now) ∷ []) (name_among c.args.full.now c.args.key.now)
    (c.in_ok-stage_directory.ensures.staged (full_texts c.args.full.now ++ c.args.key.now ∷ []) (key_among c.args.full.now c.args.key.now)).1).1
    c.rename.ensures.changes

pub returns-clause-counts : goal.returns-clause-counts
returns-clause-counts g c =
    counts_after (Rename c.in_ok-staged.staged c.args.at.now) (g.F.Folder.told c.stage_name.new.folder) (g.F.Folder.told c.rename.new.self)
    (g.F.Folder.faults c.args.folder.now) (g.F.Folder.faults c.stage_name.new.folder) (g.F.Folder.faults c.rename.new.self) c.rename.result
    (omega (arith, c.in_ok-stage_directory.ensures.counts, c.in_ok-stage_name.ensures.counts))
    (directory_may c.args.work.now (102 ∷ []) c.in_ok-staged.staged c.args.at.now (full_files c.args.full.now ++ (c.args.key_name.now, c.args.key.now) ∷ []) (full_texts c.args.full.now ++ c.args.key.now ∷ [])
    (g.F.Folder.told c.args.folder.now) (g.F.Folder.told c.stage_name.new.folder) c.in_ok-staged.ensures
    (g.met.F.Folder.sound c.args.folder.now) (g.met.F.Folder.sound c.stage_name.new.folder) c.requires.may
    (c.in_ok-stage_name.ensures.staged (g.F.Folder.told c.args.folder.now) (full_texts c.args.full.now ++ c.args.key.now ∷ []) ((c.args.key_name.now, c.args.key.now) ∷ []) (name_among c.args.full.now c.args.key.now)
    (c.in_ok-stage_directory.ensures.staged (full_texts c.args.full.now ++ c.args.key.now ∷ []) (key_among c.args.full.now c.args.key.now)).1).1)
    c.rename.ensures.changes c.rename.ensures.counts
