use Rattle.std.proofs.Common.{[], ◌∷◌, ◌++◌, refl, Ok}
use Rattle.folder_spec.specs.Edit.{folder_edit}
use Rattle.vault_spec.specs.Cryptomator.{id_file, full_files}
use Rattle.vault_spec.specs.Making.{full_texts}
use Rattle.vault_write.specs.Editing.{cm_making, home_edits}
use Rattle.vault_write.proofs.Placed.{entry_may_then, doing, doing_first, does_failed, none_among}
use Rattle.vault_write.proofs.Adding.{adds_on, finishes}
use Rattle.vault_write.proofs.directory.make_cm.Goals as goal

pub publish_directory-requires-clause-may : goal.publish_directory-requires-clause-may
publish_directory-requires-clause-may g c =
    entry_may_then c.args.work.now c.args.vault.now.root (cm_making c.args.folders.now.wants c.args.folders.now.shelf c.args.folders.now.home c.args.slot.now.at c.args.slot.now.full c.args.id.now) c.args.folders.now.wants c.args.folders.now.shelf c.args.folders.now.home c.args.slot.now.at
    (folder_edit c.args.slot.now.at (full_files c.args.slot.now.full ++ (id_file, c.args.id.now) ∷ []) ∷ []) (g.F.Folder.told c.args.folder.now) (g.F.Folder.told c.make_home.new.folder)
    (doing_first c.args.work.now c.args.vault.now.root (cm_making c.args.folders.now.wants c.args.folders.now.shelf c.args.folders.now.home c.args.slot.now.at c.args.slot.now.full c.args.id.now) (home_edits c.args.folders.now.wants c.args.folders.now.shelf c.args.folders.now.home) (folder_edit c.args.slot.now.at (full_files c.args.slot.now.full ++ (id_file, c.args.id.now) ∷ []) ∷ []) [] (g.F.Folder.told c.args.folder.now) (g.F.Folder.told c.make_home.new.folder) (Ok tt) refl (none_among (full_texts c.args.slot.now.full ++ c.args.id.now ∷ [])) c.requires.begun (c.in_ok-make_home.ensures.made c.args.work.now)).1 c.requires.places

pub returns-in_err-publish_directory-clause-made : goal.returns-in_err-publish_directory-clause-made
returns-in_err-publish_directory-clause-made g c =
    does_failed c.args.work.now c.args.vault.now.root (cm_making c.args.folders.now.wants c.args.folders.now.shelf c.args.folders.now.home c.args.slot.now.at c.args.slot.now.full c.args.id.now) (g.F.Folder.told c.args.folder.now) (g.F.Folder.told c.publish_directory.new.folder) c.from_residual-in_err-publish_directory.result c.from_residual-in_err-publish_directory.ensures.0
    (doing c.args.work.now c.args.vault.now.root (cm_making c.args.folders.now.wants c.args.folders.now.shelf c.args.folders.now.home c.args.slot.now.at c.args.slot.now.full c.args.id.now) (g.F.Folder.told c.args.folder.now) (g.F.Folder.told c.publish_directory.new.folder) c.publish_directory.result c.requires.begun
    (adds_on c.args.work.now (home_edits c.args.folders.now.wants c.args.folders.now.shelf c.args.folders.now.home) (folder_edit c.args.slot.now.at (full_files c.args.slot.now.full ++ (id_file, c.args.id.now) ∷ []) ∷ []) [] (full_texts c.args.slot.now.full ++ c.args.id.now ∷ []) (g.F.Folder.told c.args.folder.now) (g.F.Folder.told c.make_home.new.folder) (g.F.Folder.told c.publish_directory.new.folder) c.publish_directory.result (c.in_ok-make_home.ensures.made c.args.work.now) c.publish_directory.ensures.made)).0

pub returns-clause-made : goal.returns-clause-made
returns-clause-made g c =
    finishes c.args.work.now c.args.vault.now.root (cm_making c.args.folders.now.wants c.args.folders.now.shelf c.args.folders.now.home c.args.slot.now.at c.args.slot.now.full c.args.id.now) (g.F.Folder.told c.args.folder.now) (g.F.Folder.told c.publish_directory.new.folder) (g.F.Folder.told c.settle.new.self) c.settle.result
    (doing c.args.work.now c.args.vault.now.root (cm_making c.args.folders.now.wants c.args.folders.now.shelf c.args.folders.now.home c.args.slot.now.at c.args.slot.now.full c.args.id.now) (g.F.Folder.told c.args.folder.now) (g.F.Folder.told c.publish_directory.new.folder) (Ok tt) c.requires.begun
    (adds_on c.args.work.now (home_edits c.args.folders.now.wants c.args.folders.now.shelf c.args.folders.now.home) (folder_edit c.args.slot.now.at (full_files c.args.slot.now.full ++ (id_file, c.args.id.now) ∷ []) ∷ []) [] (full_texts c.args.slot.now.full ++ c.args.id.now ∷ []) (g.F.Folder.told c.args.folder.now) (g.F.Folder.told c.make_home.new.folder) (g.F.Folder.told c.publish_directory.new.folder) (Ok tt) (c.in_ok-make_home.ensures.made c.args.work.now) c.in_ok-publish_directory.ensures.made)).1
    c.settle.ensures.changes
