use Rattle.std.proofs.Common.{[], ◌∷◌, refl, None, Ok}
use Rattle.std.proofs.lemmas.List.Elements.{Contains-append_left}
use Rattle.folder_spec.specs.Edit.{folder_edit}
use Rattle.vault_spec.specs.Gocryptfs.{key_file}
use Rattle.vault_spec.specs.Making.{full_texts}
use Rattle.vault_write.specs.Editing.{go_making, side_edits}
use Rattle.vault_write.proofs.Placed.{entry_may, doing, doing_first, does_failed}
use Rattle.vault_write.proofs.Adding.{adds_on, finishes, may_beside}
use Rattle.vault_write.proofs.directory.make_go.Goals as goal

pub publish_side-requires : goal.publish_side-requires
publish_side-requires g c = λ v is is_wanted. may_beside ((c.requires.places v is).side_comes is_wanted)

pub publish_directory-requires-clause-may : goal.publish_directory-requires-clause-may
publish_directory-requires-clause-may g c =
    entry_may c.args.work.now c.args.vault.now.root (go_making c.args.wants c.args.slot.now.side c.args.slot.now.at c.args.slot.now.full c.args.key.now) c.args.wants c.args.slot.now.side c.args.slot.now.at
    c.args.slot.now.full (folder_edit c.args.slot.now.at ((key_file, c.args.key.now) ∷ []) ∷ []) (g.F.Folder.told c.args.folder.now) (g.F.Folder.told c.publish_side.new.folder)
    (doing_first c.args.work.now c.args.vault.now.root (go_making c.args.wants c.args.slot.now.side c.args.slot.now.at c.args.slot.now.full c.args.key.now)
    (side_edits c.args.wants c.args.slot.now.side c.args.slot.now.full) (folder_edit c.args.slot.now.at ((key_file, c.args.key.now) ∷ []) ∷ []) (full_texts c.args.slot.now.full) (g.F.Folder.told c.args.folder.now)
    (g.F.Folder.told c.publish_side.new.folder) (Ok tt) refl (λ file among. Contains-append_left (full_texts c.args.slot.now.full) (c.args.key.now ∷ []) file among) c.requires.begun
    (c.in_ok-publish_side.ensures.made None)).1 c.requires.places

pub returns-in_err-publish_directory-clause-made : goal.returns-in_err-publish_directory-clause-made
returns-in_err-publish_directory-clause-made g c =
    does_failed c.args.work.now c.args.vault.now.root (go_making c.args.wants c.args.slot.now.side c.args.slot.now.at c.args.slot.now.full c.args.key.now) (g.F.Folder.told c.args.folder.now)
    (g.F.Folder.told c.publish_directory.new.folder) c.from_residual-in_err-publish_directory.result c.from_residual-in_err-publish_directory.ensures.0
    (doing c.args.work.now c.args.vault.now.root (go_making c.args.wants c.args.slot.now.side c.args.slot.now.at c.args.slot.now.full c.args.key.now) (g.F.Folder.told c.args.folder.now)
    (g.F.Folder.told c.publish_directory.new.folder) c.publish_directory.result c.requires.begun
    (adds_on c.args.work.now (side_edits c.args.wants c.args.slot.now.side c.args.slot.now.full) (folder_edit c.args.slot.now.at ((key_file, c.args.key.now) ∷ []) ∷ []) (full_texts c.args.slot.now.full)
    (c.args.key.now ∷ []) (g.F.Folder.told c.args.folder.now) (g.F.Folder.told c.publish_side.new.folder) (g.F.Folder.told c.publish_directory.new.folder) c.publish_directory.result
    (c.in_ok-publish_side.ensures.made None) c.publish_directory.ensures.made)).0

pub returns-clause-made : goal.returns-clause-made
returns-clause-made g c =
    finishes c.args.work.now c.args.vault.now.root (go_making c.args.wants c.args.slot.now.side c.args.slot.now.at c.args.slot.now.full c.args.key.now) (g.F.Folder.told c.args.folder.now)
    (g.F.Folder.told c.publish_directory.new.folder) (g.F.Folder.told c.settle.new.self) c.settle.result
    (doing c.args.work.now c.args.vault.now.root (go_making c.args.wants c.args.slot.now.side c.args.slot.now.at c.args.slot.now.full c.args.key.now) (g.F.Folder.told c.args.folder.now)
    (g.F.Folder.told c.publish_directory.new.folder) (Ok tt) c.requires.begun
    (adds_on c.args.work.now (side_edits c.args.wants c.args.slot.now.side c.args.slot.now.full) (folder_edit c.args.slot.now.at ((key_file, c.args.key.now) ∷ []) ∷ []) (full_texts c.args.slot.now.full)
    (c.args.key.now ∷ []) (g.F.Folder.told c.args.folder.now) (g.F.Folder.told c.publish_side.new.folder) (g.F.Folder.told c.publish_directory.new.folder) (Ok tt)
    (c.in_ok-publish_side.ensures.made None) c.in_ok-publish_directory.ensures.made)).1
    c.settle.ensures.changes
