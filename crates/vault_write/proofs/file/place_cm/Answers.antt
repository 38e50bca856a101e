use Rattle.std.proofs.Common.{◌+◌}
use Rattle.content_writing.specs.Content.{still_coming}
use Rattle.vault_write.proofs.FileBegun.{cm_file_places}
use Rattle.vault_write.proofs.FileMade.{cm_begins, cm_placed}
use Rattle.vault_write.proofs.Filing.{reads_outside}
use Rattle.vault_write.proofs.Takings.{placed_takes}
use Rattle.vault_write.proofs.file.place_cm.Goals as goal

pub place_entry-requires-clause-begun : goal.place_entry-requires-clause-begun
place_entry-requires-clause-begun g c = λ w.
    cm_begins c.edits_show_trees.ensures.during c.edits_show_trees.ensures.first c.edits_show_trees.ensures.settled c.roots_show_their_own.ensures.edits c.files_are_what_they_give.ensures c.encrypted_files_are_files.ensures
    c.what_is_found_stands.ensures.enters c.args.vault.now (c.items_keep_vaults.ensures c.args.vault.now.vault) c.args.work.now c.args.front.now c.args.name.now c.requires.named
    c.args.slot.now.at c.args.slot.now.side c.args.slot.now.full (g.F.Folder.told c.args.folder.now) (g.met.F.Folder.sound c.args.folder.now) c.requires.may c.requires.slot c.requires.kind w

pub place_entry-requires-clause-places : goal.place_entry-requires-clause-places
place_entry-requires-clause-places g c =
    cm_file_places c.what_is_found_stands.ensures.enters c.what_is_found_stands.ensures.folder c.args.vault.now c.args.work.now c.args.front.now c.args.name.now (g.F.Folder.told c.args.folder.now) c.requires.may
    c.args.slot.now.at c.args.slot.now.side c.args.slot.now.full c.requires.slot

pub place_entry-requires-clause-outside : goal.place_entry-requires-clause-outside
place_entry-requires-clause-outside g c = reads_outside (g.C.Content.reads c.args.content.now) c.args.work.now c.args.vault.now.root c.requires.elsewhere

pub returns-clause-made : goal.returns-clause-made
returns-clause-made g c =
    cm_placed c.edits_show_trees.ensures.during c.edits_show_trees.ensures.first c.edits_show_trees.ensures.settled c.roots_show_their_own.ensures.edits c.files_are_what_they_give.ensures c.encrypted_files_are_files.ensures
    c.what_is_found_stands.ensures.enters c.args.vault.now (c.items_keep_vaults.ensures c.args.vault.now.vault) c.args.work.now c.args.front.now c.args.name.now c.requires.named
    c.args.slot.now.at c.args.slot.now.side c.args.slot.now.full (g.F.Folder.told c.args.folder.now) (g.met.F.Folder.sound c.args.folder.now) c.requires.may c.requires.slot
    c.requires.kind (still_coming (g.C.Content.reads c.args.content.now) (g.F.Folder.told c.args.folder.now) (g.C.Content.coming c.args.content.now)) (still_coming (g.C.Content.reads c.args.content.now) (g.F.Folder.told c.args.folder.now) (g.C.Content.coming c.place_entry.new.content)) (g.R.Randoms.left c.args.random.now) (g.R.Randoms.left c.place_entry.new.random) (g.F.Folder.told c.place_entry.new.folder) c.place_entry.result
    c.place_entry.ensures.made

pub returns-clause-taken : goal.returns-clause-taken
returns-clause-taken g c = placed_takes c.place_entry.result (g.C.Content.room c.args.content.now + 1) (g.C.Content.left c.args.content.now) (g.C.Content.left c.place_entry.new.content) c.place_entry.ensures.made c.place_entry.ensures.taken
