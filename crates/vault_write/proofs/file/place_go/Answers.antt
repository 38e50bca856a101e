use Rattle.std.proofs.Common.{◌+◌}
use Rattle.content_writing.specs.Content.{still_coming}
use Rattle.content_writing.proofs.Takings.{takes_none}
use Rattle.vault_spec.specs.Making.{NewFile}
use Rattle.vault_write.specs.Calls.{New, most_by}
use Rattle.vault_write.proofs.Exits.{place_drew}
use Rattle.vault_write.proofs.FileBegun.{file_places}
use Rattle.vault_write.proofs.FileMade.{file_refused, go_begins, go_placed, placed_at}
use Rattle.vault_write.proofs.Filing.{reads_outside}
use Rattle.vault_write.proofs.Found.{side_refused}
use Rattle.vault_write.proofs.Takings.{placed_takes}
use Rattle.vault_write.proofs.file.place_go.Goals as goal

pub returns-in_err-wants-clause-made : goal.returns-in_err-wants-clause-made
returns-in_err-wants-clause-made g c =
    file_refused New c.in_err-wants.field-0.0 c.from_residual.ensures.1 (place_drew c.in_err-wants.field-0.0 c.in_err-wants.ensures.kind) c.wants_side.ensures.told
    (λ content. side_refused c.args.vault.now.root c.args.vault.now.vault c.requires.kind c.args.front.now c.args.name.now (g.F.Folder.told c.args.folder.now) c.args.slot.now.at c.args.slot.now.side c.args.slot.now.full
    c.requires.slot (NewFile content) c.in_err-wants.field-0.0 c.in_err-wants.ensures.taken c.args.work.now)

pub place_entry-requires-clause-begun : goal.place_entry-requires-clause-begun
place_entry-requires-clause-begun g c = rw c.wants_side.ensures.told (λ w.
    go_begins c.edits_show_trees.ensures.during c.edits_show_trees.ensures.first c.edits_show_trees.ensures.settled c.roots_show_their_own.ensures.edits c.files_are_what_they_give.ensures c.encrypted_files_are_files.ensures
    c.what_is_found_stands.ensures.enters c.args.vault.now (c.items_keep_vaults.ensures c.args.vault.now.vault) c.args.work.now c.args.front.now c.args.name.now c.requires.named
    c.args.slot.now.at c.args.slot.now.side c.args.slot.now.full (g.F.Folder.told c.args.folder.now) (g.met.F.Folder.sound c.args.folder.now) c.requires.may c.requires.slot
    c.requires.kind c.in_ok-wants.wants c.in_ok-wants.ensures.wants w)

pub place_entry-requires-clause-places : goal.place_entry-requires-clause-places
place_entry-requires-clause-places g c = rw c.wants_side.ensures.told
    (file_places c.what_is_found_stands.ensures.enters c.what_is_found_stands.ensures.folder c.args.vault.now.root c.args.vault.now.vault c.requires.kind c.args.work.now c.args.front.now c.args.name.now (g.F.Folder.told c.args.folder.now) c.requires.may
    c.args.slot.now.at c.args.slot.now.side c.args.slot.now.full c.in_ok-wants.wants c.requires.slot c.in_ok-wants.ensures.wants)

pub place_entry-requires-clause-ready : goal.place_entry-requires-clause-ready
place_entry-requires-clause-ready g c = rw c.wants_side.ensures.told c.requires.ready

pub place_entry-requires-clause-outside : goal.place_entry-requires-clause-outside
place_entry-requires-clause-outside g c = reads_outside (g.C.Content.reads c.args.content.now) c.args.work.now c.args.vault.now.root c.requires.elsewhere

pub returns-clause-made : goal.returns-clause-made
returns-clause-made g c =
    placed_at (g.C.Content.reads c.args.content.now) (g.C.Content.coming c.args.content.now) (g.C.Content.coming c.place_entry.new.content) c.wants_side.ensures.told
    (go_placed c.edits_show_trees.ensures.during c.edits_show_trees.ensures.first c.edits_show_trees.ensures.settled c.roots_show_their_own.ensures.edits c.files_are_what_they_give.ensures c.encrypted_files_are_files.ensures
    c.what_is_found_stands.ensures.enters c.args.vault.now (c.items_keep_vaults.ensures c.args.vault.now.vault) c.args.work.now c.args.front.now c.args.name.now c.requires.named
    c.args.slot.now.at c.args.slot.now.side c.args.slot.now.full (g.F.Folder.told c.wants_side.new.folder) (g.met.F.Folder.sound c.wants_side.new.folder) (rw c.wants_side.ensures.told c.requires.may) (rw c.wants_side.ensures.told c.requires.slot)
    c.requires.kind c.in_ok-wants.wants (rw c.wants_side.ensures.told c.in_ok-wants.ensures.wants)
    (still_coming (g.C.Content.reads c.args.content.now) (g.F.Folder.told c.wants_side.new.folder) (g.C.Content.coming c.args.content.now)) (still_coming (g.C.Content.reads c.args.content.now) (g.F.Folder.told c.wants_side.new.folder) (g.C.Content.coming c.place_entry.new.content))
    (g.R.Randoms.left c.args.random.now) (g.R.Randoms.left c.place_entry.new.random) (g.F.Folder.told c.place_entry.new.folder) c.place_entry.result
    c.place_entry.ensures.made)

pub returns-in_err-wants-clause-taken : goal.returns-in_err-wants-clause-taken
returns-in_err-wants-clause-taken g c = takes_none (most_by c.from_residual.result (g.C.Content.room c.args.content.now + 1)) (g.C.Content.left c.args.content.now)

pub returns-clause-taken : goal.returns-clause-taken
returns-clause-taken g c = placed_takes c.place_entry.result (g.C.Content.room c.args.content.now + 1) (g.C.Content.left c.args.content.now) (g.C.Content.left c.place_entry.new.content) c.place_entry.ensures.made c.place_entry.ensures.taken
