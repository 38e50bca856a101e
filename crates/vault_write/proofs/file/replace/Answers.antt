use Rattle.std.proofs.Common.{◌+◌, Err, refl}
use Rattle.folder_spec.specs.Seen.{under}
use Rattle.content_writing.specs.Content.{still_coming}
use Rattle.content_writing.proofs.Takings.{takes_none}
use Rattle.item_making.specs.declared.fault.PutFault.TheVariants as puts
use Rattle.vault_spec.specs.Making.{NewFile}
use Rattle.vault_write.specs.Calls.{InPlace, most_by}
use Rattle.vault_write.specs.Slots.{placing}
use Rattle.vault_write.proofs.FileMade.{file_refused}
use Rattle.vault_write.proofs.Filing.{reads_outside}
use Rattle.vault_write.proofs.PutMade.{may_replace, put_anyway, replaced_at}
use Rattle.vault_write.proofs.ReplacedMade.{replaced_file}
use Rattle.vault_write.proofs.Takings.{replaced_takes}
use Rattle.vault_write.proofs.file.replace.Goals as goal

pub returns-in_err-buffers-clause-made : goal.returns-in_err-buffers-clause-made
returns-in_err-buffers-clause-made g c =
    file_refused InPlace puts.NoMemory c.from_residual.ensures.1 (λ same. cc same) refl (λ content ending v is. put_anyway (placing c.args.vault.now c.args.work.now c.args.front.now c.args.name.now (NewFile content)) ending (under c.args.vault.now.root v) (Err puts.NoMemory) tt tt tt)

pub replace_entry-requires-clause-may : goal.replace_entry-requires-clause-may
replace_entry-requires-clause-may g c =
    may_replace c.files_have_their_contents.ensures c.args.vault.now c.args.work.now c.args.front.now c.args.name.now c.args.at.now (g.F.Folder.told c.args.folder.now) (g.met.F.Folder.sound c.args.folder.now) c.requires.may c.requires.stands

pub replace_entry-requires-clause-outside : goal.replace_entry-requires-clause-outside
replace_entry-requires-clause-outside g c = reads_outside (g.C.Content.reads c.args.content.now) c.args.work.now c.args.vault.now.root c.requires.elsewhere

pub returns-clause-made : goal.returns-clause-made
returns-clause-made g c =
    replaced_file c.edits_show_trees.ensures.during c.edits_show_trees.ensures.first c.edits_show_trees.ensures.settled c.roots_show_their_own.ensures.edits c.files_are_what_they_give.ensures c.encrypted_files_are_files.ensures
    c.args.vault.now c.args.work.now c.args.front.now c.args.name.now c.requires.allowed c.args.at.now (g.F.Folder.told c.args.folder.now) (g.F.Folder.told c.replace_entry.new.folder) c.requires.may (g.met.F.Folder.sound c.args.folder.now)
    (replaced_at c.args.vault.now (c.items_keep_vaults.ensures c.args.vault.now.vault) c.args.work.now c.args.front.now c.args.name.now c.args.at.now (g.F.Folder.told c.args.folder.now) (g.met.F.Folder.sound c.args.folder.now) c.requires.may c.requires.stands)
    (still_coming (g.C.Content.reads c.args.content.now) (g.F.Folder.told c.args.folder.now) (g.C.Content.coming c.args.content.now)) (still_coming (g.C.Content.reads c.args.content.now) (g.F.Folder.told c.args.folder.now) (g.C.Content.coming c.replace_entry.new.content)) (g.R.Randoms.left c.args.random.now) (g.R.Randoms.left c.replace_entry.new.random) c.replace_entry.result c.replace_entry.ensures.made

pub returns-in_err-buffers-clause-taken : goal.returns-in_err-buffers-clause-taken
returns-in_err-buffers-clause-taken g c = takes_none (most_by c.from_residual.result (g.C.Content.room c.args.content.now + 1)) (g.C.Content.left c.args.content.now)

pub returns-clause-taken : goal.returns-clause-taken
returns-clause-taken g c = replaced_takes c.replace_entry.result (g.C.Content.room c.args.content.now + 1) (g.C.Content.left c.args.content.now) (g.C.Content.left c.replace_entry.new.content) c.replace_entry.ensures.made c.replace_entry.ensures.taken
