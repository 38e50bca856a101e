use Rattle.std.proofs.Common.{◌+◌, ◌∙◌, sym, codes}
use Rattle.folder_spec.proofs.Paths.{child-not_base}
use Rattle.work_folder.specs.Entries.{stage_path}
use Rattle.item_making.specs.declared.fault.PutFault.TheVariants as puts
use Rattle.content_writing.proofs.Blaming.{fits_at, folder_fits}
use Rattle.content_writing.proofs.Takings.{takes_none}
use Rattle.vault_write.specs.Filing.{file_of}
use Rattle.vault_write.proofs.Filing.{reads_apart}
use Rattle.vault_write.proofs.Replacing.{replace_failed, replace_free, replace_none, replace_placed, replace_stopped, replaces_allowed}
use Rattle.vault_write.proofs.file.replace_entry.Goals as goal

pub returns-in_err-staged-clause-made : goal.returns-in_err-staged-clause-made
returns-in_err-staged-clause-made g c = replace_none puts.NoMemory c.from_residual.ensures.1 tt

pub stage_entry-requires-clause-free : goal.stage_entry-requires-clause-free
stage_entry-requires-clause-free g c = replace_free c.args.work.now c.args.vault.now.root c.args.at.now (codes "f") c.in_ok-staged.staged (g.F.Folder.told c.args.folder.now) c.in_ok-staged.ensures c.requires.may

pub stage_entry-requires-clause-below_base : goal.stage_entry-requires-clause-below_base
stage_entry-requires-clause-below_base g c = λ base. child-not_base (stage_path c.args.work.now) (codes "f") (sym c.in_ok-staged.ensures ∙ base)

pub stage_entry-requires-clause-apart : goal.stage_entry-requires-clause-apart
stage_entry-requires-clause-apart g c = reads_apart (g.C.Content.reads c.args.content.now) c.args.work.now c.in_ok-staged.staged (codes "f") c.in_ok-staged.ensures c.requires.outside

pub returns-in_err-stage_entry-clause-made : goal.returns-in_err-stage_entry-clause-made
returns-in_err-stage_entry-clause-made g c =
    rw (sym c.content_keys.ensures) (replace_stopped c.in_err-stage_entry.field-0.0 c.from_residual-in_err-stage_entry.ensures.1 c.in_ok-staged.ensures c.in_err-stage_entry.ensures.staged)

pub publish_entry-requires : goal.publish_entry-requires
publish_entry-requires g c =
    replaces_allowed c.args.work.now c.args.vault.now.root c.args.at.now (file_of c.content_keys.result c.in_ok-stage_entry.ensures.staged.writing) (codes "f") c.in_ok-staged.staged (g.F.Folder.told c.args.folder.now) (g.F.Folder.told c.stage_entry.new.folder) c.in_ok-staged.ensures
    (g.met.F.Folder.sound c.stage_entry.new.folder) c.requires.may c.in_ok-stage_entry.ensures.staged.ends.1

pub returns-in_err-publish_entry-clause-made : goal.returns-in_err-publish_entry-clause-made
returns-in_err-publish_entry-clause-made g c =
    rw (sym c.content_keys.ensures) (replace_failed (g.F.Folder.told c.publish_entry.new.folder) c.in_ok-staged.ensures c.requires.may c.in_ok-stage_entry.ensures.staged c.in_err-publish_entry.field-0.0 c.from_residual-in_err-publish_entry.ensures.1 c.in_err-publish_entry.ensures.replaced)

pub returns-clause-made : goal.returns-clause-made
returns-clause-made g c =
    rw (sym c.content_keys.ensures) (replace_placed (g.F.Folder.told c.publish_entry.new.folder) c.in_ok-staged.ensures c.requires.may c.in_ok-stage_entry.ensures.staged c.in_ok-publish_entry.ensures.replaced)

pub returns-in_err-staged-clause-fits : goal.returns-in_err-staged-clause-fits
returns-in_err-staged-clause-fits g c = fits_at (g.C.Content.reads c.args.content.now) c.from_residual.result puts.NoMemory c.from_residual.ensures.1 tt

pub returns-in_err-stage_entry-clause-fits : goal.returns-in_err-stage_entry-clause-fits
returns-in_err-stage_entry-clause-fits g c =
    fits_at (g.C.Content.reads c.args.content.now) c.from_residual-in_err-stage_entry.result c.in_err-stage_entry.field-0.0 c.from_residual-in_err-stage_entry.ensures.1 c.in_err-stage_entry.ensures.fits

pub returns-in_err-publish_entry-clause-fits : goal.returns-in_err-publish_entry-clause-fits
returns-in_err-publish_entry-clause-fits g c =
    let reads = g.C.Content.reads c.args.content.now in
    fits_at reads c.from_residual-in_err-publish_entry.result _ c.from_residual-in_err-publish_entry.ensures.1 (folder_fits reads c.in_err-publish_entry.field-0.0)

pub returns-in_err-staged-clause-taken : goal.returns-in_err-staged-clause-taken
returns-in_err-staged-clause-taken g c = takes_none (g.C.Content.room c.args.content.now + 1) (g.C.Content.left c.args.content.now)
