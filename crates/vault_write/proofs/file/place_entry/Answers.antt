use Rattle.std.proofs.Common.{◌+◌, ◌∙◌, Some, sym, codes, refl, arith}
use Rattle.folder_spec.proofs.Paths.{child-not_base}
use Rattle.work_folder.specs.Entries.{stage_path}
use Rattle.item_making.specs.Faults.{of_folder}
use Rattle.item_making.specs.declared.fault.PutFault.TheVariants as puts
use Rattle.content_writing.proofs.Blaming.{blames_at, fits_at, folder_blames, folder_fits, folder_undrawn, folder_unread}
use Rattle.content_writing.proofs.Takings.{takes_none}
use Rattle.vault_spec.specs.Vault.{format_of}
use Rattle.vault_write.specs.Filing.{entry_files, entry_view, file_of}
use Rattle.vault_write.proofs.Directories.{directory_free}
use Rattle.vault_write.proofs.Exits.{unblamed}
use Rattle.vault_write.proofs.Filing.{beside_still, entry_allowed, entry_failed, entry_none, entry_placed, entry_stopped, reads_apart, side_failed, staged_by}
use Rattle.vault_write.proofs.file.place_entry.Goals as goal

pub returns-in_err-entry : goal.returns-in_err-entry
returns-in_err-entry g c =
    let result = c.from_residual.result in
    let by_fault = c.from_residual.ensures.1 in
    record {
      made = entry_none puts.NoMemory by_fault tt;
      fits = fits_at (g.C.Content.reads c.args.content.now) result puts.NoMemory by_fault tt;
      reads = refl;
      room = omega arith;
      taken = takes_none (g.C.Content.room c.args.content.now + 1) (g.C.Content.left c.args.content.now);
      lender = refl;
      failed = unblamed result puts.NoMemory puts.Failed by_fault (λ same. cc same) (omega arith);
      source = unblamed result puts.NoMemory puts.Source by_fault (λ same. cc same) (omega arith);
      random = unblamed result puts.NoMemory puts.Random by_fault (λ same. cc same) (omega arith);
    }

pub stage_entry-requires-clause-free : goal.stage_entry-requires-clause-free
stage_entry-requires-clause-free g c = directory_free c.args.work.now (codes "f") c.in_ok-entry.entry c.args.slot.now.at (g.F.Folder.told c.args.folder.now) c.in_ok-entry.ensures (λ v is. (c.requires.places v is).entry)

pub stage_entry-requires-clause-below_base : goal.stage_entry-requires-clause-below_base
stage_entry-requires-clause-below_base g c = λ base. child-not_base (stage_path c.args.work.now) (codes "f") (sym c.in_ok-entry.ensures ∙ base)

pub stage_entry-requires-clause-apart : goal.stage_entry-requires-clause-apart
stage_entry-requires-clause-apart g c = reads_apart (g.C.Content.reads c.args.content.now) c.args.work.now c.in_ok-entry.entry (codes "f") c.in_ok-entry.ensures c.requires.outside

pub returns-in_err-stage_entry : goal.returns-in_err-stage_entry
returns-in_err-stage_entry g c =
    let result = c.from_residual-in_err-stage_entry.result in
    let by_fault = c.from_residual-in_err-stage_entry.ensures.1 in
    let fault = c.in_err-stage_entry.field-0.0 in
    let e = c.in_err-stage_entry.ensures in
    record {
      made = entry_stopped fault by_fault c.in_ok-entry.ensures (staged_by c.content_keys.ensures e.staged);
      fits = fits_at (g.C.Content.reads c.args.content.now) result fault by_fault e.fits;
      reads = e.reads;
      room = e.room;
      taken = e.taken;
      lender = e.lender;
      failed = blames_at result fault puts.Failed _ _ by_fault e.failed;
      source = blames_at result fault puts.Source _ _ by_fault e.source;
      random = blames_at result fault puts.Random _ _ by_fault e.random;
    }

pub publish_side-requires : goal.publish_side-requires
publish_side-requires g c =
    beside_still c.args.work.now c.args.slot.now.side c.in_ok-entry.entry (entry_files c.args.inside.now (file_of c.content_keys.result c.in_ok-stage_entry.ensures.staged.writing)) c.args.wants c.args.slot.now.at
    (g.F.Folder.told c.args.folder.now) (g.F.Folder.told c.stage_entry.new.folder) c.in_ok-entry.ensures (g.met.F.Folder.sound c.args.folder.now) c.in_ok-stage_entry.ensures.staged.stages c.requires.places

pub returns-in_err-publish_side : goal.returns-in_err-publish_side
returns-in_err-publish_side g c =
    let result = c.from_residual-in_err-publish_side.result in
    let by_fault = c.from_residual-in_err-publish_side.ensures.1 in
    let fault = c.in_err-publish_side.field-0.0 in
    let before = c.in_ok-stage_entry.ensures in
    record {
      made = side_failed c.args.work.now c.args.vault.now.root c.args.slot.now.at c.args.slot.now.side c.args.beside.now c.args.wants c.in_ok-entry.ensures (g.met.F.Folder.sound c.stage_entry.new.folder) c.requires.places c.requires.begun (staged_by c.content_keys.ensures before.staged)
          (g.F.Folder.told c.publish_side.new.folder) fault result by_fault
          (c.in_err-publish_side.ensures.made (Some (entry_view c.args.inside.now (file_of (format_of c.args.vault.now.vault).content (staged_by c.content_keys.ensures before.staged).writing))));
      fits = fits_at (g.C.Content.reads c.args.content.now) result (of_folder fault) by_fault (folder_fits (g.C.Content.reads c.args.content.now) fault);
      reads = before.reads;
      room = before.room;
      taken = before.taken;
      lender = before.lender;
      failed = blames_at result (of_folder fault) puts.Failed _ _ by_fault (folder_blames _ _ _ fault before.failed.0 c.in_err-publish_side.ensures.counts);
      source = unblamed result (of_folder fault) puts.Source by_fault (folder_unread fault) before.source.0;
      random = unblamed result (of_folder fault) puts.Random by_fault (folder_undrawn fault) before.random.0;
    }

pub publish_entry-requires : goal.publish_entry-requires
publish_entry-requires g c =
    let before = c.in_ok-stage_entry.ensures in
    entry_allowed c.args.work.now c.args.vault.now.root c.args.slot.now.at c.args.slot.now.side c.args.beside.now c.args.wants c.in_ok-entry.ensures (g.met.F.Folder.sound c.stage_entry.new.folder) c.requires.places c.requires.begun (staged_by c.content_keys.ensures before.staged)
    (g.F.Folder.told c.publish_side.new.folder) (c.in_ok-publish_side.ensures.made (Some (entry_view c.args.inside.now (file_of (format_of c.args.vault.now.vault).content (staged_by c.content_keys.ensures before.staged).writing))))

pub returns-in_err-publish_entry : goal.returns-in_err-publish_entry
returns-in_err-publish_entry g c =
    let result = c.from_residual-in_err-publish_entry.result in
    let by_fault = c.from_residual-in_err-publish_entry.ensures.1 in
    let fault = c.in_err-publish_entry.field-0.0 in
    let before = c.in_ok-stage_entry.ensures in
    record {
      made = entry_failed c.args.work.now c.args.vault.now.root c.args.slot.now.at c.args.slot.now.side c.args.beside.now c.args.wants c.in_ok-entry.ensures (g.met.F.Folder.sound c.stage_entry.new.folder) c.requires.places c.requires.begun (staged_by c.content_keys.ensures before.staged)
          (g.F.Folder.told c.publish_side.new.folder) (c.in_ok-publish_side.ensures.made (Some (entry_view c.args.inside.now (file_of (format_of c.args.vault.now.vault).content (staged_by c.content_keys.ensures before.staged).writing))))
          (g.F.Folder.told c.publish_entry.new.folder) fault result by_fault c.in_err-publish_entry.ensures.published;
      fits = fits_at (g.C.Content.reads c.args.content.now) result (of_folder fault) by_fault (folder_fits (g.C.Content.reads c.args.content.now) fault);
      reads = before.reads;
      room = before.room;
      taken = before.taken;
      lender = before.lender;
      failed = blames_at result (of_folder fault) puts.Failed _ _ by_fault (folder_blames _ _ _ fault (omega (arith, before.failed.0, c.in_ok-publish_side.ensures.counts)) c.in_err-publish_entry.ensures.counts);
      source = unblamed result (of_folder fault) puts.Source by_fault (folder_unread fault) before.source.0;
      random = unblamed result (of_folder fault) puts.Random by_fault (folder_undrawn fault) before.random.0;
    }

pub returns-clause-made : goal.returns-clause-made
returns-clause-made g c =
    let before = c.in_ok-stage_entry.ensures in
    entry_placed c.args.work.now c.args.vault.now.root c.args.slot.now.at c.args.slot.now.side c.args.beside.now c.args.wants c.in_ok-entry.ensures (g.met.F.Folder.sound c.stage_entry.new.folder) c.requires.places c.requires.begun (staged_by c.content_keys.ensures before.staged)
    (g.F.Folder.told c.publish_side.new.folder) (c.in_ok-publish_side.ensures.made (Some (entry_view c.args.inside.now (file_of (format_of c.args.vault.now.vault).content (staged_by c.content_keys.ensures before.staged).writing))))
    (g.F.Folder.told c.publish_entry.new.folder) c.in_ok-publish_entry.ensures.published
