use Rattle.std.proofs.Common.{◌+◌, [], refl, arith}
use Rattle.content_writing.specs.Content.{still_coming}
use Rattle.item_making.specs.Faults.{of_folder}
use Rattle.item_making.specs.declared.fault.PutFault.TheVariants as puts
use Rattle.content_writing.proofs.Blaming.{blames_at, fits_at, folder_blames, folder_fits, folder_undrawn, folder_unread}
use Rattle.content_writing.proofs.Takings.{takes_none}
use Rattle.folder_model.proofs.Counting.{rose_since}
use Rattle.vault_spec.specs.Cryptomator.{content_file}
use Rattle.vault_write.specs.Filing.{StagesEntry}
use Rattle.vault_write.proofs.Directories.{place_in}
use Rattle.vault_write.proofs.Exits.{at_fault, unblamed}
use Rattle.vault_write.proofs.Filing.{inner_failed, inner_staged, inner_stopped, name_in_place, reads_apart_in, stages_none, still_ready, stops_folder, untaken}
use Rattle.vault_write.proofs.file.stage_folder.Goals as goal

pub returns-in_err-begin_folder : goal.returns-in_err-begin_folder
returns-in_err-begin_folder g c =
    let result = c.from_residual.result in
    let by_fault = c.from_residual.ensures.1 in
    let fault = c.in_err-begin_folder.field-0.0 in
    record {
      staged =
          at_fault (StagesEntry c.args.keys c.args.full.now c.args.staged.now (still_coming (g.C.Content.reads c.args.content.now) (g.F.Folder.told c.args.folder.now) (g.C.Content.coming c.args.content.now)) (still_coming (g.C.Content.reads c.args.content.now) (g.F.Folder.told c.args.folder.now) (g.C.Content.coming c.args.content.now)) (g.R.Randoms.left c.args.random.now) (g.R.Randoms.left c.args.random.now) (g.F.Folder.told c.args.folder.now) (g.F.Folder.told c.begin_folder.new.folder)) c.from_residual.result (of_folder c.in_err-begin_folder.field-0.0) c.from_residual.ensures.1
          (stages_none c.args.keys c.args.full.now c.args.staged.now (still_coming (g.C.Content.reads c.args.content.now) (g.F.Folder.told c.args.folder.now) (g.C.Content.coming c.args.content.now)) (g.R.Randoms.left c.args.random.now) (g.F.Folder.told c.args.folder.now) (g.F.Folder.told c.begin_folder.new.folder) (of_folder c.in_err-begin_folder.field-0.0)
          (stops_folder c.args.keys (untaken (still_coming (g.C.Content.reads c.args.content.now) (g.F.Folder.told c.args.folder.now) (g.C.Content.coming c.args.content.now))) c.in_err-begin_folder.field-0.0) (λ files. (c.in_err-begin_folder.ensures.begun files).0));
      fits = fits_at (g.C.Content.reads c.args.content.now) result (of_folder fault) by_fault (folder_fits (g.C.Content.reads c.args.content.now) fault);
      reads = refl;
      room = omega arith;
      taken = takes_none (g.C.Content.room c.args.content.now + 1) (g.C.Content.left c.args.content.now);
      lender = refl;
      failed = blames_at result (of_folder fault) puts.Failed _ _ by_fault (folder_blames _ _ _ fault (omega arith) c.in_err-begin_folder.ensures.counts);
      source = unblamed result (of_folder fault) puts.Source by_fault (folder_unread fault) (omega arith);
      random = unblamed result (of_folder fault) puts.Random by_fault (folder_undrawn fault) (omega arith);
    }

pub returns-in_err-file : goal.returns-in_err-file
returns-in_err-file g c =
    let result = c.from_residual-in_err-file.result in
    let by_fault = c.from_residual-in_err-file.ensures.1 in
    record {
      staged =
          at_fault (StagesEntry c.args.keys c.args.full.now c.args.staged.now (still_coming (g.C.Content.reads c.args.content.now) (g.F.Folder.told c.args.folder.now) (g.C.Content.coming c.args.content.now)) (still_coming (g.C.Content.reads c.args.content.now) (g.F.Folder.told c.args.folder.now) (g.C.Content.coming c.args.content.now)) (g.R.Randoms.left c.args.random.now) (g.R.Randoms.left c.args.random.now) (g.F.Folder.told c.args.folder.now) (g.F.Folder.told c.begin_folder.new.folder)) c.from_residual-in_err-file.result puts.NoMemory c.from_residual-in_err-file.ensures.1
          (stages_none c.args.keys c.args.full.now c.args.staged.now (still_coming (g.C.Content.reads c.args.content.now) (g.F.Folder.told c.args.folder.now) (g.C.Content.coming c.args.content.now)) (g.R.Randoms.left c.args.random.now) (g.F.Folder.told c.args.folder.now) (g.F.Folder.told c.begin_folder.new.folder) puts.NoMemory tt (λ files. (c.in_ok-begin_folder.ensures.begun files).0));
      fits = fits_at (g.C.Content.reads c.args.content.now) result puts.NoMemory by_fault tt;
      reads = refl;
      room = omega arith;
      taken = takes_none (g.C.Content.room c.args.content.now + 1) (g.C.Content.left c.args.content.now);
      lender = refl;
      failed = unblamed result puts.NoMemory puts.Failed by_fault (λ same. cc same) c.in_ok-begin_folder.ensures.counts;
      source = unblamed result puts.NoMemory puts.Source by_fault (λ same. cc same) (omega arith);
      random = unblamed result puts.NoMemory puts.Random by_fault (λ same. cc same) (omega arith);
    }

pub write_content-requires-clause-stage : goal.write_content-requires-clause-stage
write_content-requires-clause-stage g c =
    place_in c.staged_folders_are_seen.ensures c.args.staged.now c.in_ok-file.file content_file (g.F.Folder.told c.args.folder.now) (g.F.Folder.told c.begin_folder.new.folder) c.in_ok-file.ensures
    (c.in_ok-begin_folder.ensures.begun []).1

pub write_content-requires-clause-ready : goal.write_content-requires-clause-ready
write_content-requires-clause-ready g c =
    still_ready (g.C.Content.reads c.args.content.now) c.args.staged.now (g.C.Content.coming c.args.content.now) (g.F.Folder.told c.args.folder.now) (g.F.Folder.told c.begin_folder.new.folder) (g.met.F.Folder.sound c.args.folder.now) c.requires.apart (c.in_ok-begin_folder.ensures.begun []).0 c.requires.ready

pub write_content-requires-clause-apart : goal.write_content-requires-clause-apart
write_content-requires-clause-apart g c = reads_apart_in (g.C.Content.reads c.args.content.now) c.args.staged.now c.in_ok-file.file content_file c.in_ok-file.ensures c.requires.apart

pub returns-in_err-write_content : goal.returns-in_err-write_content
returns-in_err-write_content g c =
    let result = c.from_residual-in_err-write_content.result in
    let by_fault = c.from_residual-in_err-write_content.ensures.1 in
    let fault = c.in_err-write_content.field-0.0 in
    let begun = c.in_ok-begin_folder.ensures.counts in
    let e = c.in_err-write_content.ensures in
    record {
      staged =
          at_fault (StagesEntry c.args.keys c.args.full.now c.args.staged.now (still_coming (g.C.Content.reads c.args.content.now) (g.F.Folder.told c.args.folder.now) (g.C.Content.coming c.args.content.now)) (still_coming (g.C.Content.reads c.args.content.now) (g.F.Folder.told c.args.folder.now) (g.C.Content.coming c.write_content.new.content)) (g.R.Randoms.left c.args.random.now) (g.R.Randoms.left c.write_content.new.random) (g.F.Folder.told c.args.folder.now) (g.F.Folder.told c.write_content.new.folder)) c.from_residual-in_err-write_content.result c.in_err-write_content.field-0.0 c.from_residual-in_err-write_content.ensures.1
          (inner_stopped c.staged_folders_gain_files.ensures.during c.staged_folders_gain_files.ensures.gained c.staged_folders_are_seen.ensures c.args.keys c.args.full.now c.requires.long.0 c.requires.long.1
          (g.C.Content.reads c.args.content.now) c.args.staged.now c.in_ok-file.file (g.C.Content.coming c.args.content.now) (g.C.Content.coming c.write_content.new.content) (g.R.Randoms.left c.args.random.now) (g.R.Randoms.left c.write_content.new.random) (g.F.Folder.told c.args.folder.now) (g.F.Folder.told c.begin_folder.new.folder) (g.F.Folder.told c.write_content.new.folder) c.in_ok-file.ensures
          (g.met.F.Folder.sound c.args.folder.now) (g.met.F.Folder.sound c.begin_folder.new.folder) (g.met.F.Folder.sound c.write_content.new.folder) c.requires.apart c.in_ok-begin_folder.ensures.begun
          c.in_err-write_content.field-0.0 c.in_err-write_content.ensures.written);
      fits = fits_at (g.C.Content.reads c.args.content.now) result fault by_fault e.fits;
      reads = e.reads;
      room = e.room;
      taken = e.taken;
      lender = e.lender;
      failed = blames_at result fault puts.Failed _ _ by_fault (omega (arith, begun, e.failed.0), λ same. rose_since _ _ _ begun (e.failed.1 same));
      source = blames_at result fault puts.Source _ _ by_fault e.source;
      random = blames_at result fault puts.Random _ _ by_fault e.random;
    }

pub stage_name-requires : goal.stage_name-requires
stage_name-requires g c =
    name_in_place c.staged_folders_gain_files.ensures.during c.staged_folders_gain_files.ensures.gained c.staged_folders_are_seen.ensures c.args.keys c.args.full.now c.requires.long.0 c.requires.long.1
    (g.C.Content.reads c.args.content.now) c.args.staged.now c.in_ok-file.file (g.C.Content.coming c.args.content.now) (g.C.Content.coming c.write_content.new.content) (g.R.Randoms.left c.args.random.now) (g.R.Randoms.left c.write_content.new.random) (g.F.Folder.told c.args.folder.now) (g.F.Folder.told c.begin_folder.new.folder) (g.F.Folder.told c.write_content.new.folder) c.in_ok-file.ensures
    (g.met.F.Folder.sound c.args.folder.now) (g.met.F.Folder.sound c.begin_folder.new.folder) (g.met.F.Folder.sound c.write_content.new.folder) c.requires.apart c.in_ok-begin_folder.ensures.begun
    c.in_ok-write_content.ensures.written

pub returns-in_err-stage_name : goal.returns-in_err-stage_name
returns-in_err-stage_name g c =
    let result = c.from_residual-in_err-stage_name.result in
    let by_fault = c.from_residual-in_err-stage_name.ensures.1 in
    let fault = c.in_err-stage_name.field-0.0 in
    let before = c.in_ok-write_content.ensures in
    record {
      staged =
          at_fault (StagesEntry c.args.keys c.args.full.now c.args.staged.now (still_coming (g.C.Content.reads c.args.content.now) (g.F.Folder.told c.args.folder.now) (g.C.Content.coming c.args.content.now)) (still_coming (g.C.Content.reads c.args.content.now) (g.F.Folder.told c.args.folder.now) (g.C.Content.coming c.write_content.new.content)) (g.R.Randoms.left c.args.random.now) (g.R.Randoms.left c.write_content.new.random) (g.F.Folder.told c.args.folder.now) (g.F.Folder.told c.stage_name.new.folder)) c.from_residual-in_err-stage_name.result (of_folder c.in_err-stage_name.field-0.0) c.from_residual-in_err-stage_name.ensures.1
          (inner_failed c.staged_folders_gain_files.ensures.during c.staged_folders_gain_files.ensures.gained c.staged_folders_are_seen.ensures c.args.keys c.args.full.now c.requires.long.0 c.requires.long.1
          (g.C.Content.reads c.args.content.now) c.args.staged.now c.in_ok-file.file (g.C.Content.coming c.args.content.now) (g.C.Content.coming c.write_content.new.content) (g.R.Randoms.left c.args.random.now) (g.R.Randoms.left c.write_content.new.random) (g.F.Folder.told c.args.folder.now) (g.F.Folder.told c.begin_folder.new.folder) (g.F.Folder.told c.write_content.new.folder) c.in_ok-file.ensures
          (g.met.F.Folder.sound c.args.folder.now) (g.met.F.Folder.sound c.begin_folder.new.folder) (g.met.F.Folder.sound c.write_content.new.folder) c.requires.apart c.in_ok-begin_folder.ensures.begun
          c.in_ok-write_content.ensures.written (g.F.Folder.told c.stage_name.new.folder) c.in_err-stage_name.field-0.0 c.in_err-stage_name.ensures.staged);
      fits = fits_at (g.C.Content.reads c.args.content.now) result (of_folder fault) by_fault (folder_fits (g.C.Content.reads c.args.content.now) fault);
      reads = before.reads;
      room = before.room;
      taken = before.taken;
      lender = before.lender;
      failed = blames_at result (of_folder fault) puts.Failed _ _ by_fault (folder_blames _ _ _ fault (omega (arith, c.in_ok-begin_folder.ensures.counts, before.failed.0)) c.in_err-stage_name.ensures.counts);
      source = unblamed result (of_folder fault) puts.Source by_fault (folder_unread fault) before.source.0;
      random = unblamed result (of_folder fault) puts.Random by_fault (folder_undrawn fault) before.random.0;
    }

pub returns-clause-staged : goal.returns-clause-staged
returns-clause-staged g c =
    inner_staged c.staged_folders_gain_files.ensures.during c.staged_folders_gain_files.ensures.gained c.staged_folders_are_seen.ensures c.args.keys c.args.full.now c.requires.long.0 c.requires.long.1
    (g.C.Content.reads c.args.content.now) c.args.staged.now c.in_ok-file.file (g.C.Content.coming c.args.content.now) (g.C.Content.coming c.write_content.new.content) (g.R.Randoms.left c.args.random.now) (g.R.Randoms.left c.write_content.new.random) (g.F.Folder.told c.args.folder.now) (g.F.Folder.told c.begin_folder.new.folder) (g.F.Folder.told c.write_content.new.folder) c.in_ok-file.ensures
    (g.met.F.Folder.sound c.args.folder.now) (g.met.F.Folder.sound c.begin_folder.new.folder) (g.met.F.Folder.sound c.write_content.new.folder) c.requires.apart c.in_ok-begin_folder.ensures.begun
    c.in_ok-write_content.ensures.written (g.F.Folder.told c.stage_name.new.folder) c.in_ok-stage_name.ensures.staged
