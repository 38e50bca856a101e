use Rattle.std.proofs.Common.{[], sym, ◌∙◌, subst}
use Rattle.folder_spec.specs.Path.{child}
use Rattle.folder_spec.specs.Seen.{ShowsFree}
use Rattle.vault_write.specs.Founding.{StagesHome}
use Rattle.vault_write.proofs.Exits.{at_fault}
use Rattle.vault_write.proofs.Staged.{free_in_new, shelf_at, folder_at, top_failed, shelf_failed, folder_failed, home_staged}
use Rattle.vault_write.proofs.init.stage_home.Goals as goal

pub returns-in_err-top-clause-home : goal.returns-in_err-top-clause-home
returns-in_err-top-clause-home g c =
    at_fault (StagesHome c.args.staged.now c.args.text.now (g.F.Folder.told c.args.folder.now) (g.F.Folder.told c.stage_directory.new.folder)) c.from_residual.result _ c.from_residual.ensures.1
    (top_failed c.staged_folders_gain_entries.ensures.during c.staged_folders_gain_entries.ensures.directory c.args.staged.now c.args.text.now (g.F.Folder.told c.args.folder.now) (g.F.Folder.told c.stage_directory.new.folder) (g.met.F.Folder.sound c.args.folder.now) c.stage_directory.ensures.stages c.in_err-top.field-0.0)

pub stage_directory-requires-2 : goal.stage_directory-requires-2
stage_directory-requires-2 g c v is =
    subst (λ p. ShowsFree v (child p c.split_at.result.0.now)) (sym c.in_ok-top.ensures.path)
    (free_in_new c.staged_folders_are_seen.ensures _ c.split_at.result.0.now (g.F.Folder.told c.args.folder.now) (g.F.Folder.told c.stage_directory.new.folder) (c.in_ok-top.ensures.staged []) v is)

pub returns-in_err-shelf-clause-home : goal.returns-in_err-shelf-clause-home
returns-in_err-shelf-clause-home g c =
    at_fault (StagesHome c.args.staged.now c.args.text.now (g.F.Folder.told c.args.folder.now) (g.F.Folder.told c.stage_directory-2.new.folder)) c.from_residual-in_err-shelf.result _ c.from_residual-in_err-shelf.ensures.1
    (shelf_failed c.staged_folders_gain_entries.ensures.during c.staged_folders_gain_entries.ensures.directory c.args.staged.now c.args.text.now (g.F.Folder.told c.args.folder.now) (g.F.Folder.told c.stage_directory.new.folder) (g.met.F.Folder.sound c.args.folder.now) c.stage_directory.ensures.stages (g.met.F.Folder.sound c.stage_directory.new.folder) c.in_ok-top.ensures.staged (g.F.Folder.told c.stage_directory-2.new.folder)
    (rw (sym (shelf_at c.args.staged.now c.in_ok-top.top c.args.text.now c.split_at.result.0.now c.in_ok-top.ensures.path c.split_at.ensures.front)) c.stage_directory-2.ensures.stages) c.in_err-shelf.field-0.0)

pub stage_directory-requires-3 : goal.stage_directory-requires-3
stage_directory-requires-3 g c v is =
    subst (λ p. ShowsFree v (child p c.split_at.result.1.now)) (sym c.in_ok-shelf.ensures.path)
    (free_in_new c.staged_folders_are_seen.ensures _ c.split_at.result.1.now (g.F.Folder.told c.stage_directory.new.folder) (g.F.Folder.told c.stage_directory-2.new.folder) (c.in_ok-shelf.ensures.staged []) v is)

pub returns-in_err-_home-clause-home : goal.returns-in_err-_home-clause-home
returns-in_err-_home-clause-home g c =
    at_fault (StagesHome c.args.staged.now c.args.text.now (g.F.Folder.told c.args.folder.now) (g.F.Folder.told c.stage_directory-3.new.folder)) c.from_residual-in_err-_home.result _ c.from_residual-in_err-_home.ensures.1
    (folder_failed c.staged_folders_gain_entries.ensures.during c.staged_folders_gain_entries.ensures.directory c.args.staged.now c.args.text.now (g.F.Folder.told c.args.folder.now) (g.F.Folder.told c.stage_directory.new.folder) (g.met.F.Folder.sound c.args.folder.now) c.stage_directory.ensures.stages (g.met.F.Folder.sound c.stage_directory.new.folder) c.in_ok-top.ensures.staged (g.F.Folder.told c.stage_directory-2.new.folder)
    (rw (sym (shelf_at c.args.staged.now c.in_ok-top.top c.args.text.now c.split_at.result.0.now c.in_ok-top.ensures.path c.split_at.ensures.front)) c.stage_directory-2.ensures.stages) (g.met.F.Folder.sound c.stage_directory-2.new.folder)
    (rw (sym (shelf_at c.args.staged.now c.in_ok-top.top c.args.text.now c.split_at.result.0.now c.in_ok-top.ensures.path c.split_at.ensures.front)) c.in_ok-shelf.ensures.staged) (g.F.Folder.told c.stage_directory-3.new.folder)
    (rw (sym (folder_at c.args.staged.now c.in_ok-shelf.shelf c.args.text.now c.split_at.result.1.now (c.in_ok-shelf.ensures.path ∙ (shelf_at c.args.staged.now c.in_ok-top.top c.args.text.now c.split_at.result.0.now c.in_ok-top.ensures.path c.split_at.ensures.front)) c.split_at.ensures.back)) c.stage_directory-3.ensures.stages) c.in_err-_home.field-0.0)

pub returns-clause-home : goal.returns-clause-home
returns-clause-home g c =
    home_staged c.staged_folders_gain_entries.ensures.during c.staged_folders_gain_entries.ensures.directory c.args.staged.now c.args.text.now (g.F.Folder.told c.args.folder.now) (g.F.Folder.told c.stage_directory.new.folder) (g.met.F.Folder.sound c.args.folder.now) c.stage_directory.ensures.stages (g.met.F.Folder.sound c.stage_directory.new.folder) c.in_ok-top.ensures.staged (g.F.Folder.told c.stage_directory-2.new.folder)
    (rw (sym (shelf_at c.args.staged.now c.in_ok-top.top c.args.text.now c.split_at.result.0.now c.in_ok-top.ensures.path c.split_at.ensures.front)) c.stage_directory-2.ensures.stages) (g.met.F.Folder.sound c.stage_directory-2.new.folder)
    (rw (sym (shelf_at c.args.staged.now c.in_ok-top.top c.args.text.now c.split_at.result.0.now c.in_ok-top.ensures.path c.split_at.ensures.front)) c.in_ok-shelf.ensures.staged) (g.F.Folder.told c.stage_directory-3.new.folder)
    (rw (sym (folder_at c.args.staged.now c.in_ok-shelf.shelf c.args.text.now c.split_at.result.1.now (c.in_ok-shelf.ensures.path ∙ (shelf_at c.args.staged.now c.in_ok-top.top c.args.text.now c.split_at.result.0.now c.in_ok-top.ensures.path c.split_at.ensures.front)) c.split_at.ensures.back)) c.stage_directory-3.ensures.stages)
    (rw (sym (folder_at c.args.staged.now c.in_ok-shelf.shelf c.args.text.now c.split_at.result.1.now (c.in_ok-shelf.ensures.path ∙ (shelf_at c.args.staged.now c.in_ok-top.top c.args.text.now c.split_at.result.0.now c.in_ok-top.ensures.path c.split_at.ensures.front)) c.split_at.ensures.back)) c.in_ok-_home.ensures.staged)
