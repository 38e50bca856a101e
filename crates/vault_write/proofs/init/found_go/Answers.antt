use Rattle.std.proofs.Common.{refl, sym, subst}
use Rattle.folder_spec.specs.Seen.{ShowsFree}
use Rattle.folder_spec.specs.Edit.{folder_view}
use Rattle.vault_write.specs.Founding.{go_two, texts}
use Rattle.vault_write.proofs.Founded.{free_entry, may_place, founds_placed, founds_staged, founds_none}
use Rattle.vault_write.proofs.init.found_go.Goals as goal

pub returns-in_err-staged-clause-founds : goal.returns-in_err-staged-clause-founds
returns-in_err-staged-clause-founds g c = founds_none _ c.from_residual.ensures.1 (g.met.F.Folder.sound c.args.folder.now) c.requires

pub stage_files-requires : goal.stage_files-requires
stage_files-requires g c v is =
    subst (ShowsFree v) (sym c.in_ok-staged.ensures) (free_entry c.args.work.now (g.F.Folder.told c.args.folder.now) c.args.at.now c.requires v is)

pub returns-in_err-stage_files-clause-founds : goal.returns-in_err-stage_files-clause-founds
returns-in_err-stage_files-clause-founds g c =
    founds_staged _ c.in_err-stage_files.field-0.0 c.from_residual-in_err-stage_files.ensures.1 (g.met.F.Folder.sound c.args.folder.now) c.requires (rw (sym c.in_ok-staged.ensures) c.in_err-stage_files.ensures.staged)

pub place_folder-requires : goal.place_folder-requires
place_folder-requires g c =
    let files = go_two c.args.conf.now c.args.key.now in
    rw c.in_ok-staged.ensures
    (may_place c.args.work.now c.args.at.now (folder_view files) (texts files) (g.F.Folder.told c.args.folder.now) (g.F.Folder.told c.stage_files.new.folder) (g.met.F.Folder.sound c.args.folder.now) c.requires refl
    (rw (sym c.in_ok-staged.ensures) c.in_ok-stage_files.ensures.staged))

pub returns-clause-founds : goal.returns-clause-founds
returns-clause-founds g c =
    let files = go_two c.args.conf.now c.args.key.now in
    founds_placed c.args.work.now c.args.at.now (folder_view files) files c.requires.make.apart c.requires.make.beside (g.F.Folder.told c.args.folder.now) (g.F.Folder.told c.stage_files.new.folder) (g.F.Folder.told c.place_folder.new.folder) c.place_folder.result
    (g.met.F.Folder.sound c.args.folder.now) (g.met.F.Folder.sound c.place_folder.new.folder) c.requires
    (rw (sym c.in_ok-staged.ensures) c.in_ok-stage_files.ensures.staged)
    (rw (sym c.in_ok-staged.ensures) c.place_folder.ensures.placed)
