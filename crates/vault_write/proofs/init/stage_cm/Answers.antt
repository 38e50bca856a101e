use Rattle.std.proofs.Common.{refl}
use Rattle.folder_spec.specs.Edit.{folder_view}
use Rattle.vault_write.specs.Founding.{cm_two, texts}
use Rattle.vault_write.proofs.Staged.{free_for_home, with_home_staged}
use Rattle.vault_write.proofs.init.stage_cm.Goals as goal

pub stage_home-requires-clause-free : goal.stage_home-requires-clause-free
stage_home-requires-clause-free g c =
    let both = cm_two c.args.master.now c.args.vault.now in
    free_for_home c.staged_folders_are_seen.ensures c.args.staged.now (folder_view both) (texts both) (g.F.Folder.told c.args.folder.now) (g.F.Folder.told c.stage_files.new.folder) refl refl c.in_ok-stage_files.ensures.staged

pub returns-clause-staged : goal.returns-clause-staged
returns-clause-staged g c =
    let both = cm_two c.args.master.now c.args.vault.now in
    with_home_staged c.args.staged.now c.args.home.now (folder_view both) (texts both) (g.F.Folder.told c.args.folder.now) (g.F.Folder.told c.stage_files.new.folder) (g.F.Folder.told c.stage_home.new.folder) c.stage_home.result
    c.in_ok-stage_files.ensures.staged c.stage_home.ensures.home
