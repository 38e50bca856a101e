use Rattle.std.proofs.Common.{[]}
use Rattle.vault_write.proofs.Directories.{place_in, gains}
use Rattle.vault_write.proofs.stage.stage_directory.Goals as goal

pub stage_file-requires : goal.stage_file-requires
stage_file-requires g c =
    place_in c.staged_folders_are_seen.ensures c.args.staged.now c.in_ok-at.at c.args.key_name.now (g.F.Folder.told c.args.folder.now) (g.F.Folder.told c.begin_folder.new.folder) c.in_ok-at.ensures
    (c.in_ok-begin_folder.ensures.begun []).1

pub returns-clause-staged : goal.returns-clause-staged
returns-clause-staged g c = λ files among.
    gains c.staged_folders_gain_files.ensures.during c.staged_folders_gain_files.ensures.gained c.args.staged.now c.in_ok-at.at c.args.key_name.now c.args.key.now files []
    (g.F.Folder.told c.args.folder.now) (g.F.Folder.told c.begin_folder.new.folder) (g.F.Folder.told c.stage_file.new.folder) c.stage_file.result c.in_ok-at.ensures
    (g.met.F.Folder.sound c.begin_folder.new.folder) (g.met.F.Folder.sound c.stage_file.new.folder) among (c.in_ok-begin_folder.ensures.begun files).1 c.stage_file.ensures.moments c.stage_file.ensures.written
