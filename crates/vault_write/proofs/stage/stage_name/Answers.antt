use Rattle.std.proofs.Common.{◌∙◌}
use Rattle.vault_write.proofs.Directories.{name_gains}
use Rattle.vault_write.proofs.stage.stage_name.Goals as goal

pub returns-in_ok-at-in-Some-clause-staged : goal.returns-in_ok-at-in-Some-clause-staged
returns-in_ok-at-in-Some-clause-staged g c =
    name_gains c.staged_folders_gain_files.ensures.during c.staged_folders_gain_files.ensures.gained c.args.staged.now c.in_ok-at-in-Some.at c.args.full.now c.in-Some.text c.as_bytes.result.now
    (g.F.Folder.told c.args.folder.now) (g.F.Folder.told c.stage_file.new.folder) c.stage_file.result c.in-Some.is (c.as_bytes.ensures.value ∙ c.as_str.ensures) c.in_ok-at-in-Some.ensures
    (g.met.F.Folder.sound c.args.folder.now) (g.met.F.Folder.sound c.stage_file.new.folder) c.stage_file.ensures.moments c.stage_file.ensures.written
