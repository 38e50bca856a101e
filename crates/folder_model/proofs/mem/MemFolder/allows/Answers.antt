-- Each call's test is its condition.
use Rattle.folder_model.proofs.mem.MemFolder.allows.Goals as goal

pub returns-in-Append : goal.returns-in-Append
returns-in-Append c = rw c.in-Append.is c.is_file.ensures

pub returns-in-Sync : goal.returns-in-Sync
returns-in-Sync c = rw c.in-Sync.is c.is_file-in-Sync.ensures

pub returns-in-Rename : goal.returns-in-Rename
returns-in-Rename c = rw c.in-Rename.is c.may_rename.ensures

pub returns-in-RemoveFile : goal.returns-in-RemoveFile
returns-in-RemoveFile c = rw c.in-RemoveFile.is c.is_file-in-RemoveFile.ensures

pub returns-in-RemoveDir : goal.returns-in-RemoveDir
returns-in-RemoveDir c = rw c.in-RemoveDir.is c.may_remove_dir.ensures
