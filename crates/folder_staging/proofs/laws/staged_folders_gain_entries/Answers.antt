use Rattle.folder_staging.proofs.Wholes.{file_in_folder, folder_with, folder_gains, folder_gains_file, folder_gains_directory}
use Rattle.folder_staging.proofs.laws.staged_folders_gain_entries.Goals as goal

pub returns : goal.returns
returns c = record {
  files = file_in_folder;
  during = folder_with;
  gained = folder_gains;
  file = folder_gains_file;
  directory = folder_gains_directory;
}
