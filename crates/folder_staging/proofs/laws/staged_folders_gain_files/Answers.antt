use Rattle.std.proofs.Common.{[], ◌∷◌, ◌++◌}
use Rattle.folder_spec.specs.Edit.{folder_view}
use Rattle.folder_staging.proofs.Wholes.{folder_with, file_in_folder, folder_gains_named_file}
use Rattle.folder_staging.proofs.laws.staged_folders_gain_files.Goals as goal

pub returns : goal.returns
returns c = record {
  during = λ contents at name files before mid now h stages.
      folder_with contents at (name ∷ []) (folder_view files) before mid now h (file_in_folder contents (at ++ name ∷ []) mid now stages);
  gained = folder_gains_named_file;
}
