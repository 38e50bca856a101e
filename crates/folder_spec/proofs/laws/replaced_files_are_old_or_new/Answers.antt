use Rattle.folder_spec.proofs.Replaces.{images_show_old_or_new, images_show_new, clean_stays}
use Rattle.folder_spec.proofs.laws.replaced_files_are_old_or_new.Goals as goal

pub returns : goal.returns
returns c = record { images = images_show_old_or_new; settled = images_show_new; clean = clean_stays }
