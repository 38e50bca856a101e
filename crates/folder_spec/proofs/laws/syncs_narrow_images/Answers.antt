use Rattle.folder_spec.proofs.Images.{sync_narrows, settle_narrows}
use Rattle.folder_spec.proofs.laws.syncs_narrow_images.Goals as goal

pub returns : goal.returns
returns c = record { sync = sync_narrows; settle = settle_narrows }
