use Rattle.folder_spec.proofs.Regions.{as_before_on, as_before_images}
use Rattle.folder_spec.proofs.laws.spared_regions_stay.Goals as goal

pub returns : goal.returns
returns c = record { one_call = as_before_on; images = as_before_images }
