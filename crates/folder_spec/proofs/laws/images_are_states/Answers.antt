use Rattle.folder_spec.proofs.Images.{seen_now_is_image, image_is_sound, image_has_nothing_pending, image_again}
use Rattle.folder_spec.proofs.laws.images_are_states.Goals as goal

pub returns : goal.returns
returns c = record { seen = seen_now_is_image; sound = image_is_sound; settled = image_has_nothing_pending; again = image_again }
