use Rattle.folder_spec.proofs.Views.{image_shows, image_among, image_alone, seen_alone, nothing_pending_in}
use Rattle.folder_spec.proofs.laws.images_show_views.Goals as goal

pub returns : goal.returns
returns c = record {
  one = image_shows;
  images = image_among;
  alone = image_alone;
  settled = seen_alone;
  everywhere = nothing_pending_in;
}
