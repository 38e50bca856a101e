use Rattle.folder_spec.proofs.Tables.{present_is_table}
use Rattle.folder_spec.specs.Image.{seen_now}
use Rattle.folder_spec.specs.Seen.{seen}
use Rattle.folder_spec.specs.State.{present}
use Rattle.migration_spec.proofs.Guards.{in_alike}
use Rattle.migration_spec.proofs.Kept.{only_shown}
use Rattle.migration_spec.specs.Guard.{is_kept}
use Rattle.migration_spec.proofs.laws.guarded_migrations_are_seen.Goals as goal

pub returns : goal.returns
returns c = record {
  case = λ g s sound h. h.images (seen_now s) (c.images_are_states.ensures.seen s sound);
  alone = λ g p s at. in_alike c.roots_show_their_own.ensures.alike g p (seen s) at.view (only_shown (is_kept g) s at.view at.alone (present s) (present_is_table s)).agrees at.holds;
}
