use Rattle.migration_spec.proofs.Guards.{image_is_guarded, guarded_is_safe}
use Rattle.migration_spec.proofs.laws.guarded_migrations_are_safe.Goals as goal

pub returns : goal.returns
returns c = record {
  images = image_is_guarded c.images_are_states.ensures.again;
  safe = guarded_is_safe;
}
