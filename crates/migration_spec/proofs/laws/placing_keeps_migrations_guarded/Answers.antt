use Rattle.migration_spec.proofs.Placing.{one_stays, next_may_follow, each_stays, last_may_follow}
use Rattle.migration_spec.proofs.laws.placing_keeps_migrations_guarded.Goals as goal

pub returns : goal.returns
returns c = record {
  one = one_stays c.roots_show_their_own.ensures.alike c.images_show_views.ensures.one;
  next = next_may_follow c.roots_show_their_own.ensures.alike c.images_show_views.ensures.one;
  each = each_stays c.roots_show_their_own.ensures.alike c.images_show_views.ensures.one;
  last = last_may_follow c.roots_show_their_own.ensures.alike c.images_show_views.ensures.one;
}
