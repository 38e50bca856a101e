use Rattle.migration_spec.proofs.Entering.{stays_alone, more_changing}
use Rattle.migration_spec.proofs.Settling.{begins_alone, settle_keeps, settle_alone}
use Rattle.migration_spec.proofs.Sounds.{KeepSound}
use Rattle.migration_spec.proofs.laws.settling_and_entering_keep_migrations_guarded.Goals as goal

pub returns : goal.returns
returns c =
    let alike = c.roots_show_their_own.ensures.alike in
    let shown = c.images_show_views.ensures.one in
    let keep : KeepSound = record { done = c.calls_keep_states_sound.ensures.done; failed = c.calls_keep_states_sound.ensures.failed } in
    record {
      begins = begins_alone alike shown;
      settles = settle_keeps c.syncs_narrow_images.ensures.settle;
      alone = settle_alone alike shown keep;
      enters = λ g p a b at went. stays_alone alike shown keep g p _ _ a b (λ s moment. moment.changing) at went;
      restages = λ g p a b at went. stays_alone alike shown keep g p _ _ a b (λ s moment. more_changing g.work a.state s moment.changing) at went;
    }
