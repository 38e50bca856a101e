use Rattle.std.proofs.Common.{subst, Ok, Err, IfErr, inl, inr, refl, sym}
use Rattle.std.proofs.lemmas.Result.{err_from_is_err_and}
use Rattle.folder_spec.specs.Seen.{IfSeen, IsSeen}
use Rattle.migrate_core.specs.Causes.{IsOfPlacing, PassesBegin}
use Rattle.migrate_core.specs.Lasting.{Finishes}
use Rattle.migrate_core.specs.Moved.{MovesTree}
use Rattle.migration_sides.proofs.Unchanged.{tested_seen}
use Rattle.migrate_core.specs.Completing.{CanBegin}
use Rattle.migration_spec.specs.Guard.{Migration}
use Rattle.migration_commands.specs.Migrate.{IsAskedFor, IsWritten, MayCome}
use Rattle.migration_commands.specs.Moving.{ArePhrases, Completes}
use Rattle.migration_commands.proofs.Migrations.{chance_answered, done_drew, fault_drew, keeps_same, keeps_since, keys_read, keys_seen, phrases_are, read_completes, unread_drew, unread_undrawn}
use Rattle.migration_commands.proofs.migrating.begin.Goals as goal

pub returns-in_err-phrases-clause-keeps : goal.returns-in_err-phrases-clause-keeps
returns-in_err-phrases-clause-keeps g c = λ m v is asked.
    keeps_same c.guarded_migrations_are_safe.ensures.safe m (g.F.Folder.told c.args.folder.now) (g.F.Folder.told c.read_passes.new.folder) c.in_err-phrases.ensures.told

pub returns-in-Ok-clause-migrated : goal.returns-in-Ok-clause-migrated
returns-in-Ok-clause-migrated g c =
    let moving = c.args.moving.now in
    record {
      source_pass = c.as_slice.result.now;
      target_pass = c.as_slice-2.result.now;
      phrases = λ v is. phrases_are moving.passes c.in_ok-phrases.phrases.source c.in_ok-phrases.phrases.target c.as_slice.result.now c.as_slice-2.result.now v c.as_slice.ensures c.as_slice-2.ensures
          (c.in_ok-phrases.ensures.source v is) (c.in_ok-phrases.ensures.target v is);
      moves = subst (λ t. MovesTree moving.names moving.source moving.target moving.work c.as_slice.result.now c.as_slice-2.result.now c.in-Ok.done t (g.F.Folder.told c.begin.new.folder)) c.in_ok-phrases.ensures.told c.in-Ok.ensures.moved;
      lasts = c.in-Ok.ensures.lasts;
      finishes = λ m v is asked.
          let mid = g.F.Folder.told c.read_passes.new.folder in
          let same = c.in_ok-phrases.ensures.told in
          let are : ArePhrases moving.passes c.as_slice.result.now c.as_slice-2.result.now v = phrases_are moving.passes c.in_ok-phrases.phrases.source c.in_ok-phrases.phrases.target
          c.as_slice.result.now c.as_slice-2.result.now v c.as_slice.ensures c.as_slice-2.ensures (c.in_ok-phrases.ensures.source v is) (c.in_ok-phrases.ensures.target v is) in
          subst (λ t. Finishes m t (g.F.Folder.told c.begin.new.folder)) same
          (c.in-Ok.ensures.finishes m asked.asked (keys_seen m moving.passes v (g.F.Folder.told c.args.folder.now) mid c.as_slice.result.now c.as_slice-2.result.now same is are asked.keys));
      clears = c.in-Ok.ensures.tidy;
    }

pub returns-in-Ok-clause-keeps : goal.returns-in-Ok-clause-keeps
returns-in-Ok-clause-keeps g c = λ m v is asked.
    let are : ArePhrases c.args.moving.now.passes c.as_slice.result.now c.as_slice-2.result.now v = phrases_are c.args.moving.now.passes c.in_ok-phrases.phrases.source c.in_ok-phrases.phrases.target
    c.as_slice.result.now c.as_slice-2.result.now v c.as_slice.ensures c.as_slice-2.ensures (c.in_ok-phrases.ensures.source v is) (c.in_ok-phrases.ensures.target v is) in
    keeps_since c.guarded_migrations_are_safe.ensures.safe m (g.F.Folder.told c.args.folder.now) (g.F.Folder.told c.read_passes.new.folder) (g.F.Folder.told c.begin.new.folder) c.in_ok-phrases.ensures.told
    (c.in-Ok.ensures.guard m asked.asked
    (keys_seen m c.args.moving.now.passes v (g.F.Folder.told c.args.folder.now) (g.F.Folder.told c.read_passes.new.folder) c.as_slice.result.now c.as_slice-2.result.now c.in_ok-phrases.ensures.told is are asked.keys))

pub returns-clause-keeps : goal.returns-clause-keeps
returns-clause-keeps g c = λ m v is asked.
    let are : ArePhrases c.args.moving.now.passes c.as_slice.result.now c.as_slice-2.result.now v = phrases_are c.args.moving.now.passes c.in_ok-phrases.phrases.source c.in_ok-phrases.phrases.target
    c.as_slice.result.now c.as_slice-2.result.now v c.as_slice.ensures c.as_slice-2.ensures (c.in_ok-phrases.ensures.source v is) (c.in_ok-phrases.ensures.target v is) in
    keeps_since c.guarded_migrations_are_safe.ensures.safe m (g.F.Folder.told c.args.folder.now) (g.F.Folder.told c.read_passes.new.folder) (g.F.Folder.told c.begin.new.folder) c.in_ok-phrases.ensures.told
    (c.in-Err.ensures.guard m asked.asked
    (keys_seen m c.args.moving.now.passes v (g.F.Folder.told c.args.folder.now) (g.F.Folder.told c.read_passes.new.folder) c.as_slice.result.now c.as_slice-2.result.now c.in_ok-phrases.ensures.told is are asked.keys))

pub returns-in_err-phrases-clause-stopped : goal.returns-in_err-phrases-clause-stopped
returns-in_err-phrases-clause-stopped g c =
    let moving = c.args.moving.now in
    let told = g.F.Folder.told c.args.folder.now in
    let told' = g.F.Folder.told c.read_passes.new.folder in
    let stream = g.R.Randoms.left c.args.random.now in
    let p = err_from_is_err_and c.from_residual.result c.from_residual.ensures.1 in
    subst (λ r. IfErr r (λ answer. IfSeen told (λ v. MayCome moving answer told told' stream stream v))) (sym p.1) (λ v is.
    subst (λ answer. MayCome moving answer told told' stream stream v) (sym p.2)
    (inl (unread_undrawn moving.passes c.in_err-phrases.field-0.0 told told' stream v c.in_err-phrases.ensures.told (c.in_err-phrases.ensures.refused v is))))

pub returns-in-Ok-clause-came : goal.returns-in-Ok-clause-came
returns-in-Ok-clause-came g c = λ v is.
    let moving = c.args.moving.now in
    let told' = g.F.Folder.told c.begin.new.folder in
    let stream = g.R.Randoms.left c.args.random.now in
    let stream' = g.R.Randoms.left c.begin.new.random in
    let seen = subst (λ t. IsSeen t v) (sym c.in_ok-phrases.ensures.told) is in
    record {
      source_pass = c.as_slice.result.now;
      target_pass = c.as_slice-2.result.now;
      phrases = phrases_are moving.passes c.in_ok-phrases.phrases.source c.in_ok-phrases.phrases.target c.as_slice.result.now c.as_slice-2.result.now v c.as_slice.ensures c.as_slice-2.ensures
          (c.in_ok-phrases.ensures.source v is) (c.in_ok-phrases.ensures.target v is);
      outcome = Ok c.in-Ok.done;
      cause = c.in-Ok.ensures.cause v seen;
      does = subst (λ t. IsWritten moving t told' stream stream' v c.as_slice.result.now c.as_slice-2.result.now (Ok c.in-Ok.done)) c.in_ok-phrases.ensures.told (record {
        writes = c.in-Ok.ensures.written v seen;
        too_long = tt;
        shared = tt;
        tested = tested_seen (g.F.Folder.told c.read_passes.new.folder) told' (λ w. IfErr (Ok c.in-Ok.done) IsOfPlacing × PassesBegin moving.names moving.source moving.target moving.work c.as_slice.result.now c.as_slice-2.result.now w) v seen c.in-Ok.ensures.tested;
        journal = c.in-Ok.ensures.journal v seen;
        undrawn = elim c.in-Ok.ensures.undrawn [ inl none ↦ inl none | inr passed ↦ inr (passed v seen) ];
      });
      answers = refl;
    }

pub returns-clause-stopped : goal.returns-clause-stopped
returns-clause-stopped g c = λ v is.
    let moving = c.args.moving.now in
    let told' = g.F.Folder.told c.begin.new.folder in
    let stream = g.R.Randoms.left c.args.random.now in
    let stream' = g.R.Randoms.left c.begin.new.random in
    let seen = subst (λ t. IsSeen t v) (sym c.in_ok-phrases.ensures.told) is in
    inr (record {
      source_pass = c.as_slice.result.now;
      target_pass = c.as_slice-2.result.now;
      phrases = phrases_are moving.passes c.in_ok-phrases.phrases.source c.in_ok-phrases.phrases.target c.as_slice.result.now c.as_slice-2.result.now v c.as_slice.ensures c.as_slice-2.ensures
          (c.in_ok-phrases.ensures.source v is) (c.in_ok-phrases.ensures.target v is);
      outcome = Err c.in-Err.fault;
      cause = c.in-Err.ensures.cause v seen;
      does = subst (λ t. IsWritten moving t told' stream stream' v c.as_slice.result.now c.as_slice-2.result.now (Err c.in-Err.fault)) c.in_ok-phrases.ensures.told (record {
        writes = c.in-Err.ensures.written v seen;
        too_long = c.in-Err.ensures.too_long;
        shared = c.in-Err.ensures.shared;
        tested = tested_seen (g.F.Folder.told c.read_passes.new.folder) told' (λ w. IsOfPlacing c.in-Err.fault × PassesBegin moving.names moving.source moving.target moving.work c.as_slice.result.now c.as_slice-2.result.now w) v seen c.in-Err.ensures.tested;
        journal = c.in-Err.ensures.journal v seen;
        undrawn = elim c.in-Err.ensures.undrawn [ inl none ↦ inl none | inr passed ↦ inr (passed v seen) ];
      });
      answers = elim c.answer_to_move.ensures.answers [ inl memory ↦ inl memory | inr same ↦ inr (c.root_of-root.result.now, c.root_of-root.ensures, same) ];
    })

pub returns-in_err-phrases-clause-completes : goal.returns-in_err-phrases-clause-completes
returns-in_err-phrases-clause-completes g c =
    let moving = c.args.moving.now in
    let told = g.F.Folder.told c.args.folder.now in
    let p = err_from_is_err_and c.from_residual.result c.from_residual.ensures.1 in
    subst (λ r. IfErr r (λ answer. (m : Migration) → IfSeen told (λ v. IsAskedFor m moving v → CanBegin m v → Completes answer))) (sym p.1) (λ m v is asked can.
    subst Completes (sym p.2) (read_completes moving.passes asked.keys.source_pass asked.keys.target_pass v c.in_err-phrases.field-0.0 asked.keys.phrases (c.in_err-phrases.ensures.refused v is)))

pub returns-clause-completes : goal.returns-clause-completes
returns-clause-completes g c = λ m v is asked can.
    let moving = c.args.moving.now in
    let seen = subst (λ t. IsSeen t v) (sym c.in_ok-phrases.ensures.told) is in
    let are : ArePhrases moving.passes c.as_slice.result.now c.as_slice-2.result.now v = phrases_are moving.passes c.in_ok-phrases.phrases.source c.in_ok-phrases.phrases.target
    c.as_slice.result.now c.as_slice-2.result.now v c.as_slice.ensures c.as_slice-2.ensures (c.in_ok-phrases.ensures.source v is) (c.in_ok-phrases.ensures.target v is) in
    chance_answered moving.work c.root_of-root.result.now c.in-Err.fault c.answer_to_move.result
    (c.in-Err.ensures.completes m v seen asked.asked (keys_read m moving.passes v c.as_slice.result.now c.as_slice-2.result.now are asked.keys) can) c.answer_to_move.ensures.answers

pub returns-in_err-phrases-clause-drew : goal.returns-in_err-phrases-clause-drew
returns-in_err-phrases-clause-drew g c = unread_drew c.in_err-phrases.field-0.0 c.from_residual.result (g.R.Randoms.left c.args.random.now) c.from_residual.ensures.1 c.in_err-phrases.ensures.own

pub returns-in-Ok-clause-drew : goal.returns-in-Ok-clause-drew
returns-in-Ok-clause-drew g c = done_drew c.in-Ok.done (g.R.Randoms.left c.args.random.now) (g.R.Randoms.left c.begin.new.random) c.in-Ok.ensures.drew

pub returns-clause-drew : goal.returns-clause-drew
returns-clause-drew g c = fault_drew c.in-Err.fault c.answer_to_move.result (g.R.Randoms.left c.args.random.now) (g.R.Randoms.left c.begin.new.random) c.answer_to_move.ensures.zeros c.in-Err.ensures.drew
