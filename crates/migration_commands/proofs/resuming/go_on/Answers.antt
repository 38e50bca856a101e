use Rattle.std.proofs.Common.{Ok, Err, IfErr, inl, inr, refl, sym, subst}
use Rattle.std.proofs.lemmas.Result.{err_from_is_err_and}
use Rattle.folder_spec.specs.Seen.{IfSeen, IsSeen}
use Rattle.migrate_core.specs.Lasting.{Clears, Finishes}
use Rattle.migrate_core.specs.Moved.{MovesTold}
use Rattle.migrate_core.specs.Completing.{CanResume}
use Rattle.migrate_core.specs.Moving.{MovesOnly}
use Rattle.migrate_core.specs.Causes.{IsOfPlacing, PassesResume}
use Rattle.migration_sides.proofs.Unchanged.{tested_seen}
use Rattle.migration_spec.specs.Guard.{Migration}
use Rattle.migration_commands.specs.Moving.{ArePhrases, Completes}
use Rattle.migration_commands.specs.Resume.{HaveTrees, IsResumedFor, IsWritten, MayCome, root_by, unopened}
use Rattle.migration_commands.proofs.Migrations.{chance_answered, done_drew, fault_drew, journal_root, journal_same, journal_since, journals_since, keeps_since, keeps_same, phrases_are, read_completes, keys_read, keys_seen, unread_drew, unread_undrawn}
use Rattle.migration_commands.proofs.resuming.go_on.Goals as goal

pub returns-in_err-known-clause-keeps : goal.returns-in_err-known-clause-keeps
returns-in_err-known-clause-keeps g c = λ m v is asked.
    keeps_same c.guarded_migrations_are_safe.ensures.safe m (g.F.Folder.told c.args.folder.now) (g.F.Folder.told c.learn.new.folder) c.in_err-known.ensures.told

pub returns-in_err-known-clause-stopped : goal.returns-in_err-known-clause-stopped
returns-in_err-known-clause-stopped g c =
    let resuming = c.args.resuming.now in
    let told = g.F.Folder.told c.args.folder.now in
    let told' = g.F.Folder.told c.learn.new.folder in
    let stream = g.R.Randoms.left c.args.random.now in
    let p = err_from_is_err_and c.from_residual.result c.from_residual.ensures.1 in
    subst (λ r. IfErr r (λ answer. IfSeen told (λ v. MayCome resuming answer told told' stream stream v))) (sym p.1) (λ v is.
    subst (λ answer. MayCome resuming answer told told' stream stream v) (sym p.2)
    (inl (unread_undrawn resuming.passes c.in_err-known.field-0.0 told told' stream v c.in_err-known.ensures.told (c.in_err-known.ensures.refused v is))))

pub returns-in-Ok-clause-resumed : goal.returns-in-Ok-clause-resumed
returns-in-Ok-clause-resumed g c =
    let resuming = c.args.resuming.now in
    let same = c.in_ok-known.ensures.told in
    record {
      source_pass = c.as_slice.result.now;
      target_pass = c.as_slice-2.result.now;
      phrases = λ v is. phrases_are resuming.passes c.in_ok-known.known.phrases.source c.in_ok-known.known.phrases.target c.as_slice.result.now c.as_slice-2.result.now v c.as_slice.ensures c.as_slice-2.ensures
          (c.in_ok-known.ensures.source v is) (c.in_ok-known.ensures.target v is);
      moves = λ v is. subst (λ t. MovesTold resuming.work c.as_slice.result.now c.as_slice-2.result.now c.in-Ok.done t (g.F.Folder.told c.resume.new.folder) v) same
          (c.in-Ok.ensures.moved v (subst (λ t. IsSeen t v) (sym same) is));
      lasts = c.in-Ok.ensures.lasts;
      finishes = λ m v is asked.
          let are : ArePhrases resuming.passes c.as_slice.result.now c.as_slice-2.result.now v = phrases_are resuming.passes c.in_ok-known.known.phrases.source c.in_ok-known.known.phrases.target
          c.as_slice.result.now c.as_slice-2.result.now v c.as_slice.ensures c.as_slice-2.ensures (c.in_ok-known.ensures.source v is) (c.in_ok-known.ensures.target v is) in
          subst (λ t. Finishes m t (g.F.Folder.told c.resume.new.folder)) same
          (c.in-Ok.ensures.finishes m asked.work (keys_seen m resuming.passes v (g.F.Folder.told c.args.folder.now) (g.F.Folder.told c.learn.new.folder) c.as_slice.result.now c.as_slice-2.result.now same is are asked.keys));
      clears = subst (λ t. Clears resuming.work t (g.F.Folder.told c.resume.new.folder)) same c.in-Ok.ensures.clears;
    }

pub returns-in-Ok-clause-keeps : goal.returns-in-Ok-clause-keeps
returns-in-Ok-clause-keeps g c = λ m v is asked.
    keeps_since c.guarded_migrations_are_safe.ensures.safe m (g.F.Folder.told c.args.folder.now) (g.F.Folder.told c.learn.new.folder) (g.F.Folder.told c.resume.new.folder) c.in_ok-known.ensures.told
    (c.in-Ok.ensures.guard m asked.work
    (keys_seen m c.args.resuming.now.passes v (g.F.Folder.told c.args.folder.now) (g.F.Folder.told c.learn.new.folder) c.as_slice.result.now c.as_slice-2.result.now c.in_ok-known.ensures.told is
    (phrases_are c.args.resuming.now.passes c.in_ok-known.known.phrases.source c.in_ok-known.known.phrases.target c.as_slice.result.now c.as_slice-2.result.now v c.as_slice.ensures c.as_slice-2.ensures
    (c.in_ok-known.ensures.source v is) (c.in_ok-known.ensures.target v is))
    asked.keys))

pub returns-clause-keeps : goal.returns-clause-keeps
returns-clause-keeps g c = λ m v is asked.
    keeps_since c.guarded_migrations_are_safe.ensures.safe m (g.F.Folder.told c.args.folder.now) (g.F.Folder.told c.learn.new.folder) (g.F.Folder.told c.resume.new.folder) c.in_ok-known.ensures.told
    (c.in-Err.ensures.guard m asked.work
    (keys_seen m c.args.resuming.now.passes v (g.F.Folder.told c.args.folder.now) (g.F.Folder.told c.learn.new.folder) c.as_slice.result.now c.as_slice-2.result.now c.in_ok-known.ensures.told is
    (phrases_are c.args.resuming.now.passes c.in_ok-known.known.phrases.source c.in_ok-known.known.phrases.target c.as_slice.result.now c.as_slice-2.result.now v c.as_slice.ensures c.as_slice-2.ensures
    (c.in_ok-known.ensures.source v is) (c.in_ok-known.ensures.target v is))
    asked.keys))

pub returns-in-Ok-clause-came : goal.returns-in-Ok-clause-came
returns-in-Ok-clause-came g c = λ v is.
    let resuming = c.args.resuming.now in
    let told' = g.F.Folder.told c.resume.new.folder in
    let stream = g.R.Randoms.left c.args.random.now in
    let stream' = g.R.Randoms.left c.resume.new.random in
    let same = c.in_ok-known.ensures.told in
    let seen = subst (λ t. IsSeen t v) (sym same) is in
    record {
      source_pass = c.as_slice.result.now;
      target_pass = c.as_slice-2.result.now;
      phrases = phrases_are resuming.passes c.in_ok-known.known.phrases.source c.in_ok-known.known.phrases.target c.as_slice.result.now c.as_slice-2.result.now v c.as_slice.ensures c.as_slice-2.ensures
          (c.in_ok-known.ensures.source v is) (c.in_ok-known.ensures.target v is);
      outcome = Ok c.in-Ok.done;
      cause = c.in-Ok.ensures.cause v seen;
      does = subst (λ t. IsWritten resuming t told' stream stream' v c.as_slice.result.now c.as_slice-2.result.now (Ok c.in-Ok.done)) same (record {
        writes = c.in-Ok.ensures.written v seen;
        too_long = tt;
        shared = tt;
        tested = tested_seen (g.F.Folder.told c.learn.new.folder) told' (λ w. IfErr (Ok c.in-Ok.done) IsOfPlacing × PassesResume resuming.work c.as_slice.result.now c.as_slice-2.result.now w) v seen c.in-Ok.ensures.tested;
        undrawn = elim c.in-Ok.ensures.undrawn [ inl none ↦ inl none | inr passed ↦ inr (passed v seen) ];
      });
      answers = refl;
    }

pub returns-clause-stopped : goal.returns-clause-stopped
returns-clause-stopped g c = λ v is.
    let resuming = c.args.resuming.now in
    let told' = g.F.Folder.told c.resume.new.folder in
    let stream = g.R.Randoms.left c.args.random.now in
    let stream' = g.R.Randoms.left c.resume.new.random in
    let found = c.in_ok-known.known.journal in
    let same = c.in_ok-known.ensures.told in
    let seen = subst (λ t. IsSeen t v) (sym same) is in
    let cause = c.in-Err.ensures.cause v seen in
    inr (record {
      source_pass = c.as_slice.result.now;
      target_pass = c.as_slice-2.result.now;
      phrases = phrases_are resuming.passes c.in_ok-known.known.phrases.source c.in_ok-known.known.phrases.target c.as_slice.result.now c.as_slice-2.result.now v c.as_slice.ensures c.as_slice-2.ensures
          (c.in_ok-known.ensures.source v is) (c.in_ok-known.ensures.target v is);
      outcome = Err c.in-Err.fault;
      cause = cause;
      does = subst (λ t. IsWritten resuming t told' stream stream' v c.as_slice.result.now c.as_slice-2.result.now (Err c.in-Err.fault)) same (record {
        writes = c.in-Err.ensures.written v seen;
        too_long = c.in-Err.ensures.too_long v seen;
        shared = c.in-Err.ensures.shared v seen;
        tested = tested_seen (g.F.Folder.told c.learn.new.folder) told' (λ w. IsOfPlacing c.in-Err.fault × PassesResume resuming.work c.as_slice.result.now c.as_slice-2.result.now w) v seen c.in-Err.ensures.tested;
        undrawn = elim c.in-Err.ensures.undrawn [ inl none ↦ inl none | inr passed ↦ inr (passed v seen) ];
      });
      answers = elim c.stopped.ensures.answers [
        | inl memory ↦ inl memory
        | inr named ↦ inr (
          root_by resuming.work found (unopened c.in-Err.fault),
          journal_root resuming v found c.in-Err.fault (c.in_ok-known.ensures.found v is) c.as_slice.result.now c.as_slice-2.result.now cause,
          named,
        )
      ];
    })

pub returns-in_err-known-clause-completes : goal.returns-in_err-known-clause-completes
returns-in_err-known-clause-completes g c =
    let resuming = c.args.resuming.now in
    let told = g.F.Folder.told c.args.folder.now in
    let p = err_from_is_err_and c.from_residual.result c.from_residual.ensures.1 in
    subst (λ r. IfErr r (λ answer. (m : Migration) → IfSeen told (λ v. IsResumedFor m resuming v → CanResume m v → Completes answer))) (sym p.1) (λ m v is asked can.
    subst Completes (sym p.2) (read_completes resuming.passes asked.keys.source_pass asked.keys.target_pass v c.in_err-known.field-0.0 asked.keys.phrases (c.in_err-known.ensures.refused v is)))

pub returns-clause-completes : goal.returns-clause-completes
returns-clause-completes g c = λ m v is asked can.
    let resuming = c.args.resuming.now in
    let known = c.in_ok-known.known in
    let seen = subst (λ t. IsSeen t v) (sym c.in_ok-known.ensures.told) is in
    let are : ArePhrases resuming.passes c.as_slice.result.now c.as_slice-2.result.now v = phrases_are resuming.passes known.phrases.source known.phrases.target
    c.as_slice.result.now c.as_slice-2.result.now v c.as_slice.ensures c.as_slice-2.ensures (c.in_ok-known.ensures.source v is) (c.in_ok-known.ensures.target v is) in
    chance_answered resuming.work (root_by resuming.work known.journal (unopened c.in-Err.fault)) c.in-Err.fault c.stopped.result
    (c.in-Err.ensures.completes m v seen asked.work (keys_read m resuming.passes v c.as_slice.result.now c.as_slice-2.result.now are asked.keys) can) c.stopped.ensures.answers

pub returns-in-Ok-clause-moves : goal.returns-in-Ok-clause-moves
returns-in-Ok-clause-moves g c =
    journal_since c.args.resuming.now.work (λ journal t. MovesOnly c.args.resuming.now.work journal.target t (g.F.Folder.told c.resume.new.folder)) (g.F.Folder.told c.args.folder.now) (g.F.Folder.told c.learn.new.folder)
    c.in_ok-known.ensures.told c.resume.ensures.moves

pub returns-clause-moves : goal.returns-clause-moves
returns-clause-moves g c =
    journal_since c.args.resuming.now.work (λ journal t. MovesOnly c.args.resuming.now.work journal.target t (g.F.Folder.told c.resume.new.folder)) (g.F.Folder.told c.args.folder.now) (g.F.Folder.told c.learn.new.folder)
    c.in_ok-known.ensures.told c.resume.ensures.moves

pub returns-in_err-known-clause-drew : goal.returns-in_err-known-clause-drew
returns-in_err-known-clause-drew g c = unread_drew c.in_err-known.field-0.0 c.from_residual.result (g.R.Randoms.left c.args.random.now) c.from_residual.ensures.1 c.in_err-known.ensures.own

pub returns-in-Ok-clause-drew : goal.returns-in-Ok-clause-drew
returns-in-Ok-clause-drew g c = done_drew c.in-Ok.done (g.R.Randoms.left c.args.random.now) (g.R.Randoms.left c.resume.new.random) c.in-Ok.ensures.drew

pub returns-clause-drew : goal.returns-clause-drew
returns-clause-drew g c = fault_drew c.in-Err.fault c.stopped.result (g.R.Randoms.left c.args.random.now) (g.R.Randoms.left c.resume.new.random) c.stopped.ensures.zeros c.in-Err.ensures.drew

pub returns-in_err-known-clause-journal : goal.returns-in_err-known-clause-journal
returns-in_err-known-clause-journal g c = journal_same (HaveTrees c.args.resuming.now) c.args.resuming.now.work (g.F.Folder.told c.args.folder.now) (g.F.Folder.told c.learn.new.folder) c.in_err-known.ensures.told

pub returns-in-Ok-clause-journal : goal.returns-in-Ok-clause-journal
returns-in-Ok-clause-journal g c =
    let passes = c.args.resuming.now.passes in
    let phrases = c.in_ok-known.known.phrases in
    let pass = c.as_slice.result.now in
    let pass' = c.as_slice-2.result.now in
    journals_since c.args.resuming.now pass pass' (g.F.Folder.told c.args.folder.now) (g.F.Folder.told c.learn.new.folder) (g.F.Folder.told c.resume.new.folder) c.in_ok-known.ensures.told
    (λ v is. phrases_are passes phrases.source phrases.target pass pass' v c.as_slice.ensures c.as_slice-2.ensures (c.in_ok-known.ensures.source v is) (c.in_ok-known.ensures.target v is))
    c.resume.ensures.journal

pub returns-clause-journal : goal.returns-clause-journal
returns-clause-journal g c =
    let passes = c.args.resuming.now.passes in
    let phrases = c.in_ok-known.known.phrases in
    let pass = c.as_slice.result.now in
    let pass' = c.as_slice-2.result.now in
    journals_since c.args.resuming.now pass pass' (g.F.Folder.told c.args.folder.now) (g.F.Folder.told c.learn.new.folder) (g.F.Folder.told c.resume.new.folder) c.in_ok-known.ensures.told
    (λ v is. phrases_are passes phrases.source phrases.target pass pass' v c.as_slice.ensures c.as_slice-2.ensures (c.in_ok-known.ensures.source v is) (c.in_ok-known.ensures.target v is))
    c.resume.ensures.journal
