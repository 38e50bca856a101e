use Rattle.std.proofs.Common.{Ok, Err, IfErr, inl, inr, refl, sym, subst}
use Rattle.std.proofs.lemmas.Result.{err_from_is_err_and}
use Rattle.folder_spec.specs.Seen.{IfSeen, IsSeen}
use Rattle.retire_core.specs.Completing.{CanRetire}
use Rattle.retire_core.specs.Retiring.{KeepsInOrder}
use Rattle.migration_spec.specs.Guard.{Migration}
use Rattle.migration_commands.specs.Moving.{ArePhrases}
use Rattle.migration_commands.specs.Resume.{IsResumedFor, root_by}
use Rattle.migration_commands.specs.Retire.{Completes, MayCome, unopened}
use Rattle.migration_commands.proofs.Migrations.{keeps_same, keeps_since, keys_read, passes_unread, phrases_are, phrases_read}
use Rattle.migration_commands.proofs.Retirings.{folder_answered, order_same, retire_root, touches_since}
use Rattle.migration_commands.proofs.retiring.remove.Goals as goal

pub returns-in_err-known-clause-keeps : goal.returns-in_err-known-clause-keeps
returns-in_err-known-clause-keeps g c = λ m at_work.
    keeps_same c.guarded_migrations_are_safe.ensures.safe m (g.F.Folder.told c.args.folder.now) (g.F.Folder.told c.learn.new.folder) c.in_err-known.ensures.told

pub returns-in_err-known-clause-stopped : goal.returns-in_err-known-clause-stopped
returns-in_err-known-clause-stopped g c =
    let resuming = c.args.resuming.now in
    let told = g.F.Folder.told c.args.folder.now in
    let told' = g.F.Folder.told c.learn.new.folder in
    let p = err_from_is_err_and c.from_residual.result c.from_residual.ensures.1 in
    subst (λ r. IfErr r (λ answer. IfSeen told (λ v. MayCome resuming answer told told' v))) (sym p.1) (λ v is.
    subst (λ answer. MayCome resuming answer told told' v) (sym p.2)
    (inl (passes_unread resuming.passes c.in_err-known.field-0.0 told told' v c.in_err-known.ensures.told (c.in_err-known.ensures.refused v is))))

pub returns-in-Ok-clause-keeps : goal.returns-in-Ok-clause-keeps
returns-in-Ok-clause-keeps g c = λ m at_work.
    keeps_since c.guarded_migrations_are_safe.ensures.safe m (g.F.Folder.told c.args.folder.now) (g.F.Folder.told c.learn.new.folder) (g.F.Folder.told c.retire.new.folder) c.in_ok-known.ensures.told
    (c.in-Ok.ensures.guard m at_work)

pub returns-clause-keeps : goal.returns-clause-keeps
returns-clause-keeps g c = λ m at_work.
    keeps_since c.guarded_migrations_are_safe.ensures.safe m (g.F.Folder.told c.args.folder.now) (g.F.Folder.told c.learn.new.folder) (g.F.Folder.told c.retire.new.folder) c.in_ok-known.ensures.told
    (c.in-Err.ensures.guard m at_work)

pub returns-in-Ok-clause-retired : goal.returns-in-Ok-clause-retired
returns-in-Ok-clause-retired g c = record {
  gone = λ v is. c.in-Ok.ensures.retired v (subst (λ t. IsSeen t v) (sym c.in_ok-known.ensures.told) is);
  lasts = c.in-Ok.ensures.lasts;
}

pub returns-in-Ok-clause-came : goal.returns-in-Ok-clause-came
returns-in-Ok-clause-came g c = λ v is.
    let resuming = c.args.resuming.now in
    let told' = g.F.Folder.told c.retire.new.folder in
    let same = c.in_ok-known.ensures.told in
    let seen = subst (λ t. IsSeen t v) (sym same) is in
    record {
      source_pass = c.as_slice.result.now;
      target_pass = c.as_slice-2.result.now;
      phrases = phrases_are resuming.passes c.in_ok-known.known.phrases.source c.in_ok-known.known.phrases.target c.as_slice.result.now c.as_slice-2.result.now v c.as_slice.ensures c.as_slice-2.ensures
          (c.in_ok-known.ensures.source v is) (c.in_ok-known.ensures.target v is);
      outcome = Ok c.in-Ok.retired;
      cause = c.in-Ok.ensures.cause v seen;
      does = touches_since resuming (g.F.Folder.told c.args.folder.now) (g.F.Folder.told c.learn.new.folder) told' v c.as_slice.result.now c.as_slice-2.result.now (Ok c.in-Ok.retired) same is c.retire.ensures.touches c.retire.ensures.removes
          c.in-Ok.ensures.tested;
      answers = refl;
    }

pub returns-clause-stopped : goal.returns-clause-stopped
returns-clause-stopped g c = λ v is.
    let resuming = c.args.resuming.now in
    let told' = g.F.Folder.told c.retire.new.folder in
    let same = c.in_ok-known.ensures.told in
    let seen = subst (λ t. IsSeen t v) (sym same) is in
    let found = c.in_ok-known.known.journal in
    inr (record {
      source_pass = c.as_slice.result.now;
      target_pass = c.as_slice-2.result.now;
      phrases = phrases_are resuming.passes c.in_ok-known.known.phrases.source c.in_ok-known.known.phrases.target c.as_slice.result.now c.as_slice-2.result.now v c.as_slice.ensures c.as_slice-2.ensures
          (c.in_ok-known.ensures.source v is) (c.in_ok-known.ensures.target v is);
      outcome = Err c.in-Err.fault;
      cause = c.in-Err.ensures.cause v seen;
      does = touches_since resuming (g.F.Folder.told c.args.folder.now) (g.F.Folder.told c.learn.new.folder) told' v c.as_slice.result.now c.as_slice-2.result.now (Err c.in-Err.fault) same is c.retire.ensures.touches c.retire.ensures.removes
          c.in-Err.ensures.tested;
      answers = elim c.refused.ensures.answers [
        | inl memory ↦ inl memory
        | inr named ↦ inr (
          root_by resuming.work found (unopened c.in-Err.fault),
          retire_root resuming v found c.in-Err.fault (c.in_ok-known.ensures.found v is) c.as_slice.result.now c.as_slice-2.result.now (c.in-Err.ensures.cause v seen),
          named,
        )
      ];
    })

pub returns-in_err-known-clause-completes : goal.returns-in_err-known-clause-completes
returns-in_err-known-clause-completes g c =
    let resuming = c.args.resuming.now in
    let told = g.F.Folder.told c.args.folder.now in
    let p = err_from_is_err_and c.from_residual.result c.from_residual.ensures.1 in
    subst (λ r. IfErr r (λ answer. (m : Migration) → IfSeen told (λ v. IsResumedFor m resuming v → CanRetire m v → Completes answer))) (sym p.1) (λ m v is asked can.
    subst Completes (sym p.2)
    (phrases_read resuming.passes asked.keys.source_pass asked.keys.target_pass v c.in_err-known.field-0.0 _ asked.keys.phrases (c.in_err-known.ensures.refused v is)))

pub returns-clause-completes : goal.returns-clause-completes
returns-clause-completes g c = λ m v is asked can.
    let resuming = c.args.resuming.now in
    let known = c.in_ok-known.known in
    let seen = subst (λ t. IsSeen t v) (sym c.in_ok-known.ensures.told) is in
    let are : ArePhrases resuming.passes c.as_slice.result.now c.as_slice-2.result.now v = phrases_are resuming.passes known.phrases.source known.phrases.target
    c.as_slice.result.now c.as_slice-2.result.now v c.as_slice.ensures c.as_slice-2.ensures (c.in_ok-known.ensures.source v is) (c.in_ok-known.ensures.target v is) in
    folder_answered resuming.work (root_by resuming.work known.journal (unopened c.in-Err.fault)) c.in-Err.fault c.refused.result
    (c.in-Err.ensures.completes m v seen asked.work (keys_read m resuming.passes v c.as_slice.result.now c.as_slice-2.result.now are asked.keys) can) c.refused.ensures.answers

pub returns-in_err-known-clause-order : goal.returns-in_err-known-clause-order
returns-in_err-known-clause-order g c = order_same c.args.resuming.now.work (g.F.Folder.told c.args.folder.now) (g.F.Folder.told c.learn.new.folder) c.in_err-known.ensures.told

pub returns-in-Ok-clause-order : goal.returns-in-Ok-clause-order
returns-in-Ok-clause-order g c = subst (λ t. KeepsInOrder c.args.resuming.now.work t (g.F.Folder.told c.retire.new.folder)) c.in_ok-known.ensures.told c.retire.ensures.order

pub returns-clause-order : goal.returns-clause-order
returns-clause-order g c = subst (λ t. KeepsInOrder c.args.resuming.now.work t (g.F.Folder.told c.retire.new.folder)) c.in_ok-known.ensures.told c.retire.ensures.order
