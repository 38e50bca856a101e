use Rattle.folder_spec.specs.Region.{apart_from_both}
use Rattle.migrate_core.proofs.Movings.{moves_on, settle_moves}
use Rattle.folder_spec.specs.View.{View}
use Rattle.folder_spec.specs.Seen.{IfSeen}
use Rattle.migrate_core.proofs.Endings.{if_ok_more, told_before}
use Rattle.migrate_core.specs.Moved.{MovesTold}
use Rattle.migrate_core.specs.Faults.{is_of_resume, of_folder}
use Rattle.migrate_core.specs.Causes.{Resumes, Unless, PassesResume, IsOfPlacing}
use Rattle.migrate_core.proofs.Writings.{settle_writes}
use Rattle.migrate_core.proofs.WrittenTrees.{refused_written, told_after}
use Rattle.std.proofs.Common.{inl, Ok, refl, IfErr}
use Rattle.migrate_core.proofs.Completing.{folder_chance, own_faults}
use Rattle.migrate_core.proofs.Continuing.{resume_completes}
use Rattle.migrate_core.proofs.Limits.{as_told_before, if_taken, limit_more, none_compared, none_taken}
use Rattle.migrate_core.proofs.Sharing.{as_told_since}
use Rattle.migrate_core.specs.Sharing.{SharesAsTold}
use Rattle.migrate_core.specs.Limits.{PassesAsTold}
use Rattle.migrate_core.proofs.Drawing.{drew_refused, undrawn_on}
use Rattle.migrate_core.proofs.resuming.resume.Goals as goal
use Rattle.migration_spec.proofs.Settling.{settle_fell, settle_seen, settle_seen_back}
use Rattle.migrate_core.proofs.Settled.{settle_goes}
use Rattle.migration_spec.proofs.Tellings.{folders_of}
use Rattle.migration_sides.proofs.Chains.{fault_as, refused_as}
use Rattle.migration_sides.proofs.Told.{folder_unless}
use Rattle.migrate_core.proofs.Tested.{folder_tested}
use Rattle.migration_sides.proofs.Unchanged.{tested_settled, unchanged_settled}
use Rattle.migrate_core.proofs.Lastings.{clears_settled, journal_fell, journal_kept, on_ok_more, settle_ends, texts_settled}
use Rattle.migrate_core.specs.Lasting.{Clears, EndsEach, EndsEachSettled, HaveToldTrees}

pub returns-in_err-settle-clause-guard : goal.returns-in_err-settle-clause-guard
returns-in_err-settle-clause-guard g c = λ migration resumed opened.
    settle_fell c.settling_and_entering_keep_migrations_guarded.ensures.settles migration (g.F.Folder.told c.args.folder.now) (g.F.Folder.told c.settle.new.self) c.settle.result c.settle.ensures.changes

pub returns-clause-guard : goal.returns-clause-guard
returns-clause-guard g c = λ migration resumed opened.
    let law = c.settling_and_entering_keep_migrations_guarded.ensures in
    settle_goes law.settles law.alone migration (g.F.Folder.told c.args.folder.now) (g.F.Folder.told c.settle.new.self) (g.F.Folder.told c.resume_settled.new.folder) c.in_ok-settle.field-0
    (g.met.F.Folder.sound c.args.folder.now) (g.met.F.Folder.sound c.settle.new.self) c.in_ok-settle.ensures.changes (c.resume_settled.ensures.guard migration resumed
    (λ v seen. opened v (settle_seen_back (g.F.Folder.told c.args.folder.now) (g.F.Folder.told c.settle.new.self) (Ok c.in_ok-settle.field-0) c.in_ok-settle.ensures.changes v seen)))

pub returns-in_err-settle-clause-moves : goal.returns-in_err-settle-clause-moves
returns-in_err-settle-clause-moves g c = λ v journal seen is stands.
    settle_moves c.args.work.now (apart_from_both c.args.work.now journal.target) journal.target (g.F.Folder.told c.args.folder.now) (g.F.Folder.told c.settle.new.self) c.settle.result c.settle.ensures.changes

pub returns-clause-moves : goal.returns-clause-moves
returns-clause-moves g c = λ v journal seen is stands.
    let region = apart_from_both c.args.work.now journal.target in
    let t0 = g.F.Folder.told c.args.folder.now in
    let t1 = g.F.Folder.told c.settle.new.self in
    moves_on c.args.work.now region journal.target t0 t1 (g.F.Folder.told c.resume_settled.new.folder) (settle_moves c.args.work.now region journal.target t0 t1 c.settle.result c.settle.ensures.changes)
    (c.resume_settled.ensures.moves v journal (settle_seen t0 t1 c.in_ok-settle.field-0 c.in_ok-settle.ensures.changes v seen) is stands)

pub returns-clause-moved : goal.returns-clause-moved
returns-clause-moved g c =
    let work = c.args.work.now in
    let t0 = g.F.Folder.told c.args.folder.now in
    let t1 = g.F.Folder.told c.settle.new.self in
    let t2 = g.F.Folder.told c.resume_settled.new.folder in
    let pass = c.args.source_pass.now in
    let pass' = c.args.target_pass.now in
    let seen_then = settle_seen t0 t1 c.in_ok-settle.field-0 c.in_ok-settle.ensures.changes in
    if_ok_more (λ done. IfSeen t1 (λ v. MovesTold work pass pass' done t1 t2 v)) (λ done. IfSeen t0 (λ v. MovesTold work pass pass' done t0 t2 v)) c.resume_settled.result
    (λ done moves v seen. told_before work pass pass' done t0 t1 t2 seen_then v (moves v (seen_then v seen))) c.resume_settled.ensures.moved

pub returns-in_err-settle-clause-cause : goal.returns-in_err-settle-clause-cause
returns-in_err-settle-clause-cause g c v seen =
    refused_as (λ answer. Unless answer (Resumes c.args.work.now c.args.source_pass.now c.args.target_pass.now v answer)) c.from_residual.result c.from_residual.ensures.1
    (folder_unless of_folder refl _ c.in_err-settle.field-0.0)

pub returns-clause-cause : goal.returns-clause-cause
returns-clause-cause g c v seen =
    c.resume_settled.ensures.cause v (settle_seen (g.F.Folder.told c.args.folder.now) (g.F.Folder.told c.settle.new.self) c.in_ok-settle.field-0 c.in_ok-settle.ensures.changes v seen)

pub returns-in_err-settle-clause-written : goal.returns-in_err-settle-clause-written
returns-in_err-settle-clause-written g c v seen =
    let told = g.F.Folder.told c.args.folder.now in
    let settled = g.F.Folder.told c.settle.new.self in
    inl (refused_written c.from_residual.result _ c.from_residual.ensures.1 (folder_tested c.in_err-settle.field-0.0).1 (g.R.Randoms.left c.args.random.now) told settled (c.draws_compose.ensures.none _)
    (unchanged_settled told settled c.settle.result c.settle.ensures.changes))

pub returns-clause-written : goal.returns-clause-written
returns-clause-written g c v seen =
    let told = g.F.Folder.told c.args.folder.now in
    let left = g.R.Randoms.left c.args.random.now in
    let settled = g.F.Folder.told c.settle.new.self in
    let known = settle_seen told settled c.in_ok-settle.field-0 c.in_ok-settle.ensures.changes in
    told_after left (g.R.Randoms.left c.resume_settled.new.random) told settled (g.F.Folder.told c.resume_settled.new.folder) known (unchanged_settled told settled c.settle.result c.settle.ensures.changes) (settle_writes told settled c.settle.result c.settle.ensures.changes)
    c.resume_settled.result c.args.work.now c.args.source_pass.now c.args.target_pass.now v (c.resume_settled.ensures.written v (known v seen))

pub returns-in_err-settle-clause-tested : goal.returns-in_err-settle-clause-tested
returns-in_err-settle-clause-tested g c = inl (unchanged_settled (g.F.Folder.told c.args.folder.now) (g.F.Folder.told c.settle.new.self) c.settle.result c.settle.ensures.changes)

pub returns-clause-tested : goal.returns-clause-tested
returns-clause-tested g c =
    let t0 = g.F.Folder.told c.args.folder.now in
    let t1 = g.F.Folder.told c.settle.new.self in
    tested_settled t0 t1 (g.F.Folder.told c.resume_settled.new.folder) (λ v. IfErr c.resume_settled.result IsOfPlacing × PassesResume c.args.work.now c.args.source_pass.now c.args.target_pass.now v) c.resume_settled.ensures.tested
    (unchanged_settled t0 t1 c.settle.result c.settle.ensures.changes) (settle_seen t0 t1 c.in_ok-settle.field-0 c.in_ok-settle.ensures.changes)

pub returns-in_err-settle-clause-completes : goal.returns-in_err-settle-clause-completes
returns-in_err-settle-clause-completes g c m v seen asked opened can =
    fault_as _ c.from_residual.result c.from_residual.ensures.1 (folder_chance c.in_err-settle.field-0.0)

pub returns-clause-completes : goal.returns-clause-completes
returns-clause-completes g c m v seen asked opened can =
    let pass = c.args.source_pass.now in
    let pass' = c.args.target_pass.now in
    resume_completes m v c.args.work.now pass pass' c.resume_settled.result asked
    (c.what_can_resume_is_done.ensures m pass pass' v c.resume_settled.result (folders_of (g.F.Folder.told c.args.folder.now) (g.met.F.Folder.sound c.args.folder.now) v seen) opened can
    (own_faults is_of_resume c.resume_settled.result _ _ c.resume_settled.ensures.blamed)) (returns-clause-cause g c v seen)

pub returns-in_err-settle-clause-too_long : goal.returns-in_err-settle-clause-too_long
returns-in_err-settle-clause-too_long g c v seen =
    none_compared _ c.from_residual.result _ c.from_residual.ensures.1 (folder_tested c.in_err-settle.field-0.0).0

pub returns-clause-too_long : goal.returns-clause-too_long
returns-clause-too_long g c v seen =
    let work = c.args.work.now in
    let t0 = g.F.Folder.told c.args.folder.now in
    let t1 = g.F.Folder.told c.settle.new.self in
    let t2 = g.F.Folder.told c.resume_settled.new.folder in
    let pass = c.args.source_pass.now in
    let pass' = c.args.target_pass.now in
    let known = settle_seen t0 t1 c.in_ok-settle.field-0 c.in_ok-settle.ensures.changes in
    limit_more (PassesAsTold work pass pass' t1 t2 v) (PassesAsTold work pass pass' t0 t2 v) c.resume_settled.result (as_told_before work pass pass' t0 t1 t2 known v) (c.resume_settled.ensures.too_long v (known v seen))

pub returns-in_err-settle-clause-shared : goal.returns-in_err-settle-clause-shared
returns-in_err-settle-clause-shared g c v seen =
    none_taken _ c.from_residual.result _ c.from_residual.ensures.1 (folder_tested c.in_err-settle.field-0.0).0

pub returns-clause-shared : goal.returns-clause-shared
returns-clause-shared g c v seen =
    let work = c.args.work.now in
    let t0 = g.F.Folder.told c.args.folder.now in
    let t1 = g.F.Folder.told c.settle.new.self in
    let t2 = g.F.Folder.told c.resume_settled.new.folder in
    let pass = c.args.source_pass.now in
    let pass' = c.args.target_pass.now in
    let left = g.R.Randoms.left c.args.random.now in
    let left' = g.R.Randoms.left c.resume_settled.new.random in
    let known = settle_seen t0 t1 c.in_ok-settle.field-0 c.in_ok-settle.ensures.changes in
    if_taken (SharesAsTold work pass pass' left left' t1 t2 v) (SharesAsTold work pass pass' left left' t0 t2 v) c.resume_settled.result (as_told_since work pass pass' left left' t0 t1 t2 known v) (c.resume_settled.ensures.shared v (known v seen))

pub returns-in_err-settle-clause-drew : goal.returns-in_err-settle-clause-drew
returns-in_err-settle-clause-drew g c = drew_refused c.draws_compose.ensures.none (g.R.Randoms.left c.args.random.now) c.from_residual.result _ c.from_residual.ensures.1 (folder_tested c.in_err-settle.field-0.0).1

pub returns-clause-clears : goal.returns-clause-clears
returns-clause-clears g c =
    let t0 = g.F.Folder.told c.args.folder.now in
    let t1 = g.F.Folder.told c.settle.new.self in
    let t2 = g.F.Folder.told c.resume_settled.new.folder in
    on_ok_more (Clears c.args.work.now t1 t2) (Clears c.args.work.now t0 t2) c.resume_settled.result (clears_settled c.args.work.now t0 t1 t2 (settle_seen t0 t1 c.in_ok-settle.field-0 c.in_ok-settle.ensures.changes)) c.resume_settled.ensures.clears

pub returns-in_err-settle-clause-journal : goal.returns-in_err-settle-clause-journal
returns-in_err-settle-clause-journal g c v journal seen is stands =
    journal_fell (HaveToldTrees c.args.source_pass.now c.args.target_pass.now v journal) c.args.work.now journal (g.F.Folder.told c.args.folder.now) (g.F.Folder.told c.settle.new.self) c.settle.result v seen stands c.settle.ensures.changes

pub returns-clause-journal : goal.returns-clause-journal
returns-clause-journal g c v journal seen is stands =
    let t0 = g.F.Folder.told c.args.folder.now in
    let t1 = g.F.Folder.told c.settle.new.self in
    let t2 = g.F.Folder.told c.resume_settled.new.folder in
    journal_kept (HaveToldTrees c.args.source_pass.now c.args.target_pass.now v journal) c.args.work.now journal t0 t1 t2 c.in_ok-settle.field-0 v (g.met.F.Folder.sound c.args.folder.now) (g.met.F.Folder.sound c.settle.new.self) seen stands c.in_ok-settle.ensures.changes
    (texts_settled (λ x. ⊥) c.args.work.now journal t0 t1 c.settle.result c.settle.ensures.changes)
    (c.resume_settled.ensures.journal v journal (settle_seen t0 t1 c.in_ok-settle.field-0 c.in_ok-settle.ensures.changes v seen) is stands)

pub returns-clause-finishes : goal.returns-clause-finishes
returns-clause-finishes g c =
    let law = c.settling_and_entering_keep_migrations_guarded.ensures in
    let work = c.args.work.now in
    let pass = c.args.source_pass.now in
    let pass' = c.args.target_pass.now in
    let t0 = g.F.Folder.told c.args.folder.now in
    let t1 = g.F.Folder.told c.settle.new.self in
    let t2 = g.F.Folder.told c.resume_settled.new.folder in
    on_ok_more (EndsEachSettled work pass pass' t1 t2) (EndsEach work pass pass' t0 t2) c.resume_settled.result
    (λ ends migration resumed opened.
    settle_ends law.settles law.alone migration t0 t1 t2 c.in_ok-settle.field-0 (g.met.F.Folder.sound c.args.folder.now) (g.met.F.Folder.sound c.settle.new.self) c.in_ok-settle.ensures.changes
    (ends migration resumed (λ v seen. opened v (settle_seen_back t0 t1 (Ok c.in_ok-settle.field-0) c.in_ok-settle.ensures.changes v seen)))) c.resume_settled.ensures.finishes

pub returns-in_err-settle-clause-undrawn : goal.returns-in_err-settle-clause-undrawn
returns-in_err-settle-clause-undrawn g c = inl (c.draws_compose.ensures.none (g.R.Randoms.left c.args.random.now))

pub returns-clause-undrawn : goal.returns-clause-undrawn
returns-clause-undrawn g c =
    let t0 = g.F.Folder.told c.args.folder.now in
    let t1 = g.F.Folder.told c.settle.new.self in
    let Passed : View → Type 0 = λ v. IfErr c.resume_settled.result IsOfPlacing × PassesResume c.args.work.now c.args.source_pass.now c.args.target_pass.now v in
    undrawn_on Passed Passed t0 t1 (settle_seen t0 t1 c.in_ok-settle.field-0 c.in_ok-settle.ensures.changes) (λ v is passed. passed) c.resume_settled.ensures.undrawn
