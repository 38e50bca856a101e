use Rattle.std.proofs.Common.{arith, refl, inl, Ok, IfErr, IsTrue}
use Rattle.folder_model.proofs.Counting.{never_falls}
use Rattle.folder_spec.specs.Region.{apart_from_both}
use Rattle.migrate_core.proofs.Movings.{moves_nowhere, moves_on, settle_moves}
use Rattle.migrate_core.proofs.Settled.{settle_goes}
use Rattle.migrate_core.proofs.Endings.{if_ok_more, moved_before}
use Rattle.migrate_core.specs.Moved.{MovesTree}
use Rattle.migration_sides.proofs.Told.{apart_passes, apart_refused, folder_unless}
use Rattle.migration_sides.specs.Causes.{TestsApart}
use Rattle.migration_sides.specs.Tests.{Then}
use Rattle.migrate_core.proofs.Blaming.{apart_begins, apart_tells, blamed_begins, blamed_may, folder_tells}
use Rattle.migrate_core.specs.Causes.{Begins, BeginsApart, Unless, PassesBegin, IsOfPlacing}
use Rattle.migrate_core.specs.Faults.{is_of_apart, of_folder, of_step}
use Rattle.migrate_core.specs.declared.placing.Done.{Done}
use Rattle.migrate_core.proofs.Writings.{settle_writes}
use Rattle.migrate_core.proofs.WrittenTrees.{refused_written, may_write_after, nothing_written}
use Rattle.migrate_core.specs.Written.{journal_texts}
use Rattle.migrate_core.proofs.Completing.{begin_completes, folder_chance, own_faults}
use Rattle.migrate_core.proofs.Limits.{if_taken, in_tree_before, limit_more, none_compared, none_taken}
use Rattle.migrate_core.specs.Limits.{PassesInTree}
use Rattle.migrate_core.proofs.Sharing.{in_tree_since}
use Rattle.migrate_core.specs.Sharing.{SharesInTree}
use Rattle.migrate_core.proofs.Drawing.{drew_refused, undrawn_on}
use Rattle.migrate_core.proofs.beginning.begin.Goals as goal
use Rattle.migration_spec.proofs.Settling.{settle_fell, settle_seen, settle_seen_back, still_guarded}
use Rattle.migration_sides.proofs.Chains.{fault_as, refused_as}
use Rattle.migrate_core.proofs.Tested.{folder_tested, step_tested}
use Rattle.migration_sides.proofs.Unchanged.{tested_settled, unchanged, unchanged_settled}
use Rattle.migration_spec.specs.Guard.{Guarded}
use Rattle.migrate_core.proofs.Lastings.{on_ok_more, settle_ends}
use Rattle.migrate_core.specs.Lasting.{Finishes, FinishesSettled}
use Rattle.migrate_core.specs.Sides.{IsAsked}
use Rattle.folder_spec.specs.View.{View}
use Rattle.folder_spec.specs.Seen.{IfSeen}
use Rattle.migration_spec.specs.Guard.{AreOpenedBy, Migration}
use Rattle.migrate_core.proofs.Bringing.{brought_since, unbrought}
use Rattle.migrate_core.proofs.Lastings.{texts_same, texts_settled}

pub returns-in_err-test_apart-clause-guard : goal.returns-in_err-test_apart-clause-guard
returns-in_err-test_apart-clause-guard g c = λ migration asked opened. still_guarded (Guarded migration) migration (g.F.Folder.told c.args.folder.now) (g.F.Folder.told c.args.folder.now) (λ s is. is) refl

pub returns-in_err-test_apart-clause-moves : goal.returns-in_err-test_apart-clause-moves
returns-in_err-test_apart-clause-moves g c = moves_nowhere c.args.work.now _ c.args.target.now _ _ refl

pub returns-in_err-settle-clause-guard : goal.returns-in_err-settle-clause-guard
returns-in_err-settle-clause-guard g c = λ migration asked opened.
    settle_fell c.settling_and_entering_keep_migrations_guarded.ensures.settles migration (g.F.Folder.told c.args.folder.now) (g.F.Folder.told c.settle.new.self) c.settle.result c.settle.ensures.changes

pub returns-in_err-settle-clause-moves : goal.returns-in_err-settle-clause-moves
returns-in_err-settle-clause-moves g c =
    settle_moves c.args.work.now (apart_from_both c.args.work.now c.args.target.now) c.args.target.now (g.F.Folder.told c.args.folder.now) (g.F.Folder.told c.settle.new.self) c.settle.result c.settle.ensures.changes

pub returns-clause-guard : goal.returns-clause-guard
returns-clause-guard g c = λ migration asked opened.
    let law = c.settling_and_entering_keep_migrations_guarded.ensures in
    settle_goes law.settles law.alone migration (g.F.Folder.told c.args.folder.now) (g.F.Folder.told c.settle.new.self) (g.F.Folder.told c.begin_settled.new.folder) c.in_ok-settle.field-0
    (g.met.F.Folder.sound c.args.folder.now) (g.met.F.Folder.sound c.settle.new.self) c.in_ok-settle.ensures.changes
    (c.begin_settled.ensures.guard migration asked
    (λ v seen. opened v (settle_seen_back (g.F.Folder.told c.args.folder.now) (g.F.Folder.told c.settle.new.self) (Ok c.in_ok-settle.field-0) c.in_ok-settle.ensures.changes v seen)))

pub returns-clause-moves : goal.returns-clause-moves
returns-clause-moves g c =
    let region = apart_from_both c.args.work.now c.args.target.now in
    let t0 = g.F.Folder.told c.args.folder.now in
    let t1 = g.F.Folder.told c.settle.new.self in
    moves_on c.args.work.now region c.args.target.now t0 t1 (g.F.Folder.told c.begin_settled.new.folder) (settle_moves c.args.work.now region c.args.target.now t0 t1 c.settle.result c.settle.ensures.changes) c.begin_settled.ensures.moves

pub returns-clause-moved : goal.returns-clause-moved
returns-clause-moved g c =
    let from = c.args.source.now in
    let to = c.args.target.now in
    let work = c.args.work.now in
    let t0 = g.F.Folder.told c.args.folder.now in
    let t1 = g.F.Folder.told c.settle.new.self in
    let t2 = g.F.Folder.told c.begin_settled.new.folder in
    let pass = c.args.source_pass.now in
    let pass' = c.args.target_pass.now in
    if_ok_more (λ done. MovesTree c.args.names from to work pass pass' done t1 t2) (λ done. MovesTree c.args.names from to work pass pass' done t0 t2) c.begin_settled.result
    (λ done. moved_before c.args.names from to work pass pass' done t0 t1 t2 (settle_seen t0 t1 c.in_ok-settle.field-0 c.in_ok-settle.ensures.changes)) c.begin_settled.ensures.moved

pub returns-in_err-test_apart-clause-cause : goal.returns-in_err-test_apart-clause-cause
returns-in_err-test_apart-clause-cause g c v seen =
    let from = c.args.source.now in
    let to = c.args.target.now in
    let work = c.args.work.now in
    let begins = BeginsApart {Y = Done} c.args.names from to work c.args.source_pass.now c.args.target_pass.now v in
    refused_as (λ answer. Unless answer (Then of_step (TestsApart from to work) (λ _. begins) answer)) c.from_residual.result c.from_residual.ensures.1
    (apart_refused of_step from to work (λ _. begins) c.in_err-test_apart.field-0.0 c.in_err-test_apart.ensures.cause)

pub returns-in_err-settle-clause-cause : goal.returns-in_err-settle-clause-cause
returns-in_err-settle-clause-cause g c v seen =
    refused_as (λ answer. Unless answer (Begins c.args.names c.args.source.now c.args.target.now c.args.work.now c.args.source_pass.now c.args.target_pass.now v answer)) c.from_residual-in_err-settle.result
    c.from_residual-in_err-settle.ensures.1 (folder_unless of_folder refl _ c.in_err-settle.field-0.0)

pub returns-clause-cause : goal.returns-clause-cause
returns-clause-cause g c v seen =
    let from = c.args.source.now in
    let to = c.args.target.now in
    let work = c.args.work.now in
    apart_passes of_step from to work (λ _. BeginsApart c.args.names from to work c.args.source_pass.now c.args.target_pass.now v) c.begin_settled.result c.in_ok-test_apart.ensures.cause
    (c.begin_settled.ensures.cause v (settle_seen (g.F.Folder.told c.args.folder.now) (g.F.Folder.told c.settle.new.self) c.in_ok-settle.field-0 c.in_ok-settle.ensures.changes v seen))

pub returns-in_err-test_apart-clause-written : goal.returns-in_err-test_apart-clause-written
returns-in_err-test_apart-clause-written g c v seen =
    inl (nothing_written c.from_residual.result _ c.from_residual.ensures.1 (step_tested c.in_err-test_apart.field-0.0).1 _ _ _ (c.draws_compose.ensures.none _) refl)

pub returns-in_err-settle-clause-written : goal.returns-in_err-settle-clause-written
returns-in_err-settle-clause-written g c v seen =
    let told = g.F.Folder.told c.args.folder.now in
    let settled = g.F.Folder.told c.settle.new.self in
    inl (refused_written c.from_residual-in_err-settle.result _ c.from_residual-in_err-settle.ensures.1 (folder_tested c.in_err-settle.field-0.0).1 (g.R.Randoms.left c.args.random.now) told settled (c.draws_compose.ensures.none _)
    (unchanged_settled told settled c.settle.result c.settle.ensures.changes))

pub returns-clause-written : goal.returns-clause-written
returns-clause-written g c v seen =
    let told = g.F.Folder.told c.args.folder.now in
    let left = g.R.Randoms.left c.args.random.now in
    let settled = g.F.Folder.told c.settle.new.self in
    let known = settle_seen told settled c.in_ok-settle.field-0 c.in_ok-settle.ensures.changes in
    may_write_after left (g.R.Randoms.left c.begin_settled.new.random) told settled (g.F.Folder.told c.begin_settled.new.folder) known (unchanged_settled told settled c.settle.result c.settle.ensures.changes) (settle_writes told settled c.settle.result c.settle.ensures.changes)
    (journal_texts c.args.names c.args.source.now c.args.target.now) c.begin_settled.result c.args.names c.args.source.now c.args.target.now c.args.work.now c.args.source_pass.now c.args.target_pass.now (c.begin_settled.ensures.written v (known v seen))

pub returns-in_err-test_apart-clause-tested : goal.returns-in_err-test_apart-clause-tested
returns-in_err-test_apart-clause-tested g c = inl (unchanged _ _ refl)

pub returns-in_err-settle-clause-tested : goal.returns-in_err-settle-clause-tested
returns-in_err-settle-clause-tested g c = inl (unchanged_settled (g.F.Folder.told c.args.folder.now) (g.F.Folder.told c.settle.new.self) c.settle.result c.settle.ensures.changes)

pub returns-clause-tested : goal.returns-clause-tested
returns-clause-tested g c =
    let t0 = g.F.Folder.told c.args.folder.now in
    let t1 = g.F.Folder.told c.settle.new.self in
    tested_settled t0 t1 (g.F.Folder.told c.begin_settled.new.folder) (λ v. IfErr c.begin_settled.result IsOfPlacing × PassesBegin c.args.names c.args.source.now c.args.target.now c.args.work.now c.args.source_pass.now c.args.target_pass.now v) c.begin_settled.ensures.tested
    (unchanged_settled t0 t1 c.settle.result c.settle.ensures.changes) (settle_seen t0 t1 c.in_ok-settle.field-0 c.in_ok-settle.ensures.changes)

pub returns-in_err-test_apart-clause-completes : goal.returns-in_err-test_apart-clause-completes
returns-in_err-test_apart-clause-completes g c m v seen asked opened can =
    let pass = c.args.source_pass.now in
    let pass' = c.args.target_pass.now in
    let result = c.from_residual.result in
    begin_completes m v c.args.names c.args.source.now c.args.target.now c.args.work.now pass pass' result asked
    (c.what_can_begin_is_done.ensures m pass pass' v result opened can
    (fault_as _ result c.from_residual.ensures.1 (apart_begins {F = ⊥} {R = ⊥} c.in_err-test_apart.field-0.0 c.in_err-test_apart.ensures.own).own))
    (returns-in_err-test_apart-clause-cause g c v seen)

pub returns-in_err-settle-clause-completes : goal.returns-in_err-settle-clause-completes
returns-in_err-settle-clause-completes g c m v seen asked opened can =
    fault_as _ c.from_residual-in_err-settle.result c.from_residual-in_err-settle.ensures.1 (folder_chance c.in_err-settle.field-0.0)

pub returns-clause-completes : goal.returns-clause-completes
returns-clause-completes g c m v seen asked opened can =
    let pass = c.args.source_pass.now in
    let pass' = c.args.target_pass.now in
    begin_completes m v c.args.names c.args.source.now c.args.target.now c.args.work.now pass pass' c.begin_settled.result asked
    (c.what_can_begin_is_done.ensures m pass pass' v c.begin_settled.result opened can (own_faults is_of_apart c.begin_settled.result _ _ c.begin_settled.ensures.blamed)) (returns-clause-cause g c v seen)

pub returns-in_err-test_apart-clause-blamed : goal.returns-in_err-test_apart-clause-blamed
returns-in_err-test_apart-clause-blamed g c =
    fault_as _ c.from_residual.result c.from_residual.ensures.1 (apart_begins c.in_err-test_apart.field-0.0 c.in_err-test_apart.ensures.own)

pub returns-clause-blamed : goal.returns-clause-blamed
returns-clause-blamed g c =
    let n0 = g.F.Folder.faults c.args.folder.now in
    let n1 = g.F.Folder.faults c.settle.new.self in
    let r = g.R.Randoms.faults c.args.random.now in
    blamed_begins n0 n1 (g.F.Folder.faults c.begin_settled.new.folder) r r (g.R.Randoms.faults c.begin_settled.new.random) c.begin_settled.result
    (never_falls {T = Unit {0}} (g.F.Folder.told c.args.folder.now) n0 n1 (Ok c.in_ok-settle.field-0) c.in_ok-settle.ensures.counts) (omega arith) c.begin_settled.ensures.blamed

pub returns-in_err-test_apart-clause-apart : goal.returns-in_err-test_apart-clause-apart
returns-in_err-test_apart-clause-apart g c separate =
    fault_as (λ fault. IsTrue (is_of_apart fault)) c.from_residual.result c.from_residual.ensures.1
    (apart_tells c.args.source.now c.args.target.now c.args.work.now separate c.in_err-test_apart.field-0.0 c.in_err-test_apart.ensures.own c.in_err-test_apart.ensures.cause)

pub returns-in_err-settle-clause-apart : goal.returns-in_err-settle-clause-apart
returns-in_err-settle-clause-apart g c separate =
    fault_as (λ fault. IsTrue (is_of_apart fault)) c.from_residual-in_err-settle.result c.from_residual-in_err-settle.ensures.1 (folder_tells c.in_err-settle.field-0.0)

pub returns-clause-apart : goal.returns-clause-apart
returns-clause-apart g c separate = blamed_may is_of_apart _ _ c.begin_settled.result c.begin_settled.ensures.blamed

pub returns-in_err-test_apart-clause-too_long : goal.returns-in_err-test_apart-clause-too_long
returns-in_err-test_apart-clause-too_long g c =
    none_compared _ c.from_residual.result _ c.from_residual.ensures.1 (step_tested c.in_err-test_apart.field-0.0).0

pub returns-in_err-settle-clause-too_long : goal.returns-in_err-settle-clause-too_long
returns-in_err-settle-clause-too_long g c =
    none_compared _ c.from_residual-in_err-settle.result _ c.from_residual-in_err-settle.ensures.1 (folder_tested c.in_err-settle.field-0.0).0

pub returns-clause-too_long : goal.returns-clause-too_long
returns-clause-too_long g c =
    let from = c.args.source.now in
    let to = c.args.target.now in
    let pass = c.args.source_pass.now in
    let pass' = c.args.target_pass.now in
    let t0 = g.F.Folder.told c.args.folder.now in
    let t1 = g.F.Folder.told c.settle.new.self in
    let t2 = g.F.Folder.told c.begin_settled.new.folder in
    limit_more (PassesInTree c.args.names from to pass pass' t1 t2) (PassesInTree c.args.names from to pass pass' t0 t2) c.begin_settled.result
    (in_tree_before c.args.names from to pass pass' t0 t1 t2 (settle_seen t0 t1 c.in_ok-settle.field-0 c.in_ok-settle.ensures.changes)) c.begin_settled.ensures.too_long

pub returns-in_err-test_apart-clause-shared : goal.returns-in_err-test_apart-clause-shared
returns-in_err-test_apart-clause-shared g c =
    none_taken _ c.from_residual.result _ c.from_residual.ensures.1 (step_tested c.in_err-test_apart.field-0.0).0

pub returns-in_err-settle-clause-shared : goal.returns-in_err-settle-clause-shared
returns-in_err-settle-clause-shared g c =
    none_taken _ c.from_residual-in_err-settle.result _ c.from_residual-in_err-settle.ensures.1 (folder_tested c.in_err-settle.field-0.0).0

pub returns-clause-shared : goal.returns-clause-shared
returns-clause-shared g c =
    let from = c.args.source.now in
    let to = c.args.target.now in
    let pass = c.args.source_pass.now in
    let pass' = c.args.target_pass.now in
    let left = g.R.Randoms.left c.args.random.now in
    let left' = g.R.Randoms.left c.begin_settled.new.random in
    let t0 = g.F.Folder.told c.args.folder.now in
    let t1 = g.F.Folder.told c.settle.new.self in
    let t2 = g.F.Folder.told c.begin_settled.new.folder in
    let work = c.args.work.now in
    if_taken (SharesInTree c.args.names from to work pass pass' left left' t1 t2) (SharesInTree c.args.names from to work pass pass' left left' t0 t2) c.begin_settled.result
    (in_tree_since c.args.names from to work pass pass' left left' t0 t1 t2 (settle_seen t0 t1 c.in_ok-settle.field-0 c.in_ok-settle.ensures.changes)) c.begin_settled.ensures.shared

pub returns-in_err-test_apart-clause-drew : goal.returns-in_err-test_apart-clause-drew
returns-in_err-test_apart-clause-drew g c = drew_refused c.draws_compose.ensures.none (g.R.Randoms.left c.args.random.now) c.from_residual.result _ c.from_residual.ensures.1 (step_tested c.in_err-test_apart.field-0.0).1

pub returns-in_err-settle-clause-drew : goal.returns-in_err-settle-clause-drew
returns-in_err-settle-clause-drew g c = drew_refused c.draws_compose.ensures.none (g.R.Randoms.left c.args.random.now) c.from_residual-in_err-settle.result _ c.from_residual-in_err-settle.ensures.1 (folder_tested c.in_err-settle.field-0.0).1

pub returns-clause-finishes : goal.returns-clause-finishes
returns-clause-finishes g c =
    let law = c.settling_and_entering_keep_migrations_guarded.ensures in
    let t0 = g.F.Folder.told c.args.folder.now in
    let t1 = g.F.Folder.told c.settle.new.self in
    let t2 = g.F.Folder.told c.begin_settled.new.folder in
    let pass = c.args.source_pass.now in
    let pass' = c.args.target_pass.now in
    on_ok_more ((m : Migration) → IsAsked m c.args.names c.args.source.now c.args.target.now c.args.work.now → IfSeen t1 (λ v. AreOpenedBy m pass pass' v) → FinishesSettled m t1 t2)
    ((m : Migration) → IsAsked m c.args.names c.args.source.now c.args.target.now c.args.work.now → IfSeen t0 (λ v. AreOpenedBy m pass pass' v) → Finishes m t0 t2) c.begin_settled.result
    (λ ends migration asked opened.
    settle_ends law.settles law.alone migration t0 t1 t2 c.in_ok-settle.field-0 (g.met.F.Folder.sound c.args.folder.now) (g.met.F.Folder.sound c.settle.new.self) c.in_ok-settle.ensures.changes
    (ends migration asked (λ v seen. opened v (settle_seen_back t0 t1 (Ok c.in_ok-settle.field-0) c.in_ok-settle.ensures.changes v seen)))) c.begin_settled.ensures.finishes

pub returns-in_err-test_apart-clause-undrawn : goal.returns-in_err-test_apart-clause-undrawn
returns-in_err-test_apart-clause-undrawn g c = inl (c.draws_compose.ensures.none (g.R.Randoms.left c.args.random.now))

pub returns-in_err-settle-clause-undrawn : goal.returns-in_err-settle-clause-undrawn
returns-in_err-settle-clause-undrawn g c = inl (c.draws_compose.ensures.none (g.R.Randoms.left c.args.random.now))

pub returns-clause-undrawn : goal.returns-clause-undrawn
returns-clause-undrawn g c =
    let t0 = g.F.Folder.told c.args.folder.now in
    let t1 = g.F.Folder.told c.settle.new.self in
    let Passed : View → Type 0 = λ v. IfErr c.begin_settled.result IsOfPlacing × PassesBegin c.args.names c.args.source.now c.args.target.now c.args.work.now c.args.source_pass.now c.args.target_pass.now v in
    undrawn_on Passed Passed t0 t1 (settle_seen t0 t1 c.in_ok-settle.field-0 c.in_ok-settle.ensures.changes) (λ v is passed. passed) c.begin_settled.ensures.undrawn

pub returns-in_err-test_apart-clause-journal : goal.returns-in_err-test_apart-clause-journal
returns-in_err-test_apart-clause-journal g c v is =
    let told = g.F.Folder.told c.args.folder.now in
    unbrought c.args.names c.args.source.now c.args.target.now c.args.work.now c.args.source_pass.now c.args.target_pass.now told told v (λ j. texts_same (λ x. ⊥) c.args.work.now j told told refl)

pub returns-in_err-settle-clause-journal : goal.returns-in_err-settle-clause-journal
returns-in_err-settle-clause-journal g c v is =
    let told = g.F.Folder.told c.args.folder.now in
    let here = g.F.Folder.told c.settle.new.self in
    unbrought c.args.names c.args.source.now c.args.target.now c.args.work.now c.args.source_pass.now c.args.target_pass.now told here v (λ j. texts_settled (λ x. ⊥) c.args.work.now j told here c.settle.result c.settle.ensures.changes)

pub returns-clause-journal : goal.returns-clause-journal
returns-clause-journal g c v is =
    let told = g.F.Folder.told c.args.folder.now in
    let here = g.F.Folder.told c.settle.new.self in
    let after = g.F.Folder.told c.begin_settled.new.folder in
    brought_since c.args.names c.args.source.now c.args.target.now c.args.work.now c.args.source_pass.now c.args.target_pass.now told here after v (g.met.F.Folder.sound c.args.folder.now)
    (λ j. texts_settled (λ x. ⊥) c.args.work.now j told here c.settle.result c.settle.ensures.changes)
    (c.begin_settled.ensures.journal v (settle_seen told here c.in_ok-settle.field-0 c.in_ok-settle.ensures.changes v is))
