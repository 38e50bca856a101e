use Rattle.std.proofs.Common.{Err, Ok, arith, refl, subst, subst₂, sym}
use Rattle.folder_spec.specs.Event.{Changes, Rename}
use Rattle.migration_spec.specs.Guard.{old_path}
use Rattle.retire_core.proofs.Away.{AreLaws, away_comes, away_gone, away_guarded, away_settled, move_allowed, moves_call, moves_same, moves_settled, order_call, order_settled}
use Rattle.retire_core.proofs.Blaming.{blamed_call}
use Rattle.retire_core.proofs.Causing.{folder_fails, moved_seen}
use Rattle.retire_core.proofs.retiring.move_source.Goals as goal
use Rattle.migration_sides.proofs.Chains.{fault_as}
use Rattle.migration_spec.proofs.Settling.{settle_seen_back}

pub returns-in_err-old-clause-moves : goal.returns-in_err-old-clause-moves
returns-in_err-old-clause-moves g c = moves_same c.args.source.now c.args.work.now (g.F.Folder.told c.args.folder.now) (g.F.Folder.told c.args.folder.now) refl

pub returns-in_err-rename-clause-guard : goal.returns-in_err-rename-clause-guard
returns-in_err-rename-clause-guard g c = λ migration at_source at_work.
    let t0 = g.F.Folder.told c.args.folder.now in
    let t1 = g.F.Folder.told c.rename.new.self in
    let laws : AreLaws = record { alike = c.roots_show_their_own.ensures.alike; shown = c.images_show_views.ensures.one; settles = c.settling_and_entering_keep_migrations_guarded.ensures.settles; none_special = c.clean_vaults_have_only_files_and_directories.ensures } in
    away_guarded laws migration t0 t1 c.rename.result
    (subst₂ (λ p w. Changes (Rename p (old_path w)) t0 t1 c.rename.result) (sym at_source) (sym at_work) (subst (λ q. Changes (Rename c.args.source.now q) t0 t1 c.rename.result) c.in_ok-old.ensures c.rename.ensures.changes))

pub returns-in_err-rename-clause-moves : goal.returns-in_err-rename-clause-moves
returns-in_err-rename-clause-moves g c =
    let t0 = g.F.Folder.told c.args.folder.now in
    let t1 = g.F.Folder.told c.rename.new.self in
    moves_call c.args.source.now c.args.work.now t0 t1 c.rename.result (subst (λ q. Changes (Rename c.args.source.now q) t0 t1 c.rename.result) c.in_ok-old.ensures c.rename.ensures.changes)

pub returns-in_err-rename-clause-leaves : goal.returns-in_err-rename-clause-leaves
returns-in_err-rename-clause-leaves g c =
    let t0 = g.F.Folder.told c.args.folder.now in
    let t1 = g.F.Folder.told c.rename.new.self in
    order_call c.args.source.now c.args.work.now t0 t1 c.rename.result c.requires.apart (g.met.F.Folder.sound c.args.folder.now)
    (subst (λ q. Changes (Rename c.args.source.now q) t0 t1 c.rename.result) c.in_ok-old.ensures c.rename.ensures.changes)

pub returns-in_err-rename-clause-blamed : goal.returns-in_err-rename-clause-blamed
returns-in_err-rename-clause-blamed g c =
    let t0 = g.F.Folder.told c.args.folder.now in
    let t1 = g.F.Folder.told c.rename.new.self in
    let n0 = g.F.Folder.faults c.args.folder.now in
    let source = c.args.source.now in
    let work = c.args.work.now in
    let fault = c.in_err-rename.field-0.0 in
    fault_as _ c.from_residual-in_err-rename.result c.from_residual-in_err-rename.ensures.1
    (blamed_call (Rename source (old_path work)) t0 t1 n0 n0 (g.F.Folder.faults c.rename.new.self) fault (omega arith) (move_allowed source work t0 c.requires.apart c.requires.there c.requires.free c.requires.folder)
    (subst (λ q. Changes (Rename source q) t0 t1 (Err fault)) c.in_ok-old.ensures c.in_err-rename.ensures.changes) c.in_err-rename.ensures.counts)

pub returns-in_err-settle-clause-guard : goal.returns-in_err-settle-clause-guard
returns-in_err-settle-clause-guard g c = λ migration at_source at_work.
    let t0 = g.F.Folder.told c.args.folder.now in
    let t1 = g.F.Folder.told c.rename.new.self in
    let t2 = g.F.Folder.told c.settle.new.self in
    let laws : AreLaws = record { alike = c.roots_show_their_own.ensures.alike; shown = c.images_show_views.ensures.one; settles = c.settling_and_entering_keep_migrations_guarded.ensures.settles; none_special = c.clean_vaults_have_only_files_and_directories.ensures } in
    away_settled laws migration t0 t1 t2 c.settle.result
    (away_guarded laws migration t0 t1 c.rename.result
    (subst₂ (λ p w. Changes (Rename p (old_path w)) t0 t1 c.rename.result) (sym at_source) (sym at_work) (subst (λ q. Changes (Rename c.args.source.now q) t0 t1 c.rename.result) c.in_ok-old.ensures c.rename.ensures.changes)))
    c.settle.ensures.changes

pub returns-in_err-settle-clause-moves : goal.returns-in_err-settle-clause-moves
returns-in_err-settle-clause-moves g c =
    let t0 = g.F.Folder.told c.args.folder.now in
    let t1 = g.F.Folder.told c.rename.new.self in
    let source = c.args.source.now in
    moves_settled source c.args.work.now t0 t1 (g.F.Folder.told c.settle.new.self) c.settle.result
    (moves_call source c.args.work.now t0 t1 c.rename.result (subst (λ q. Changes (Rename source q) t0 t1 c.rename.result) c.in_ok-old.ensures c.rename.ensures.changes)) c.settle.ensures.changes

pub returns-in_err-settle-clause-leaves : goal.returns-in_err-settle-clause-leaves
returns-in_err-settle-clause-leaves g c =
    let t0 = g.F.Folder.told c.args.folder.now in
    let t1 = g.F.Folder.told c.rename.new.self in
    let t2 = g.F.Folder.told c.settle.new.self in
    let source = c.args.source.now in
    order_settled c.args.work.now t0 t1 t2 c.settle.result
    (order_call source c.args.work.now t0 t1 c.rename.result c.requires.apart (g.met.F.Folder.sound c.args.folder.now)
    (subst (λ q. Changes (Rename source q) t0 t1 c.rename.result) c.in_ok-old.ensures c.rename.ensures.changes)) c.settle.ensures.changes (settle_seen_back t1 t2 c.settle.result c.settle.ensures.changes)

pub returns-clause-guard : goal.returns-clause-guard
returns-clause-guard g c = λ migration at_source at_work.
    let t0 = g.F.Folder.told c.args.folder.now in
    let t1 = g.F.Folder.told c.rename.new.self in
    let t2 = g.F.Folder.told c.settle.new.self in
    let laws : AreLaws = record { alike = c.roots_show_their_own.ensures.alike; shown = c.images_show_views.ensures.one; settles = c.settling_and_entering_keep_migrations_guarded.ensures.settles; none_special = c.clean_vaults_have_only_files_and_directories.ensures } in
    away_settled laws migration t0 t1 t2 c.settle.result
    (away_guarded laws migration t0 t1 c.rename.result
    (subst₂ (λ p w. Changes (Rename p (old_path w)) t0 t1 c.rename.result) (sym at_source) (sym at_work) (subst (λ q. Changes (Rename c.args.source.now q) t0 t1 c.rename.result) c.in_ok-old.ensures c.rename.ensures.changes)))
    c.settle.ensures.changes

pub returns-clause-comes : goal.returns-clause-comes
returns-clause-comes g c = λ migration at_source at_work.
    let t0 = g.F.Folder.told c.args.folder.now in
    let t1 = g.F.Folder.told c.rename.new.self in
    let t2 = g.F.Folder.told c.settle.new.self in
    let one = c.in_ok-rename.field-0 in
    let laws : AreLaws = record { alike = c.roots_show_their_own.ensures.alike; shown = c.images_show_views.ensures.one; settles = c.settling_and_entering_keep_migrations_guarded.ensures.settles; none_special = c.clean_vaults_have_only_files_and_directories.ensures } in
    away_comes laws migration t0 t1 t2 one c.in_ok-settle.field-0
    (subst₂ (λ p w. Changes (Rename p (old_path w)) t0 t1 (Ok one)) (sym at_source) (sym at_work) (subst (λ q. Changes (Rename c.args.source.now q) t0 t1 (Ok one)) c.in_ok-old.ensures c.in_ok-rename.ensures.changes))
    c.in_ok-settle.ensures.changes (g.met.F.Folder.sound c.settle.new.self)

pub returns-clause-moves : goal.returns-clause-moves
returns-clause-moves g c =
    let t0 = g.F.Folder.told c.args.folder.now in
    let t1 = g.F.Folder.told c.rename.new.self in
    let source = c.args.source.now in
    moves_settled source c.args.work.now t0 t1 (g.F.Folder.told c.settle.new.self) c.settle.result
    (moves_call source c.args.work.now t0 t1 c.rename.result (subst (λ q. Changes (Rename source q) t0 t1 c.rename.result) c.in_ok-old.ensures c.rename.ensures.changes)) c.settle.ensures.changes

pub returns-clause-gone : goal.returns-clause-gone
returns-clause-gone g c =
    let t0 = g.F.Folder.told c.args.folder.now in
    let t1 = g.F.Folder.told c.rename.new.self in
    let one = c.in_ok-rename.field-0 in
    away_gone c.args.source.now c.args.work.now t0 t1 (g.F.Folder.told c.settle.new.self) one c.in_ok-settle.field-0 c.requires.apart (g.met.F.Folder.sound c.args.folder.now) (g.met.F.Folder.sound c.rename.new.self)
    (subst (λ q. Changes (Rename c.args.source.now q) t0 t1 (Ok one)) c.in_ok-old.ensures c.in_ok-rename.ensures.changes) c.in_ok-settle.ensures.changes

pub returns-clause-leaves : goal.returns-clause-leaves
returns-clause-leaves g c =
    let t0 = g.F.Folder.told c.args.folder.now in
    let t1 = g.F.Folder.told c.rename.new.self in
    let t2 = g.F.Folder.told c.settle.new.self in
    let source = c.args.source.now in
    order_settled c.args.work.now t0 t1 t2 c.settle.result
    (order_call source c.args.work.now t0 t1 c.rename.result c.requires.apart (g.met.F.Folder.sound c.args.folder.now)
    (subst (λ q. Changes (Rename source q) t0 t1 c.rename.result) c.in_ok-old.ensures c.rename.ensures.changes)) c.settle.ensures.changes (settle_seen_back t1 t2 c.settle.result c.settle.ensures.changes)

pub returns-in_err-rename-clause-fails : goal.returns-in_err-rename-clause-fails
returns-in_err-rename-clause-fails g c =
    fault_as _ c.from_residual-in_err-rename.result c.from_residual-in_err-rename.ensures.1 (folder_fails c.in_err-rename.field-0.0)

pub returns-in_err-settle-clause-fails : goal.returns-in_err-settle-clause-fails
returns-in_err-settle-clause-fails g c =
    fault_as _ c.from_residual-in_err-settle.result c.from_residual-in_err-settle.ensures.1 (folder_fails c.in_err-settle.field-0.0)

pub returns-clause-seen : goal.returns-clause-seen
returns-clause-seen g c =
    let t0 = g.F.Folder.told c.args.folder.now in
    let t1 = g.F.Folder.told c.rename.new.self in
    let one = c.in_ok-rename.field-0 in
    moved_seen c.args.source.now c.args.work.now t0 t1 (g.F.Folder.told c.settle.new.self) one c.in_ok-settle.field-0 (g.met.F.Folder.sound c.args.folder.now) (g.met.F.Folder.sound c.rename.new.self)
    (subst (λ q. Changes (Rename c.args.source.now q) t0 t1 (Ok one)) c.in_ok-old.ensures c.in_ok-rename.ensures.changes) c.in_ok-settle.ensures.changes
