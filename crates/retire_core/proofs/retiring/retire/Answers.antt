use Rattle.std.proofs.Common.{subst, sym, refl, inl, inr, IfErr}
use Rattle.retire_core.specs.Faults.{IsOfRemoval, of_folder}
use Rattle.retire_core.proofs.Courses.{removes_settled, retired_earlier, settle_removes, settle_touches, touches_then, settle_goes}
use Rattle.retire_core.specs.Retiring.{retiring_by}
use Rattle.migration_sides.proofs.Chains.{fault_as, refused_as, unless_met}
use Rattle.migration_sides.proofs.Told.{folder_unless}
use Rattle.retire_core.proofs.Causing.{folder_fails}
use Rattle.retire_core.specs.Causes.{PassesTests, Retires, Unless, IsOfFolder}
use Rattle.retire_core.proofs.retiring.retire.Goals as goal
use Rattle.migration_spec.proofs.Tellings.{folders_of}
use Rattle.migration_spec.proofs.Settling.{settle_fell, settle_seen}
use Rattle.migration_sides.proofs.Unchanged.{tested_settled, unchanged_settled}
use Rattle.retire_core.specs.declared.fault.RetireFault.TheVariants.{Failed, NoMemory}
use Rattle.retire_core.proofs.InTurn.{order_then, settle_order}

pub returns-in_err-settle-clause-guard : goal.returns-in_err-settle-clause-guard
returns-in_err-settle-clause-guard g c = λ migration at_work.
    settle_fell c.settling_and_entering_keep_migrations_guarded.ensures.settles migration (g.F.Folder.told c.args.folder.now) (g.F.Folder.told c.settle.new.self) c.settle.result c.settle.ensures.changes

pub returns-in_err-settle-clause-touches : goal.returns-in_err-settle-clause-touches
returns-in_err-settle-clause-touches g c = λ v journal seen is stands.
    settle_touches (retiring_by c.args.work.now c.args.source_pass.now c.args.target_pass.now journal) (g.F.Folder.told c.args.folder.now) (g.F.Folder.told c.settle.new.self) c.settle.result c.settle.ensures.changes

pub returns-in_err-settle-clause-removes : goal.returns-in_err-settle-clause-removes
returns-in_err-settle-clause-removes g c = λ v journal seen is stands.
    settle_removes (retiring_by c.args.work.now c.args.source_pass.now c.args.target_pass.now journal) (g.F.Folder.told c.args.folder.now) (g.F.Folder.told c.settle.new.self) c.settle.result c.settle.ensures.changes

pub returns-clause-guard : goal.returns-clause-guard
returns-clause-guard g c = λ migration at_work.
    settle_goes c.settling_and_entering_keep_migrations_guarded.ensures.settles migration (g.F.Folder.told c.args.folder.now) (g.F.Folder.told c.settle.new.self) (g.F.Folder.told c.retire_settled.new.folder) c.in_ok-settle.field-0
    (g.met.F.Folder.sound c.settle.new.self) c.in_ok-settle.ensures.changes (c.retire_settled.ensures.guard migration at_work)

pub returns-clause-touches : goal.returns-clause-touches
returns-clause-touches g c = λ v journal seen is stands.
    let r = retiring_by c.args.work.now c.args.source_pass.now c.args.target_pass.now journal in
    let t0 = g.F.Folder.told c.args.folder.now in
    let t1 = g.F.Folder.told c.settle.new.self in
    touches_then r t0 t1 (g.F.Folder.told c.retire_settled.new.folder) (settle_touches r t0 t1 c.settle.result c.settle.ensures.changes)
    (c.retire_settled.ensures.touches v journal (settle_seen t0 t1 c.in_ok-settle.field-0 c.in_ok-settle.ensures.changes v seen) is stands)

pub returns-clause-removes : goal.returns-clause-removes
returns-clause-removes g c = λ v journal seen is stands.
    let r = retiring_by c.args.work.now c.args.source_pass.now c.args.target_pass.now journal in
    let t0 = g.F.Folder.told c.args.folder.now in
    let t1 = g.F.Folder.told c.settle.new.self in
    removes_settled r t0 t1 (g.F.Folder.told c.retire_settled.new.folder) c.in_ok-settle.field-0 c.in_ok-settle.ensures.changes
    (c.retire_settled.ensures.removes v journal (settle_seen t0 t1 c.in_ok-settle.field-0 c.in_ok-settle.ensures.changes v seen) is stands)

pub returns-clause-retired : goal.returns-clause-retired
returns-clause-retired g c =
    let t0 = g.F.Folder.told c.args.folder.now in
    let t1 = g.F.Folder.told c.settle.new.self in
    retired_earlier c.args.work.now t0 t1 (g.F.Folder.told c.retire_settled.new.folder) c.retire_settled.result (settle_seen t0 t1 c.in_ok-settle.field-0 c.in_ok-settle.ensures.changes) c.retire_settled.ensures.retired

pub returns-in_err-settle-clause-cause : goal.returns-in_err-settle-clause-cause
returns-in_err-settle-clause-cause g c v seen =
    refused_as (λ answer. Unless answer (Retires c.args.work.now c.args.source_pass.now c.args.target_pass.now v answer)) c.from_residual.result c.from_residual.ensures.1
    (folder_unless of_folder refl _ c.in_err-settle.field-0.0)

pub returns-clause-cause : goal.returns-clause-cause
returns-clause-cause g c v seen =
    c.retire_settled.ensures.cause v (settle_seen (g.F.Folder.told c.args.folder.now) (g.F.Folder.told c.settle.new.self) c.in_ok-settle.field-0 c.in_ok-settle.ensures.changes v seen)

pub returns-in_err-settle-clause-completes : goal.returns-in_err-settle-clause-completes
returns-in_err-settle-clause-completes g c migration v seen at_work opened can = fault_as _ c.from_residual.result c.from_residual.ensures.1 (folder_fails c.in_err-settle.field-0.0)

pub returns-clause-completes : goal.returns-clause-completes
returns-clause-completes g c = λ migration v seen at_work opened can.
    let t0 = g.F.Folder.told c.args.folder.now in
    let cause = c.retire_settled.ensures.cause v (settle_seen t0 (g.F.Folder.told c.settle.new.self) c.in_ok-settle.field-0 c.in_ok-settle.ensures.changes v seen) in
    unless_met Failed NoMemory IsOfFolder (inl refl) (inr refl) c.retire_settled.result (Retires c.args.work.now c.args.source_pass.now c.args.target_pass.now v c.retire_settled.result)
    (λ tested. c.what_can_be_retired_is_retired.ensures migration c.args.source_pass.now c.args.target_pass.now v c.retire_settled.result
    (folders_of t0 (g.met.F.Folder.sound c.args.folder.now) v seen) opened can
    (subst (λ w. Retires w c.args.source_pass.now c.args.target_pass.now v c.retire_settled.result) (sym at_work) tested)) cause

pub returns-in_err-settle-clause-tested : goal.returns-in_err-settle-clause-tested
returns-in_err-settle-clause-tested g c = inl (unchanged_settled (g.F.Folder.told c.args.folder.now) (g.F.Folder.told c.settle.new.self) c.settle.result c.settle.ensures.changes)

pub returns-clause-tested : goal.returns-clause-tested
returns-clause-tested g c =
    let t0 = g.F.Folder.told c.args.folder.now in
    let t1 = g.F.Folder.told c.settle.new.self in
    let t2 = g.F.Folder.told c.retire_settled.new.folder in
    tested_settled t0 t1 t2 (λ v. IfErr c.retire_settled.result IsOfRemoval × PassesTests c.args.work.now c.args.source_pass.now c.args.target_pass.now v) c.retire_settled.ensures.tested
    (unchanged_settled t0 t1 c.settle.result c.settle.ensures.changes) (settle_seen t0 t1 c.in_ok-settle.field-0 c.in_ok-settle.ensures.changes)

pub returns-in_err-settle-clause-order : goal.returns-in_err-settle-clause-order
returns-in_err-settle-clause-order g c = settle_order c.args.work.now (g.F.Folder.told c.args.folder.now) (g.F.Folder.told c.settle.new.self) c.settle.result c.settle.ensures.changes

pub returns-clause-order : goal.returns-clause-order
returns-clause-order g c =
    order_then c.args.work.now (g.F.Folder.told c.args.folder.now) (g.F.Folder.told c.settle.new.self) (g.F.Folder.told c.retire_settled.new.folder) c.in_ok-settle.field-0 c.in_ok-settle.ensures.changes c.retire_settled.ensures.beside
