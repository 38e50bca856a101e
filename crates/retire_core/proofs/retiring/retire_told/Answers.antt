use Rattle.retire_core.proofs.Courses.{gone_still, removes_cleared, removes_moved, rest_then, touches_cleared, touches_moved}
use Rattle.retire_core.specs.Retiring.{retiring_by}
use Rattle.migration_sides.proofs.Chains.{fault_as, passed_is, refused_as}
use Rattle.retire_core.proofs.Causing.{is_retired, not_away, not_removed, removed_then}
use Rattle.retire_core.specs.Causes.{RetiresTold, TestsAway, Unless}
use Rattle.retire_core.specs.Faults.{IsOfRemoval}
use Rattle.retire_core.specs.declared.fault.RetireFault.TheVariants.{Failed, NoMemory}
use Rattle.folder_spec.specs.Seen.{IfSeen}
use Rattle.std.proofs.Common.{Err, Ok, inl, inr}
use Rattle.retire_core.proofs.retiring.retire_told.Given.{Over}
use Rattle.retire_core.proofs.retiring.retire_told.Goals as goal
use Rattle.retire_core.proofs.retiring.retire_told.Goals.{In_ok-put_away}
use Rattle.retire_core.proofs.Away.{not_base}
use Rattle.retire_core.proofs.InTurn.{beside_then, keeps_beside, moved_keeps}

-- the source is gone, or may be moved away
module _ (g : Over) (c : In_ok-put_away g) where
  put_away_passed : IfSeen (g.F.Folder.told c.args.folder.now) (λ v. TestsAway c.args.work.now c.args.source_pass.now c.args.target_pass.now c.args.journal.now v (Ok tt))
  put_away_passed v seen =
      passed_is Failed NoMemory tt (TestsAway c.args.work.now c.args.source_pass.now c.args.target_pass.now c.args.journal.now v (Ok tt)) (c.in_ok-put_away.ensures.cause v seen)

pub returns-in_err-put_away-clause-touches : goal.returns-in_err-put_away-clause-touches
returns-in_err-put_away-clause-touches g c =
    touches_moved (retiring_by c.args.work.now c.args.source_pass.now c.args.target_pass.now c.args.journal.now) (g.F.Folder.told c.args.folder.now) (g.F.Folder.told c.put_away.new.folder) c.put_away.ensures.moves

pub returns-in_err-put_away-clause-removes : goal.returns-in_err-put_away-clause-removes
returns-in_err-put_away-clause-removes g c =
    removes_moved (retiring_by c.args.work.now c.args.source_pass.now c.args.target_pass.now c.args.journal.now) (g.F.Folder.told c.args.folder.now) (g.F.Folder.told c.put_away.new.folder) c.put_away.ensures.moves

pub clear-requires-clause-below_base : goal.clear-requires-clause-below_base
clear-requires-clause-below_base g c = not_base c.args.journal.now.source c.args.work.now c.requires.apart.source

pub returns-in_err-clear-clause-guard : goal.returns-in_err-clear-clause-guard
returns-in_err-clear-clause-guard g c = λ migration at_work.
    rest_then c.roots_show_their_own.ensures.alike c.images_show_views.ensures.one migration (g.F.Folder.told c.args.folder.now) (g.F.Folder.told c.put_away.new.folder) (g.F.Folder.told c.clear.new.folder)
    (c.put_away.ensures.guard migration at_work) (c.in_ok-put_away.ensures.comes migration at_work) (c.clear.ensures.guard migration at_work)

pub returns-in_err-clear-clause-touches : goal.returns-in_err-clear-clause-touches
returns-in_err-clear-clause-touches g c =
    touches_cleared (retiring_by c.args.work.now c.args.source_pass.now c.args.target_pass.now c.args.journal.now) (g.F.Folder.told c.args.folder.now) (g.F.Folder.told c.put_away.new.folder) (g.F.Folder.told c.clear.new.folder)
    c.put_away.ensures.moves c.clear.ensures.clears

pub returns-in_err-clear-clause-removes : goal.returns-in_err-clear-clause-removes
returns-in_err-clear-clause-removes g c =
    removes_cleared (retiring_by c.args.work.now c.args.source_pass.now c.args.target_pass.now c.args.journal.now) (g.F.Folder.told c.args.folder.now) (g.F.Folder.told c.put_away.new.folder) (g.F.Folder.told c.clear.new.folder)
    c.requires.apart.source (g.met.F.Folder.sound c.put_away.new.folder) c.requires.phase c.in_ok-put_away.ensures.gone c.put_away.ensures.unmoved c.put_away.ensures.moves c.clear.ensures.clears

pub returns-clause-guard : goal.returns-clause-guard
returns-clause-guard g c = λ migration at_work.
    rest_then c.roots_show_their_own.ensures.alike c.images_show_views.ensures.one migration (g.F.Folder.told c.args.folder.now) (g.F.Folder.told c.put_away.new.folder) (g.F.Folder.told c.clear.new.folder)
    (c.put_away.ensures.guard migration at_work) (c.in_ok-put_away.ensures.comes migration at_work) (c.clear.ensures.guard migration at_work)

pub returns-clause-touches : goal.returns-clause-touches
returns-clause-touches g c =
    touches_cleared (retiring_by c.args.work.now c.args.source_pass.now c.args.target_pass.now c.args.journal.now) (g.F.Folder.told c.args.folder.now) (g.F.Folder.told c.put_away.new.folder) (g.F.Folder.told c.clear.new.folder)
    c.put_away.ensures.moves c.clear.ensures.clears

pub returns-clause-removes : goal.returns-clause-removes
returns-clause-removes g c =
    removes_cleared (retiring_by c.args.work.now c.args.source_pass.now c.args.target_pass.now c.args.journal.now) (g.F.Folder.told c.args.folder.now) (g.F.Folder.told c.put_away.new.folder) (g.F.Folder.told c.clear.new.folder)
    c.requires.apart.source (g.met.F.Folder.sound c.put_away.new.folder) c.requires.phase c.in_ok-put_away.ensures.gone c.put_away.ensures.unmoved c.put_away.ensures.moves c.clear.ensures.clears

pub returns-clause-source : goal.returns-clause-source
returns-clause-source g c =
    gone_still c.args.journal.now.source c.args.work.now (g.F.Folder.told c.put_away.new.folder) (g.F.Folder.told c.clear.new.folder) c.requires.apart.source (g.met.F.Folder.sound c.put_away.new.folder)
    c.clear.ensures.clears c.in_ok-put_away.ensures.gone

pub returns-in_err-put_away-clause-cause : goal.returns-in_err-put_away-clause-cause
returns-in_err-put_away-clause-cause g c v seen =
    let work = c.args.work.now in
    let pass = c.args.source_pass.now in
    let pass_too = c.args.target_pass.now in
    let journal = c.args.journal.now in
    refused_as (λ answer. Unless answer (RetiresTold work pass pass_too journal v answer)) c.from_residual.result c.from_residual.ensures.1
    (not_away work pass pass_too journal v c.in_err-put_away.field-0.0 (c.in_err-put_away.ensures.cause v seen))

pub returns-in_err-clear-clause-cause : goal.returns-in_err-clear-clause-cause
returns-in_err-clear-clause-cause g c v seen =
    let work = c.args.work.now in
    let pass = c.args.source_pass.now in
    let pass_too = c.args.target_pass.now in
    let journal = c.args.journal.now in
    refused_as (λ answer. Unless answer (RetiresTold work pass pass_too journal v answer)) c.from_residual-in_err-clear.result c.from_residual-in_err-clear.ensures.1
    (not_removed work pass pass_too journal v c.in_err-clear.field-0.0 (c.in_ok-put_away.ensures.cause v seen)
    (removed_then (retiring_by work pass pass_too journal) journal.source work (g.F.Folder.told c.args.folder.now) (g.F.Folder.told c.put_away.new.folder) (Err c.in_err-clear.field-0.0) c.put_away.ensures.moves c.in_ok-put_away.ensures.seen
    c.in_err-clear.ensures.cause v seen))

pub returns-clause-cause : goal.returns-clause-cause
returns-clause-cause g c v seen =
    let work = c.args.work.now in
    let pass = c.args.source_pass.now in
    let pass_too = c.args.target_pass.now in
    let journal = c.args.journal.now in
    is_retired work pass pass_too journal v (c.in_ok-put_away.ensures.cause v seen)
    (removed_then (retiring_by work pass pass_too journal) journal.source work (g.F.Folder.told c.args.folder.now) (g.F.Folder.told c.put_away.new.folder) (Ok tt) c.put_away.ensures.moves c.in_ok-put_away.ensures.seen
    c.in_ok-clear.ensures.cause v seen)

pub returns-in_err-put_away-clause-tested : goal.returns-in_err-put_away-clause-tested
returns-in_err-put_away-clause-tested g c = elim c.in_err-put_away.ensures.tested [
  | inl same ↦ inl same
  | inr passed ↦ inr (λ v seen. let p = passed v seen in (fault_as IsOfRemoval c.from_residual.result c.from_residual.ensures.1 p.0, p.1))
]

pub returns-in_err-clear-clause-tested : goal.returns-in_err-clear-clause-tested
returns-in_err-clear-clause-tested g c = inr (λ v seen. (
  fault_as IsOfRemoval c.from_residual-in_err-clear.result c.from_residual-in_err-clear.ensures.1 c.in_err-clear.ensures.refused,
  put_away_passed g (goal.at.returns-in_err-clear-clause-tested g c).In_ok-put_away v seen,
))

pub returns-clause-tested : goal.returns-clause-tested
returns-clause-tested g c = inr (λ v seen. (tt, put_away_passed g (goal.at.returns-clause-tested g c).In_ok-put_away v seen))

pub returns-in_err-put_away-clause-beside : goal.returns-in_err-put_away-clause-beside
returns-in_err-put_away-clause-beside g c =
    let r = retiring_by c.args.work.now c.args.source_pass.now c.args.target_pass.now c.args.journal.now in
    let t0 = g.F.Folder.told c.args.folder.now in
    let t1 = g.F.Folder.told c.put_away.new.folder in
    keeps_beside c.args.work.now t0 t1 (moved_keeps r t0 t1 c.requires.apart.source c.put_away.ensures.moves)

pub returns-in_err-clear-clause-beside : goal.returns-in_err-clear-clause-beside
returns-in_err-clear-clause-beside g c =
    let r = retiring_by c.args.work.now c.args.source_pass.now c.args.target_pass.now c.args.journal.now in
    let t0 = g.F.Folder.told c.args.folder.now in
    let t1 = g.F.Folder.told c.put_away.new.folder in
    beside_then c.args.work.now t0 t1 (g.F.Folder.told c.clear.new.folder) (moved_keeps r t0 t1 c.requires.apart.source c.put_away.ensures.moves) c.clear.ensures.beside

pub returns-clause-beside : goal.returns-clause-beside
returns-clause-beside g c =
    let r = retiring_by c.args.work.now c.args.source_pass.now c.args.target_pass.now c.args.journal.now in
    let t0 = g.F.Folder.told c.args.folder.now in
    let t1 = g.F.Folder.told c.put_away.new.folder in
    beside_then c.args.work.now t0 t1 (g.F.Folder.told c.clear.new.folder) (moved_keeps r t0 t1 c.requires.apart.source c.put_away.ensures.moves) c.clear.ensures.beside
