use Rattle.std.proofs.Common.{◌≤◌, arith, ◌∙◌, codes, subst, sym, inl, IfErr, Ok}
use Rattle.folder_spec.specs.Seen.{IsSeen}
use Rattle.move_journal.specs.declared.journal.Journal.{Journal}
use Rattle.move_journal.specs.Reading.{StandsIn}
use Rattle.move_journal.proofs.Standing.{not_missing}
use Rattle.port_model.specs.Counts.{CountRose}
use Rattle.retire_core.proofs.Blaming.{blamed_apart, blamed_later, if_err_both, later_own}
use Rattle.retire_core.specs.Faults.{Blamed, IsLaterFault, IsOfRemoval, IsRetireFault, of_step}
use Rattle.retire_core.proofs.Courses.{in_order, removes_same, retired_by, touches_same}
use Rattle.retire_core.proofs.Going.{rest_same}
use Rattle.retire_core.specs.Guarding.{KeepsFromRest}
use Rattle.retire_core.specs.Retiring.{RemovesOnly, TouchesOnly, retiring_by}
use Rattle.migration_sides.specs.Causes.{TestsApart}
use Rattle.migration_sides.specs.declared.fault.StepFault.TheVariants as steps
use Rattle.migration_sides.proofs.Chains.{fault_as, passed_is, refused_as}
use Rattle.migration_sides.proofs.Unchanged.{tested_on}
use Rattle.retire_core.proofs.Causing.{foreign, is_told, not_done, overlapping}
use Rattle.retire_core.specs.Causes.{PassesTests, ReadsDone, Retires, TestsAway, Unless}
use Rattle.retire_core.specs.declared.fault.RetireFault.TheVariants.{Failed, NoMemory}
use Rattle.retire_core.proofs.retiring.retire_settled.Goals as goal
use Rattle.migration_spec.proofs.Tellings.{folders_of}
use Rattle.retire_core.proofs.InTurn.{beside_same}
use Rattle.retire_core.specs.Clearing.{KeepsBeside}

pub returns-in_err-journal-clause-guard : goal.returns-in_err-journal-clause-guard
returns-in_err-journal-clause-guard g c = λ migration at_work. rest_same migration (g.F.Folder.told c.args.folder.now) (g.F.Folder.told c.read_done.new.folder) c.read_done.ensures.told

pub returns-in_err-journal-clause-touches : goal.returns-in_err-journal-clause-touches
returns-in_err-journal-clause-touches g c = λ v journal seen is stands.
    touches_same (retiring_by c.args.work.now c.args.source_pass.now c.args.target_pass.now journal) (g.F.Folder.told c.args.folder.now) (g.F.Folder.told c.read_done.new.folder) c.read_done.ensures.told

pub returns-in_err-journal-clause-removes : goal.returns-in_err-journal-clause-removes
returns-in_err-journal-clause-removes g c = λ v journal seen is stands.
    removes_same (retiring_by c.args.work.now c.args.source_pass.now c.args.target_pass.now journal) (g.F.Folder.told c.args.folder.now) (g.F.Folder.told c.read_done.new.folder) c.read_done.ensures.told

pub returns-in_err-test_apart-clause-guard : goal.returns-in_err-test_apart-clause-guard
returns-in_err-test_apart-clause-guard g c = λ migration at_work. rest_same migration (g.F.Folder.told c.args.folder.now) (g.F.Folder.told c.read_done.new.folder) c.read_done.ensures.told

pub returns-in_err-test_apart-clause-touches : goal.returns-in_err-test_apart-clause-touches
returns-in_err-test_apart-clause-touches g c = λ v journal seen is stands.
    touches_same (retiring_by c.args.work.now c.args.source_pass.now c.args.target_pass.now journal) (g.F.Folder.told c.args.folder.now) (g.F.Folder.told c.read_done.new.folder) c.read_done.ensures.told

pub returns-in_err-test_apart-clause-removes : goal.returns-in_err-test_apart-clause-removes
returns-in_err-test_apart-clause-removes g c = λ v journal seen is stands.
    removes_same (retiring_by c.args.work.now c.args.source_pass.now c.args.target_pass.now journal) (g.F.Folder.told c.args.folder.now) (g.F.Folder.told c.read_done.new.folder) c.read_done.ensures.told

pub look_again-requires : goal.look_again-requires
look_again-requires g c = λ v seen.
    let stands : StandsIn c.args.work.now c.in_ok-journal.journal v = c.in_ok-journal.ensures.stands v (subst (λ t. IsSeen t v) c.read_done.ensures.told seen) in
    folders_of (g.F.Folder.told c.read_done.new.folder) (g.met.F.Folder.sound c.read_done.new.folder) v seen c.args.work.now (codes "journal")
    (not_missing c.args.work.now c.in_ok-journal.journal v stands)

pub returns-in_err-look_again-clause-guard : goal.returns-in_err-look_again-clause-guard
returns-in_err-look_again-clause-guard g c = λ migration at_work.
    rest_same migration (g.F.Folder.told c.args.folder.now) (g.F.Folder.told c.look_again.new.folder) (c.look_again.ensures.told ∙ c.read_done.ensures.told)

pub returns-in_err-look_again-clause-touches : goal.returns-in_err-look_again-clause-touches
returns-in_err-look_again-clause-touches g c = λ v journal seen is stands.
    touches_same (retiring_by c.args.work.now c.args.source_pass.now c.args.target_pass.now journal) (g.F.Folder.told c.args.folder.now) (g.F.Folder.told c.look_again.new.folder) (c.look_again.ensures.told ∙ c.read_done.ensures.told)

pub returns-in_err-look_again-clause-removes : goal.returns-in_err-look_again-clause-removes
returns-in_err-look_again-clause-removes g c = λ v journal seen is stands.
    removes_same (retiring_by c.args.work.now c.args.source_pass.now c.args.target_pass.now journal) (g.F.Folder.told c.args.folder.now) (g.F.Folder.told c.look_again.new.folder) (c.look_again.ensures.told ∙ c.read_done.ensures.told)

pub retire_told-requires-clause-stands : goal.retire_told-requires-clause-stands
retire_told-requires-clause-stands g c = λ v seen. c.in_ok-journal.ensures.stands v (subst (λ t. IsSeen t v) (c.look_again.ensures.told ∙ c.read_done.ensures.told) seen)

pub retire_told-requires-clause-order : goal.retire_told-requires-clause-order
retire_told-requires-clause-order g c = λ v seen.
    let before = subst (λ t. IsSeen t v) c.look_again.ensures.told seen in
    let stands : StandsIn c.args.work.now c.in_ok-journal.journal v = c.in_ok-journal.ensures.stands v (subst (λ t. IsSeen t v) c.read_done.ensures.told before) in
    in_order (g.F.Folder.told c.look_again.new.folder) (g.met.F.Folder.sound c.look_again.new.folder) v seen c.args.work.now stands.text stands.file (c.in_ok-look_again.ensures.answer v before)

pub returns-clause-guard : goal.returns-clause-guard
returns-clause-guard g c = λ migration at_work.
    subst (λ t. KeepsFromRest migration t (g.F.Folder.told c.retire_told.new.folder)) (c.look_again.ensures.told ∙ c.read_done.ensures.told) (c.retire_told.ensures.guard migration at_work)

pub returns-clause-touches : goal.returns-clause-touches
returns-clause-touches g c = λ v journal seen is stands.
    let t3 = g.F.Folder.told c.retire_told.new.folder in
    let work = c.args.work.now in
    let read = c.in_ok-journal.journal in
    let pass = c.args.source_pass.now in
    let pass_too = c.args.target_pass.now in
    subst (λ (j : Journal). TouchesOnly (retiring_by work pass pass_too j) (g.F.Folder.told c.args.folder.now) t3)
    (c.journals_are_read_back.ensures.stands work v read journal c.in_ok-journal.ensures.journal is (c.in_ok-journal.ensures.stands v seen) stands)
    (subst (λ t. TouchesOnly (retiring_by work pass pass_too read) t t3) (c.look_again.ensures.told ∙ c.read_done.ensures.told) c.retire_told.ensures.touches)

pub returns-clause-removes : goal.returns-clause-removes
returns-clause-removes g c = λ v journal seen is stands.
    let t3 = g.F.Folder.told c.retire_told.new.folder in
    let work = c.args.work.now in
    let read = c.in_ok-journal.journal in
    let pass = c.args.source_pass.now in
    let pass_too = c.args.target_pass.now in
    subst (λ (j : Journal). RemovesOnly (retiring_by work pass pass_too j) (g.F.Folder.told c.args.folder.now) t3)
    (c.journals_are_read_back.ensures.stands work v read journal c.in_ok-journal.ensures.journal is (c.in_ok-journal.ensures.stands v seen) stands)
    (subst (λ t. RemovesOnly (retiring_by work pass pass_too read) t t3) (c.look_again.ensures.told ∙ c.read_done.ensures.told) c.retire_told.ensures.removes)

pub returns-clause-retired : goal.returns-clause-retired
returns-clause-retired g c =
    retired_by c.args.work.now c.in_ok-journal.journal (g.F.Folder.told c.args.folder.now) (g.F.Folder.told c.retire_told.new.folder) c.retire_told.result c.in_ok-journal.ensures.journal c.in_ok-journal.ensures.phase
    c.in_ok-journal.ensures.stands c.retire_told.ensures.source c.retire_told.ensures.work c.retire_told.ensures.items

pub returns-in_err-test_apart-clause-blamed : goal.returns-in_err-test_apart-clause-blamed
returns-in_err-test_apart-clause-blamed g c =
    let fault = c.in_err-test_apart.field-0.0 in
    let later = blamed_apart {F = ⊥} fault c.in_err-test_apart.ensures.own in
    fault_as _ c.from_residual-in_err-test_apart.result c.from_residual-in_err-test_apart.ensures.1 (record { own = later_own (of_step fault) later.own; failed = λ is. absurd (later.failed is) })

pub returns-clause-blamed : goal.returns-clause-blamed
returns-clause-blamed g c =
    let n0 = g.F.Folder.faults c.args.folder.now in
    let n1 = g.F.Folder.faults c.read_done.new.folder in
    let n2 = g.F.Folder.faults c.look_again.new.folder in
    let n3 = g.F.Folder.faults c.retire_told.new.folder in
    let one : n0 ≤ n1 = c.read_done.ensures.grows in
    let two : n1 ≤ n2 = c.look_again.ensures.grows in
    if_err_both (Blamed IsLaterFault (CountRose n2 n3)) (Blamed IsRetireFault (CountRose n0 n3)) c.retire_told.result (λ fault b. blamed_later n0 n2 n3 (omega (arith, one, two)) fault b) c.retire_told.ensures.blamed

pub returns-in_err-journal-clause-cause : goal.returns-in_err-journal-clause-cause
returns-in_err-journal-clause-cause g c v seen =
    let work = c.args.work.now in
    let pass = c.args.source_pass.now in
    let pass_too = c.args.target_pass.now in
    refused_as (λ answer. Unless answer (Retires work pass pass_too v answer)) c.from_residual.result c.from_residual.ensures.1
    (not_done work pass pass_too v c.in_err-journal.field-0.0 (c.in_err-journal.ensures.cause v seen))

pub returns-in_err-test_apart-clause-cause : goal.returns-in_err-test_apart-clause-cause
returns-in_err-test_apart-clause-cause g c v seen =
    let work = c.args.work.now in
    let pass = c.args.source_pass.now in
    let pass_too = c.args.target_pass.now in
    refused_as (λ answer. Unless answer (Retires work pass pass_too v answer)) c.from_residual-in_err-test_apart.result c.from_residual-in_err-test_apart.ensures.1
    (overlapping work pass pass_too v c.in_ok-journal.journal (c.in_ok-journal.ensures.cause v seen) c.in_err-test_apart.field-0.0 c.in_err-test_apart.ensures.cause)

pub returns-in_err-look_again-clause-cause : goal.returns-in_err-look_again-clause-cause
returns-in_err-look_again-clause-cause g c v seen =
    let work = c.args.work.now in
    let pass = c.args.source_pass.now in
    let pass_too = c.args.target_pass.now in
    refused_as (λ answer. Unless answer (Retires work pass pass_too v answer)) c.from_residual-in_err-look_again.result c.from_residual-in_err-look_again.ensures.1
    (foreign work pass pass_too v c.in_ok-journal.journal (c.in_ok-journal.ensures.cause v seen) c.in_ok-test_apart.ensures.cause c.in_err-look_again.field-0.0
    (c.in_err-look_again.ensures.answer v (subst (λ t. IsSeen t v) (sym c.read_done.ensures.told) seen)))

pub returns-clause-cause : goal.returns-clause-cause
returns-clause-cause g c v seen =
    let read = subst (λ t. IsSeen t v) (sym c.read_done.ensures.told) seen in
    is_told c.args.work.now c.args.source_pass.now c.args.target_pass.now v c.in_ok-journal.journal (c.in_ok-journal.ensures.cause v seen) c.in_ok-test_apart.ensures.cause c.retire_told.result
    (c.in_ok-look_again.ensures.answer v read) (c.retire_told.ensures.cause v (subst (λ t. IsSeen t v) (sym c.look_again.ensures.told) read))

pub returns-in_err-journal-clause-tested : goal.returns-in_err-journal-clause-tested
returns-in_err-journal-clause-tested g c = inl c.read_done.ensures.told

pub returns-in_err-test_apart-clause-tested : goal.returns-in_err-test_apart-clause-tested
returns-in_err-test_apart-clause-tested g c = inl c.read_done.ensures.told

pub returns-in_err-look_again-clause-tested : goal.returns-in_err-look_again-clause-tested
returns-in_err-look_again-clause-tested g c = inl (c.look_again.ensures.told ∙ c.read_done.ensures.told)

pub returns-clause-tested : goal.returns-clause-tested
returns-clause-tested g c =
    let work = c.args.work.now in
    let pass = c.args.source_pass.now in
    let pass_too = c.args.target_pass.now in
    let journal = c.in_ok-journal.journal in
    tested_on (g.F.Folder.told c.args.folder.now) (g.F.Folder.told c.look_again.new.folder) (g.F.Folder.told c.retire_told.new.folder)
    (λ v. IfErr c.retire_told.result IsOfRemoval × TestsAway work pass pass_too journal v (Ok tt)) c.retire_told.ensures.tested
    (λ v. IfErr c.retire_told.result IsOfRemoval × PassesTests work pass pass_too v) (c.look_again.ensures.told ∙ c.read_done.ensures.told)
    (λ v seen away. (
      away.0,
      record {
        journal = journal;
        done = passed_is Failed NoMemory journal (ReadsDone work v (Ok journal)) (c.in_ok-journal.ensures.cause v seen);
        apart = passed_is steps.Failed steps.NoMemory tt (TestsApart journal.source journal.target work (Ok tt)) c.in_ok-test_apart.ensures.cause;
        entries = c.in_ok-look_again.ensures.answer v (subst (λ t. IsSeen t v) (sym c.read_done.ensures.told) seen);
        away = away.1;
      },
    ))

pub returns-in_err-journal-clause-beside : goal.returns-in_err-journal-clause-beside
returns-in_err-journal-clause-beside g c = beside_same c.args.work.now (g.F.Folder.told c.args.folder.now) (g.F.Folder.told c.read_done.new.folder) c.read_done.ensures.told

pub returns-in_err-test_apart-clause-beside : goal.returns-in_err-test_apart-clause-beside
returns-in_err-test_apart-clause-beside g c = beside_same c.args.work.now (g.F.Folder.told c.args.folder.now) (g.F.Folder.told c.read_done.new.folder) c.read_done.ensures.told

pub returns-in_err-look_again-clause-beside : goal.returns-in_err-look_again-clause-beside
returns-in_err-look_again-clause-beside g c = beside_same c.args.work.now (g.F.Folder.told c.args.folder.now) (g.F.Folder.told c.look_again.new.folder) (c.look_again.ensures.told ∙ c.read_done.ensures.told)

pub returns-clause-beside : goal.returns-clause-beside
returns-clause-beside g c = subst (λ t. KeepsBeside c.args.work.now t (g.F.Folder.told c.retire_told.new.folder)) (c.look_again.ensures.told ∙ c.read_done.ensures.told) c.retire_told.ensures.beside
