use Rattle.std.proofs.Common.{◌∙◌, subst, Err, Ok, sym, inl, ℕ, List, IfErr}
use Rattle.folder_spec.specs.Seen.{IfSeen, IsSeen}
use Rattle.move_journal.specs.declared.journal.Journal.{Journal}
use Rattle.migrate_core.specs.Leading.{KeepsSettled}
use Rattle.migrate_core.specs.Moving.{MovesOnly}
use Rattle.migrate_core.proofs.Movings.{moves_nowhere}
use Rattle.migrate_core.proofs.Settled.{in_use, journal_folder, still_settled}
use Rattle.migrate_core.proofs.Endings.{if_ok_more}
use Rattle.migrate_core.specs.Moved.{MovesTold, MovesTree}
use Rattle.migration_sides.proofs.Told.{apart_passes, apart_refused, work_refused}
use Rattle.migration_sides.specs.Causes.{TestsApart}
use Rattle.migration_sides.specs.declared.fault.StepFault.TheVariants as steps
use Rattle.migration_sides.proofs.Unchanged.{tested_on}
use Rattle.migration_sides.specs.Tests.{Then}
use Rattle.migrate_core.proofs.Blaming.{apart_resumes}
use Rattle.migrate_core.specs.Causes.{IsOfPlacing, PassesResume, PassesTold, Resumes, ResumesTold, Unless, is_done, Answer}
use Rattle.work_folder.specs.Looking.{Gives, TestsEntries}
use Rattle.move_journal.specs.Reading.{ReadsAs, journal_bytes}
use Rattle.move_journal.proofs.Standing.{read_stands}
use Rattle.migrate_core.specs.Faults.{of_journal, of_step, of_work}
use Rattle.migrate_core.specs.declared.placing.Done.{Done}
use Rattle.migrate_core.proofs.WrittenTrees.{nothing_written, told_of}
use Rattle.migrate_core.specs.Written.{MayWriteTreeBy, done_texts}
use Rattle.migrate_core.proofs.Limits.{if_taken, limit_more, none_compared, none_taken}
use Rattle.migrate_core.specs.Sharing.{SharesAsTold, SharesInTree}
use Rattle.migrate_core.specs.Limits.{PassesAsTold, PassesInTree}
use Rattle.migrate_core.proofs.Drawing.{drew_refused, undrawn_on}
use Rattle.migrate_core.proofs.resuming.resume_settled.Given.{Over}
use Rattle.migrate_core.proofs.resuming.resume_settled.Goals as goal
use Rattle.migrate_core.proofs.resuming.resume_settled.Goals.{After-resume_told}
use Rattle.migration_sides.proofs.Chains.{fault_as, passed_is, refused_as, then_passes, then_refused}
use Rattle.migrate_core.specs.declared.fault.MoveFault.TheVariants.{Failed, NoMemory}
use Rattle.migrate_core.proofs.Tested.{journal_tested, step_tested, work_tested}
use Rattle.folder_spec.specs.Path.{Path}
use Rattle.folder_spec.specs.View.{View}
use Rattle.migrate_core.proofs.Lastings.{on_ok_more, texts_same}
use Rattle.migrate_core.specs.Lasting.{Clears, EndsEachSettled, HaveToldTrees, KeepsTexts}

-- behind the journal: the folders don't overlap, and nothing foreign stands in the work folder
module _ (work : Path) (pass pass' : List ℕ) (v : View) where
  abbrev entries : Journal → Unit {0} → Answer Done → Type 0
  entries journal _ = Then of_work (TestsEntries (is_done journal.phase) v work) (λ _. ResumesTold work pass pass' v journal)

  abbrev folders : Journal → Answer Done → Type 0
  folders journal = Then of_step (TestsApart journal.source journal.target work) (entries journal)

  journal_passes : (answer : Answer Done) (journal : Journal) → ReadsAs (journal_bytes v work) (Ok journal) → Unless answer (folders journal answer) → Unless answer (Resumes work pass pass' v answer)
  journal_passes = then_passes Failed NoMemory of_journal (ReadsAs (journal_bytes v work)) folders

pub returns-in_err-journal-clause-guard : goal.returns-in_err-journal-clause-guard
returns-in_err-journal-clause-guard g c migration resumed opened = still_settled migration _ _ c.read.ensures.told

pub returns-in_err-test_apart-clause-guard : goal.returns-in_err-test_apart-clause-guard
returns-in_err-test_apart-clause-guard g c migration resumed opened = still_settled migration _ _ c.read.ensures.told

pub look_again-requires : goal.look_again-requires
look_again-requires g c = λ v seen.
    journal_folder (g.F.Folder.told c.read.new.folder) (g.met.F.Folder.sound c.read.new.folder) v seen c.args.work.now c.in_ok-journal.journal
    (c.in_ok-journal.ensures.answer v (subst (λ t. IsSeen t v) c.read.ensures.told seen))

pub returns-in_err-look_again-clause-guard : goal.returns-in_err-look_again-clause-guard
returns-in_err-look_again-clause-guard g c migration resumed opened = still_settled migration _ _ (c.look_again.ensures.told ∙ c.read.ensures.told)

pub resume_told-requires-clause-used : goal.resume_told-requires-clause-used
resume_told-requires-clause-used g c = λ v seen.
    let before = subst (λ t. IsSeen t v) c.look_again.ensures.told seen in
    in_use (g.F.Folder.told c.look_again.new.folder) (g.met.F.Folder.sound c.look_again.new.folder) v seen c.args.work.now c.in_ok-journal.journal c.is_done.result
    (c.in_ok-journal.ensures.answer v (subst (λ t. IsSeen t v) c.read.ensures.told before)) (c.in_ok-look_again.ensures.answer v before)

pub returns-clause-guard : goal.returns-clause-guard
returns-clause-guard g c = λ migration resumed opened.
    subst (λ t. KeepsSettled migration t (g.F.Folder.told c.resume_told.new.folder)) (c.look_again.ensures.told ∙ c.read.ensures.told) (c.resume_told.ensures.guard migration resumed
    (λ v seen. opened v (subst (λ t. IsSeen t v) (c.look_again.ensures.told ∙ c.read.ensures.told) seen)))

pub returns-in_err-journal-clause-moves : goal.returns-in_err-journal-clause-moves
returns-in_err-journal-clause-moves g c = λ v journal seen is stands.
    moves_nowhere c.args.work.now _ journal.target _ _ c.read.ensures.told

pub returns-in_err-test_apart-clause-moves : goal.returns-in_err-test_apart-clause-moves
returns-in_err-test_apart-clause-moves g c = λ v journal seen is stands.
    moves_nowhere c.args.work.now _ journal.target _ _ c.read.ensures.told

pub returns-in_err-look_again-clause-moves : goal.returns-in_err-look_again-clause-moves
returns-in_err-look_again-clause-moves g c = λ v journal seen is stands.
    moves_nowhere c.args.work.now _ journal.target _ _ (c.look_again.ensures.told ∙ c.read.ensures.told)

pub returns-clause-moves : goal.returns-clause-moves
returns-clause-moves g c = λ v journal seen is stands.
    let t3 = g.F.Folder.told c.resume_told.new.folder in
    let read = c.in_ok-journal.journal in
    subst (λ (j : Journal). MovesOnly c.args.work.now j.target (g.F.Folder.told c.args.folder.now) t3)
    (c.journals_are_read_back.ensures.stands c.args.work.now v read journal c.in_ok-journal.ensures.journal is (read_stands c.args.work.now v read (c.in_ok-journal.ensures.answer v seen)) stands)
    (subst (λ t. MovesOnly c.args.work.now read.target t t3) (c.look_again.ensures.told ∙ c.read.ensures.told) c.resume_told.ensures.moves)

pub returns-clause-moved : goal.returns-clause-moved
returns-clause-moved g c =
    let work = c.args.work.now in
    let t0 = g.F.Folder.told c.args.folder.now in
    let t2 = g.F.Folder.told c.look_again.new.folder in
    let t3 = g.F.Folder.told c.resume_told.new.folder in
    let pass = c.args.source_pass.now in
    let pass' = c.args.target_pass.now in
    let read = c.in_ok-journal.journal in
    if_ok_more (λ done. MovesTree read.names read.source read.target work pass pass' done t2 t3) (λ done. IfSeen t0 (λ v. MovesTold work pass pass' done t0 t3 v)) c.resume_told.result
    (λ done moves v seen. record {
      journal = read;
      is = c.in_ok-journal.ensures.journal;
      stands = read_stands work v read (c.in_ok-journal.ensures.answer v seen);
      moves = subst (λ t. MovesTree read.names read.source read.target work pass pass' done t t3) (c.look_again.ensures.told ∙ c.read.ensures.told) moves;
    }) c.resume_told.ensures.moved

pub returns-in_err-journal-clause-cause : goal.returns-in_err-journal-clause-cause
returns-in_err-journal-clause-cause g c v seen =
    let work = c.args.work.now in
    let pass = c.args.source_pass.now in
    let pass' = c.args.target_pass.now in
    refused_as (λ answer. Unless answer (Resumes work pass pass' v answer)) c.from_residual.result c.from_residual.ensures.1
    (then_refused Failed NoMemory of_journal (ReadsAs (journal_bytes v work)) (folders work pass pass' v) c.in_err-journal.field-0.0 (c.in_err-journal.ensures.answer v seen))

pub returns-in_err-test_apart-clause-cause : goal.returns-in_err-test_apart-clause-cause
returns-in_err-test_apart-clause-cause g c v seen =
    let work = c.args.work.now in
    let pass = c.args.source_pass.now in
    let pass' = c.args.target_pass.now in
    let read = c.in_ok-journal.journal in
    let why = c.in_err-test_apart.field-0.0 in
    refused_as (λ answer. Unless answer (Resumes work pass pass' v answer)) c.from_residual-in_err-test_apart.result c.from_residual-in_err-test_apart.ensures.1
    (journal_passes work pass pass' v (Err (of_step why)) read (c.in_ok-journal.ensures.answer v seen) (apart_refused of_step read.source read.target work (entries work pass pass' v read) why c.in_err-test_apart.ensures.cause))

pub returns-in_err-look_again-clause-cause : goal.returns-in_err-look_again-clause-cause
returns-in_err-look_again-clause-cause g c v seen =
    let work = c.args.work.now in
    let pass = c.args.source_pass.now in
    let pass' = c.args.target_pass.now in
    let read = c.in_ok-journal.journal in
    let why = c.in_err-look_again.field-0.0 in
    let looked = c.in_err-look_again.ensures.answer v (subst (λ t. IsSeen t v) (sym c.read.ensures.told) seen) in
    refused_as (λ answer. Unless answer (Resumes work pass pass' v answer)) c.from_residual-in_err-look_again.result c.from_residual-in_err-look_again.ensures.1
    (journal_passes work pass pass' v (Err (of_work why)) read (c.in_ok-journal.ensures.answer v seen)
    (apart_passes of_step read.source read.target work (entries work pass pass' v read) (Err (of_work why)) c.in_ok-test_apart.ensures.cause
    (work_refused of_work (TestsEntries (is_done read.phase) v work) (λ _. ResumesTold work pass pass' v read) why
    (subst (λ old. Gives {T = Unit {0}} (TestsEntries old v work) (Err why)) c.is_done.ensures looked))))

pub returns-clause-cause : goal.returns-clause-cause
returns-clause-cause g c v seen =
    let work = c.args.work.now in
    let pass = c.args.source_pass.now in
    let pass' = c.args.target_pass.now in
    let read = c.in_ok-journal.journal in
    let answer = c.resume_told.result in
    let once = subst (λ t. IsSeen t v) (sym c.read.ensures.told) seen in
    journal_passes work pass pass' v answer read (c.in_ok-journal.ensures.answer v seen)
    (apart_passes of_step read.source read.target work (entries work pass pass' v read) answer c.in_ok-test_apart.ensures.cause
    (then_passes Failed NoMemory of_work (TestsEntries (is_done read.phase) v work) (λ _. ResumesTold work pass pass' v read) answer tt
    (subst (λ old. TestsEntries old v work (Ok tt)) c.is_done.ensures (c.in_ok-look_again.ensures.answer v once))
    (c.resume_told.ensures.cause v (subst (λ t. IsSeen t v) (sym c.look_again.ensures.told) once))))

pub returns-in_err-journal-clause-written : goal.returns-in_err-journal-clause-written
returns-in_err-journal-clause-written g c v seen =
    inl (nothing_written c.from_residual.result _ c.from_residual.ensures.1 (journal_tested c.in_err-journal.field-0.0).1 _ _ _ (c.draws_compose.ensures.none _) c.read.ensures.told)

pub returns-in_err-test_apart-clause-written : goal.returns-in_err-test_apart-clause-written
returns-in_err-test_apart-clause-written g c v seen =
    inl (nothing_written c.from_residual-in_err-test_apart.result _ c.from_residual-in_err-test_apart.ensures.1 (step_tested c.in_err-test_apart.field-0.0).1 _ _ _ (c.draws_compose.ensures.none _) c.read.ensures.told)

pub returns-in_err-look_again-clause-written : goal.returns-in_err-look_again-clause-written
returns-in_err-look_again-clause-written g c v seen =
    inl (nothing_written c.from_residual-in_err-look_again.result _ c.from_residual-in_err-look_again.ensures.1 (work_tested c.in_err-look_again.field-0.0).1 _ _ _ (c.draws_compose.ensures.none _) (c.look_again.ensures.told ∙ c.read.ensures.told))

pub returns-clause-written : goal.returns-clause-written
returns-clause-written g c v seen =
    let told = g.F.Folder.told c.args.folder.now in
    let left = g.R.Randoms.left c.args.random.now in
    let after = g.F.Folder.told c.resume_told.new.folder in
    let left2 = g.R.Randoms.left c.resume_told.new.random in
    let read = c.in_ok-journal.journal in
    let pass = c.args.source_pass.now in
    let pass' = c.args.target_pass.now in
    let same = c.look_again.ensures.told ∙ c.read.ensures.told in
    told_of c.resume_told.result c.args.work.now pass pass' left left2 told after v read c.in_ok-journal.ensures.journal (read_stands c.args.work.now v read (c.in_ok-journal.ensures.answer v seen))
    (subst (λ t. MayWriteTreeBy (λ items. done_texts read) c.resume_told.result read.names read.source read.target c.args.work.now pass pass' left left2 t after) same (c.resume_told.ensures.written v (subst (λ t. IsSeen t v) (sym same) seen)))

pub returns-in_err-journal-clause-tested : goal.returns-in_err-journal-clause-tested
returns-in_err-journal-clause-tested g c = inl c.read.ensures.told

pub returns-in_err-test_apart-clause-tested : goal.returns-in_err-test_apart-clause-tested
returns-in_err-test_apart-clause-tested g c = inl c.read.ensures.told

pub returns-in_err-look_again-clause-tested : goal.returns-in_err-look_again-clause-tested
returns-in_err-look_again-clause-tested g c = inl (c.look_again.ensures.told ∙ c.read.ensures.told)

-- the tests pass with those behind
module _ (g : Over) (c : After-resume_told g) where
  abbrev PassedBehind : View → Type 0
  PassedBehind v = IfErr c.resume_told.result IsOfPlacing × PassesTold c.args.work.now c.args.source_pass.now c.args.target_pass.now c.in_ok-journal.journal v

  abbrev Passed : View → Type 0
  Passed v = IfErr c.resume_told.result IsOfPlacing × PassesResume c.args.work.now c.args.source_pass.now c.args.target_pass.now v

  passing : (v : View) → IsSeen (g.F.Folder.told c.args.folder.now) v → PassedBehind v → Passed v
  passing v seen told =
      let work = c.args.work.now in
      let pass = c.args.source_pass.now in
      let pass' = c.args.target_pass.now in
      let read = c.in_ok-journal.journal in (
        told.0,
        record {
          journal = read;
          reads = c.in_ok-journal.ensures.answer v seen;
          apart = passed_is steps.Failed steps.NoMemory tt (TestsApart read.source read.target work (Ok tt)) c.in_ok-test_apart.ensures.cause;
          entries = subst (λ old. TestsEntries old v work (Ok tt)) c.is_done.ensures (c.in_ok-look_again.ensures.answer v (subst (λ t. IsSeen t v) (sym c.read.ensures.told) seen));
          told = told.1;
        },
      )

pub returns-clause-tested : goal.returns-clause-tested
returns-clause-tested g c =
    let after = (goal.at.returns-clause-tested g c).After-resume_told in
    tested_on (g.F.Folder.told c.args.folder.now) (g.F.Folder.told c.look_again.new.folder) (g.F.Folder.told c.resume_told.new.folder) (PassedBehind g after) c.resume_told.ensures.tested (Passed g after) (c.look_again.ensures.told ∙ c.read.ensures.told) (passing g after)

pub returns-clause-undrawn : goal.returns-clause-undrawn
returns-clause-undrawn g c =
    let after = (goal.at.returns-clause-undrawn g c).After-resume_told in
    undrawn_on (PassedBehind g after) (Passed g after) (g.F.Folder.told c.args.folder.now) (g.F.Folder.told c.look_again.new.folder) (λ v is. subst (λ t. IsSeen t v) (sym (c.look_again.ensures.told ∙ c.read.ensures.told)) is) (passing g after) c.resume_told.ensures.undrawn

pub returns-in_err-journal-clause-too_long : goal.returns-in_err-journal-clause-too_long
returns-in_err-journal-clause-too_long g c v seen =
    none_compared _ c.from_residual.result _ c.from_residual.ensures.1 (journal_tested c.in_err-journal.field-0.0).0

pub returns-in_err-test_apart-clause-too_long : goal.returns-in_err-test_apart-clause-too_long
returns-in_err-test_apart-clause-too_long g c v seen =
    none_compared _ c.from_residual-in_err-test_apart.result _ c.from_residual-in_err-test_apart.ensures.1 (step_tested c.in_err-test_apart.field-0.0).0

pub returns-in_err-look_again-clause-too_long : goal.returns-in_err-look_again-clause-too_long
returns-in_err-look_again-clause-too_long g c v seen =
    none_compared _ c.from_residual-in_err-look_again.result _ c.from_residual-in_err-look_again.ensures.1 (work_tested c.in_err-look_again.field-0.0).0

pub returns-clause-too_long : goal.returns-clause-too_long
returns-clause-too_long g c v seen =
    let work = c.args.work.now in
    let t0 = g.F.Folder.told c.args.folder.now in
    let t2 = g.F.Folder.told c.look_again.new.folder in
    let t3 = g.F.Folder.told c.resume_told.new.folder in
    let pass = c.args.source_pass.now in
    let pass' = c.args.target_pass.now in
    let read = c.in_ok-journal.journal in
    limit_more (PassesInTree read.names read.source read.target pass pass' t2 t3) (PassesAsTold work pass pass' t0 t3 v) c.resume_told.result
    (λ at passes. record {
      journal = read;
      is = c.in_ok-journal.ensures.journal;
      stands = read_stands work v read (c.in_ok-journal.ensures.answer v seen);
      passes = subst (λ t. PassesInTree read.names read.source read.target pass pass' t t3 at) (c.look_again.ensures.told ∙ c.read.ensures.told) passes;
    }) c.resume_told.ensures.too_long

pub returns-in_err-journal-clause-shared : goal.returns-in_err-journal-clause-shared
returns-in_err-journal-clause-shared g c v seen =
    none_taken _ c.from_residual.result _ c.from_residual.ensures.1 (journal_tested c.in_err-journal.field-0.0).0

pub returns-in_err-test_apart-clause-shared : goal.returns-in_err-test_apart-clause-shared
returns-in_err-test_apart-clause-shared g c v seen =
    none_taken _ c.from_residual-in_err-test_apart.result _ c.from_residual-in_err-test_apart.ensures.1 (step_tested c.in_err-test_apart.field-0.0).0

pub returns-in_err-look_again-clause-shared : goal.returns-in_err-look_again-clause-shared
returns-in_err-look_again-clause-shared g c v seen =
    none_taken _ c.from_residual-in_err-look_again.result _ c.from_residual-in_err-look_again.ensures.1 (work_tested c.in_err-look_again.field-0.0).0

pub returns-clause-shared : goal.returns-clause-shared
returns-clause-shared g c v seen =
    let work = c.args.work.now in
    let t0 = g.F.Folder.told c.args.folder.now in
    let t2 = g.F.Folder.told c.look_again.new.folder in
    let t3 = g.F.Folder.told c.resume_told.new.folder in
    let pass = c.args.source_pass.now in
    let pass' = c.args.target_pass.now in
    let left = g.R.Randoms.left c.args.random.now in
    let left' = g.R.Randoms.left c.resume_told.new.random in
    let read = c.in_ok-journal.journal in
    if_taken (SharesInTree read.names read.source read.target work pass pass' left left' t2 t3) (SharesAsTold work pass pass' left left' t0 t3 v) c.resume_told.result
    (λ shares. record {
      journal = read;
      is = c.in_ok-journal.ensures.journal;
      stands = read_stands work v read (c.in_ok-journal.ensures.answer v seen);
      shares = subst (λ t. SharesInTree read.names read.source read.target work pass pass' left left' t t3) (c.look_again.ensures.told ∙ c.read.ensures.told) shares;
    }) c.resume_told.ensures.shared

pub returns-in_err-test_apart-clause-blamed : goal.returns-in_err-test_apart-clause-blamed
returns-in_err-test_apart-clause-blamed g c =
    fault_as _ c.from_residual-in_err-test_apart.result c.from_residual-in_err-test_apart.ensures.1 (apart_resumes c.in_err-test_apart.field-0.0 c.in_err-test_apart.ensures.own)

pub returns-in_err-journal-clause-drew : goal.returns-in_err-journal-clause-drew
returns-in_err-journal-clause-drew g c = drew_refused c.draws_compose.ensures.none (g.R.Randoms.left c.args.random.now) c.from_residual.result _ c.from_residual.ensures.1 (journal_tested c.in_err-journal.field-0.0).1

pub returns-in_err-test_apart-clause-drew : goal.returns-in_err-test_apart-clause-drew
returns-in_err-test_apart-clause-drew g c = drew_refused c.draws_compose.ensures.none (g.R.Randoms.left c.args.random.now) c.from_residual-in_err-test_apart.result _ c.from_residual-in_err-test_apart.ensures.1 (step_tested c.in_err-test_apart.field-0.0).1

pub returns-in_err-look_again-clause-drew : goal.returns-in_err-look_again-clause-drew
returns-in_err-look_again-clause-drew g c = drew_refused c.draws_compose.ensures.none (g.R.Randoms.left c.args.random.now) c.from_residual-in_err-look_again.result _ c.from_residual-in_err-look_again.ensures.1 (work_tested c.in_err-look_again.field-0.0).1

pub returns-clause-clears : goal.returns-clause-clears
returns-clause-clears g c =
    let work = c.args.work.now in
    let after = g.F.Folder.told c.resume_told.new.folder in
    on_ok_more (Clears work (g.F.Folder.told c.look_again.new.folder) after) (Clears work (g.F.Folder.told c.args.folder.now) after) c.resume_told.result
    (subst (λ t. Clears work t after) (c.look_again.ensures.told ∙ c.read.ensures.told)) c.resume_told.ensures.clears

pub returns-clause-finishes : goal.returns-clause-finishes
returns-clause-finishes g c =
    let work = c.args.work.now in
    let pass = c.args.source_pass.now in
    let pass' = c.args.target_pass.now in
    let after = g.F.Folder.told c.resume_told.new.folder in
    on_ok_more (EndsEachSettled work pass pass' (g.F.Folder.told c.look_again.new.folder) after) (EndsEachSettled work pass pass' (g.F.Folder.told c.args.folder.now) after) c.resume_told.result
    (subst (λ t. EndsEachSettled work pass pass' t after) (c.look_again.ensures.told ∙ c.read.ensures.told)) c.resume_told.ensures.finishes

pub returns-in_err-journal-clause-journal : goal.returns-in_err-journal-clause-journal
returns-in_err-journal-clause-journal g c v journal seen is stands = texts_same (HaveToldTrees c.args.source_pass.now c.args.target_pass.now v journal) c.args.work.now journal (g.F.Folder.told c.args.folder.now) (g.F.Folder.told c.read.new.folder) c.read.ensures.told

pub returns-in_err-test_apart-clause-journal : goal.returns-in_err-test_apart-clause-journal
returns-in_err-test_apart-clause-journal g c v journal seen is stands = texts_same (HaveToldTrees c.args.source_pass.now c.args.target_pass.now v journal) c.args.work.now journal (g.F.Folder.told c.args.folder.now) (g.F.Folder.told c.read.new.folder) c.read.ensures.told

pub returns-in_err-look_again-clause-journal : goal.returns-in_err-look_again-clause-journal
returns-in_err-look_again-clause-journal g c v journal seen is stands = texts_same (HaveToldTrees c.args.source_pass.now c.args.target_pass.now v journal) c.args.work.now journal (g.F.Folder.told c.args.folder.now) (g.F.Folder.told c.look_again.new.folder) (c.look_again.ensures.told ∙ c.read.ensures.told)

pub returns-clause-journal : goal.returns-clause-journal
returns-clause-journal g c = λ v journal seen is stands.
    let after = g.F.Folder.told c.resume_told.new.folder in
    let read = c.in_ok-journal.journal in
    subst (λ (j : Journal). KeepsTexts (HaveToldTrees c.args.source_pass.now c.args.target_pass.now v j) c.args.work.now j (g.F.Folder.told c.args.folder.now) after)
    (c.journals_are_read_back.ensures.stands c.args.work.now v read journal c.in_ok-journal.ensures.journal is (read_stands c.args.work.now v read (c.in_ok-journal.ensures.answer v seen)) stands)
    (subst (λ t. KeepsTexts (HaveToldTrees c.args.source_pass.now c.args.target_pass.now v read) c.args.work.now read t after) (c.look_again.ensures.told ∙ c.read.ensures.told)
    (c.resume_told.ensures.journal v (subst (λ t. IsSeen t v) (sym (c.look_again.ensures.told ∙ c.read.ensures.told)) seen)))

pub returns-in_err-journal-clause-undrawn : goal.returns-in_err-journal-clause-undrawn
returns-in_err-journal-clause-undrawn g c = inl (c.draws_compose.ensures.none (g.R.Randoms.left c.args.random.now))

pub returns-in_err-test_apart-clause-undrawn : goal.returns-in_err-test_apart-clause-undrawn
returns-in_err-test_apart-clause-undrawn g c = inl (c.draws_compose.ensures.none (g.R.Randoms.left c.args.random.now))

pub returns-in_err-look_again-clause-undrawn : goal.returns-in_err-look_again-clause-undrawn
returns-in_err-look_again-clause-undrawn g c = inl (c.draws_compose.ensures.none (g.R.Randoms.left c.args.random.now))
