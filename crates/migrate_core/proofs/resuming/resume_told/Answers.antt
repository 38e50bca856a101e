use Rattle.std.proofs.Common.{◌≡◌, ◌∙◌, sym, subst, subst₂, Err, Ok, Option, inl, IfErr}
use Rattle.folder_spec.specs.Event.{Told}
use Rattle.folder_spec.specs.Region.{apart_from_both}
use Rattle.folder_spec.specs.View.{View}
use Rattle.folder_spec.specs.Seen.{IsSeen, seen}
use Rattle.migrate_core.specs.Leading.{Guards, progress_of}
use Rattle.migrate_core.specs.Moving.{MovesOnly}
use Rattle.migration_sides.proofs.Told.{both_open, opens_passes, opens_refused}
use Rattle.migration_sides.specs.Causes.{Opens}
use Rattle.folder_spec.specs.Apart.{AreSeparate}
use Rattle.migration_sides.specs.Tests.{all_pass}
use Rattle.migration_sides.proofs.Unchanged.{tested_on}
use Rattle.migrate_core.proofs.Blaming.{step_resumes}
use Rattle.migrate_core.proofs.Movings.{moves_nowhere}
use Rattle.migrate_core.proofs.Planned.{seen_of}
use Rattle.migrate_core.proofs.Settled.{resumes, settled_by, still_settled}
use Rattle.migrate_core.proofs.Endings.{told_trees, tree_moved}
use Rattle.migrate_core.specs.Moved.{HaveMappedTree, Placed}
use Rattle.vault_spec.specs.Opened.{OpenedVault}
use Rattle.migrate_core.specs.Causes.{Answer, IsOfPlacing, PassesTold, ResumesTold, ResumesWith, TestsSource, TestsToResume, Unless}
use Rattle.migrate_core.specs.Faults.{of_step}
use Rattle.migrate_core.specs.declared.placing.Done.{Done}
use Rattle.migrate_core.proofs.WrittenTrees.{nothing_written, tree_of}
use Rattle.migrate_core.specs.Written.{MayWriteBy, done_texts}
use Rattle.migrate_core.proofs.Limits.{limit_in_tree, none_compared, none_taken, shared_in_tree}
use Rattle.migrate_core.specs.Sharing.{IsOfTaken, SharesInTree, SharesSeen}
use Rattle.migrate_core.specs.Copying.{StayGood}
use Rattle.migrate_core.specs.Limits.{EndsBy}
use Rattle.migrate_core.proofs.Drawing.{drew_refused, undrawn_on}
use Rattle.migrate_core.proofs.resuming.resume_told.Given.{Over}
use Rattle.migrate_core.proofs.resuming.resume_told.Goals as goal
use Rattle.migrate_core.proofs.resuming.resume_told.Goals.{After-resume_with}
use Rattle.migration_sides.proofs.Chains.{fault_as, own_passes, own_refused, passed_is, refused_as}
use Rattle.migrate_core.specs.declared.fault.MoveFault.TheVariants.{Failed, NoMemory}
use Rattle.migrate_core.proofs.Tested.{step_tested}
use Rattle.migrate_core.proofs.Lastings.{leads_of, on_ok_by, on_ok_more, settled_ends, texts_more, texts_same}
use Rattle.migrate_core.specs.Lasting.{Clears, EndsEachSettled, HaveToldTrees, KeepsTexts}
use Rattle.migrate_core.specs.Leading.{Leads}
use Rattle.migration_spec.specs.Alone.{Finished}

pub returns-in_err-test_source-clause-guard : goal.returns-in_err-test_source-clause-guard
returns-in_err-test_source-clause-guard g c migration resumed opened = still_settled migration _ _ c.test_source.ensures.told

pub returns-in_err-test_source-clause-moves : goal.returns-in_err-test_source-clause-moves
returns-in_err-test_source-clause-moves g c = moves_nowhere c.args.work.now _ c.args.journal.target _ _ c.test_source.ensures.told

pub returns-in_err-sides-clause-guard : goal.returns-in_err-sides-clause-guard
returns-in_err-sides-clause-guard g c migration resumed opened = still_settled migration _ _ (c.load_both.ensures.told ∙ c.test_source.ensures.told)

pub returns-in_err-sides-clause-moves : goal.returns-in_err-sides-clause-moves
returns-in_err-sides-clause-moves g c = moves_nowhere c.args.work.now _ c.args.journal.target _ _ (c.load_both.ensures.told ∙ c.test_source.ensures.told)

pub resume_with-requires-clause-apart : goal.resume_with-requires-clause-apart
resume_with-requires-clause-apart g c = subst₂ (λ p q. AreSeparate p q c.args.work.now) (sym c.in_ok-sides.ensures.source) (sym c.in_ok-sides.ensures.target) c.requires.apart

pub resume_with-requires-clause-used : goal.resume_with-requires-clause-used
resume_with-requires-clause-used g c = λ v seen. c.requires.used v (subst (λ t. IsSeen t v) (c.load_both.ensures.told ∙ c.test_source.ensures.told) seen)

pub returns-clause-guard : goal.returns-clause-guard
returns-clause-guard g c = λ migration resumed opened.
    let t0 = g.F.Folder.told c.args.folder.now in
    let t2 = g.F.Folder.told c.load_both.new.folder in
    let t3 = g.F.Folder.told c.resume_with.new.folder in
    let same : t2 ≡ t0 = c.load_both.ensures.told ∙ c.test_source.ensures.told in
    let sides = c.in_ok-sides.sides in
    let loads = c.in_ok-sides.ensures in
    let journal = c.args.journal in
    settled_by c.args.work.now (apart_from_both c.args.work.now sides.target.root) sides.target.root migration (progress_of journal.phase) t0 t3
    (subst (λ t. MovesOnly c.args.work.now sides.target.root t t3) same c.resume_with.ensures.moves)
    (λ a is settled.
    let v = seen a.state in
    let shown = subst (λ t. IsSeen t v) (sym c.test_source.ensures.told) (seen_of t0 a is) in
    let again = resumes c.roots_have_one_answer.ensures c.guarded_migrations_are_seen.ensures.case c.journals_are_read_back.ensures.stands migration a.state sides.source sides.target c.args.work.now journal
    c.args.source_pass.now c.args.target_pass.now resumed (opened v (seen_of t0 a is)) c.requires.journal settled (c.requires.used v (seen_of t0 a is)) (record { stands = loads.source; loads = loads.opens_source v shown })
    (record { stands = loads.target; loads = loads.opens_target v shown }) in (
      again.found.alone,
      subst (λ t. Guards migration (progress_of journal.phase) t t3) same (c.resume_with.ensures.guard migration again.found.sides again.tells).0,
    ))

pub returns-clause-moves : goal.returns-clause-moves
returns-clause-moves g c =
    let t3 = g.F.Folder.told c.resume_with.new.folder in
    subst (λ t. MovesOnly c.args.work.now c.args.journal.target t t3) (c.load_both.ensures.told ∙ c.test_source.ensures.told)
    (subst (λ r. MovesOnly c.args.work.now r (g.F.Folder.told c.load_both.new.folder) t3) c.in_ok-sides.ensures.target c.resume_with.ensures.moves)

pub resume_with-requires-clause-source_named : goal.resume_with-requires-clause-source_named
resume_with-requires-clause-source_named g c = sym c.in_ok-sides.ensures.source

pub resume_with-requires-clause-target_named : goal.resume_with-requires-clause-target_named
resume_with-requires-clause-target_named g c = sym c.in_ok-sides.ensures.target

pub resume_with-requires-clause-names_named : goal.resume_with-requires-clause-names_named
resume_with-requires-clause-names_named g c = sym c.in_ok-sides.ensures.names

pub returns-clause-moved : goal.returns-clause-moved
returns-clause-moved g c =
    let sides = c.in_ok-sides.sides in
    let loads = c.in_ok-sides.ensures in
    let names = c.args.journal.names in
    let work = c.args.work.now in
    let told = g.F.Folder.told c.args.folder.now in
    let after = g.F.Folder.told c.resume_with.new.folder in
    let shares = λ (t : Option Told). SharesSeen sides.names sides.source sides.target work (g.R.Randoms.left c.args.random.now) (g.R.Randoms.left c.resume_with.new.random) t after in
    let same = c.load_both.ensures.told ∙ c.test_source.ensures.told in
    tree_moved (shares told) names c.args.journal.source c.args.journal.target work c.args.source_pass.now c.args.target_pass.now sides.source sides.target told after c.resume_with.result loads.source loads.target
    (g.met.F.Folder.sound c.args.folder.now)
    (subst (λ root. MovesOnly work root told after) loads.target (subst (λ t. MovesOnly work sides.target.root t after) same c.resume_with.ensures.moves))
    (λ v is. loads.opens_source v (subst (λ t. IsSeen t v) (sym c.test_source.ensures.told) is)) (λ v is. loads.opens_target v (subst (λ t. IsSeen t v) (sym c.test_source.ensures.told) is))
    (subst (λ n. Placed n sides.source sides.target told c.resume_with.result) loads.names (subst (λ t. Placed sides.names sides.source sides.target t c.resume_with.result) same c.resume_with.ensures.placed)) c.resume_with.ensures.moved
    (subst (λ n. EndsBy (StayGood sides.source sides.target told after) (shares told) n sides.source sides.target after c.resume_with.result) loads.names
    (subst (λ t. EndsBy (StayGood sides.source sides.target t after) (shares t) sides.names sides.source sides.target after c.resume_with.result) same c.resume_with.ensures.ends))

pub returns-in_err-test_source-clause-cause : goal.returns-in_err-test_source-clause-cause
returns-in_err-test_source-clause-cause g c v seen =
    let work = c.args.work.now in
    let journal = c.args.journal in
    let pass = c.args.source_pass.now in
    let pass' = c.args.target_pass.now in
    let next : OpenedVault → OpenedVault → Answer Done → Type 0 = λ source target. ResumesWith source target work journal v in
    let opens = λ (_ : Unit {0}). Opens of_step v journal.source journal.target pass pass' next in
    let tests = TestsSource journal.phase work journal.source v in
    refused_as (λ answer. Unless answer (ResumesTold work pass pass' v journal answer)) c.from_residual.result c.from_residual.ensures.1 (own_refused Failed NoMemory tests opens c.in_err-test_source.field-0.0 (c.in_err-test_source.ensures.cause v seen))

pub returns-in_err-sides-clause-cause : goal.returns-in_err-sides-clause-cause
returns-in_err-sides-clause-cause g c v seen =
    let work = c.args.work.now in
    let journal = c.args.journal in
    let pass = c.args.source_pass.now in
    let pass' = c.args.target_pass.now in
    let next : OpenedVault → OpenedVault → Answer Done → Type 0 = λ source target. ResumesWith source target work journal v in
    let opens = λ (_ : Unit {0}). Opens of_step v journal.source journal.target pass pass' next in
    let tests = TestsSource journal.phase work journal.source v in
    let why = c.in_err-sides.field-0.0 in
    refused_as (λ answer. Unless answer (ResumesTold work pass pass' v journal answer)) c.from_residual-in_err-sides.result c.from_residual-in_err-sides.ensures.1
    (own_passes Failed NoMemory tests opens (Err (of_step why)) tt (c.in_ok-test_source.ensures.cause v seen)
    (opens_refused of_step v journal.source journal.target pass pass' next why (c.in_err-sides.ensures.cause v (subst (λ t. IsSeen t v) (sym c.test_source.ensures.told) seen))))

pub returns-clause-cause : goal.returns-clause-cause
returns-clause-cause g c v seen =
    let work = c.args.work.now in
    let journal = c.args.journal in
    let pass = c.args.source_pass.now in
    let pass' = c.args.target_pass.now in
    let next : OpenedVault → OpenedVault → Answer Done → Type 0 = λ source target. ResumesWith source target work journal v in
    let opens = λ (_ : Unit {0}). Opens of_step v journal.source journal.target pass pass' next in
    let tests = TestsSource journal.phase work journal.source v in
    let answer = c.resume_with.result in
    let sides = c.in_ok-sides.sides in
    let loads = c.in_ok-sides.ensures in
    let once = subst (λ t. IsSeen t v) (sym c.test_source.ensures.told) seen in
    own_passes Failed NoMemory tests opens answer tt (c.in_ok-test_source.ensures.cause v seen)
    (opens_passes of_step v journal.source journal.target pass pass' next answer sides.source sides.target loads.source loads.target (loads.opens_source v once) (loads.opens_target v once)
    (c.resume_with.ensures.cause v (subst (λ t. IsSeen t v) (sym c.load_both.ensures.told) once)))

pub returns-in_err-test_source-clause-written : goal.returns-in_err-test_source-clause-written
returns-in_err-test_source-clause-written g c v seen =
    inl (nothing_written c.from_residual.result _ c.from_residual.ensures.1 c.in_err-test_source.ensures.tested _ _ _ (c.draws_compose.ensures.none _) c.test_source.ensures.told)

pub returns-in_err-sides-clause-written : goal.returns-in_err-sides-clause-written
returns-in_err-sides-clause-written g c v seen =
    inl (nothing_written c.from_residual-in_err-sides.result _ c.from_residual-in_err-sides.ensures.1 (step_tested c.in_err-sides.field-0.0).1 _ _ _ (c.draws_compose.ensures.none _) (c.load_both.ensures.told ∙ c.test_source.ensures.told))

pub returns-clause-written : goal.returns-clause-written
returns-clause-written g c v seen =
    let told = g.F.Folder.told c.args.folder.now in
    let left = g.R.Randoms.left c.args.random.now in
    let after = g.F.Folder.told c.resume_with.new.folder in
    let left2 = g.R.Randoms.left c.resume_with.new.random in
    let sides = c.in_ok-sides.sides in
    let loads = c.in_ok-sides.ensures in
    let same = c.load_both.ensures.told ∙ c.test_source.ensures.told in
    tree_of (λ items. done_texts c.args.journal) c.resume_with.result c.args.journal.names c.args.journal.source c.args.journal.target c.args.work.now c.args.source_pass.now c.args.target_pass.now sides.source sides.target left left2 told after loads.source loads.target
    (λ w is. loads.opens_source w (subst (λ t. IsSeen t w) (sym c.test_source.ensures.told) is)) (λ w is. loads.opens_target w (subst (λ t. IsSeen t w) (sym c.test_source.ensures.told) is))
    (subst (λ t. MayWriteBy (λ items. done_texts c.args.journal) c.resume_with.result c.args.journal.names sides.source sides.target c.args.work.now left left2 t after) same (c.resume_with.ensures.written v (subst (λ t. IsSeen t v) (sym same) seen)))

pub returns-in_err-test_source-clause-tested : goal.returns-in_err-test_source-clause-tested
returns-in_err-test_source-clause-tested g c = inl c.test_source.ensures.told

pub returns-in_err-sides-clause-tested : goal.returns-in_err-sides-clause-tested
returns-in_err-sides-clause-tested g c = inl (c.load_both.ensures.told ∙ c.test_source.ensures.told)

-- the tests pass with those behind
module _ (g : Over) (c : After-resume_with g) where
  abbrev PassedBehind : View → Type 0
  PassedBehind v = IfErr c.resume_with.result IsOfPlacing × TestsToResume c.in_ok-sides.sides.source c.in_ok-sides.sides.target c.args.journal v all_pass (Ok tt)

  abbrev Passed : View → Type 0
  Passed v = IfErr c.resume_with.result IsOfPlacing × PassesTold c.args.work.now c.args.source_pass.now c.args.target_pass.now c.args.journal v

  passing : (v : View) → IsSeen (g.F.Folder.told c.args.folder.now) v → PassedBehind v → Passed v
  passing v seen passed =
      let work = c.args.work.now in
      let journal = c.args.journal in
      let pass = c.args.source_pass.now in
      let pass' = c.args.target_pass.now in
      let sides = c.in_ok-sides.sides in
      let loads = c.in_ok-sides.ensures in
      let once = subst (λ t. IsSeen t v) (sym c.test_source.ensures.told) seen in (
        passed.0,
        record {
          source = passed_is Failed NoMemory tt (TestsSource journal.phase work journal.source v (Ok tt)) (c.in_ok-test_source.ensures.cause v seen);
          vaults = both_open of_step v journal.source journal.target pass pass' (λ source target. TestsToResume source target journal v all_pass) sides.source sides.target loads.source loads.target (loads.opens_source v once) (loads.opens_target v once) passed.1;
        },
      )

pub returns-clause-tested : goal.returns-clause-tested
returns-clause-tested g c =
    let after = (goal.at.returns-clause-tested g c).After-resume_with in
    tested_on (g.F.Folder.told c.args.folder.now) (g.F.Folder.told c.load_both.new.folder) (g.F.Folder.told c.resume_with.new.folder) (PassedBehind g after) c.resume_with.ensures.tested (Passed g after) (c.load_both.ensures.told ∙ c.test_source.ensures.told) (passing g after)

pub returns-clause-undrawn : goal.returns-clause-undrawn
returns-clause-undrawn g c =
    let after = (goal.at.returns-clause-undrawn g c).After-resume_with in
    undrawn_on (PassedBehind g after) (Passed g after) (g.F.Folder.told c.args.folder.now) (g.F.Folder.told c.load_both.new.folder) (λ v is. subst (λ t. IsSeen t v) (sym (c.load_both.ensures.told ∙ c.test_source.ensures.told)) is) (passing g after) c.resume_with.ensures.undrawn

pub returns-in_err-test_source-clause-too_long : goal.returns-in_err-test_source-clause-too_long
returns-in_err-test_source-clause-too_long g c =
    none_compared _ c.from_residual.result _ c.from_residual.ensures.1 c.in_err-test_source.ensures.uncompared

pub returns-in_err-sides-clause-too_long : goal.returns-in_err-sides-clause-too_long
returns-in_err-sides-clause-too_long g c =
    none_compared _ c.from_residual-in_err-sides.result _ c.from_residual-in_err-sides.ensures.1 (step_tested c.in_err-sides.field-0.0).0

pub returns-clause-too_long : goal.returns-clause-too_long
returns-clause-too_long g c =
    let sides = c.in_ok-sides.sides in
    let loads = c.in_ok-sides.ensures in
    let here = g.F.Folder.told c.load_both.new.folder in
    let after = g.F.Folder.told c.resume_with.new.folder in
    let good = StayGood sides.source sides.target here after in
    let shares = SharesSeen sides.names sides.source sides.target c.args.work.now (g.R.Randoms.left c.args.random.now) (g.R.Randoms.left c.resume_with.new.random) here after in
    limit_in_tree good shares c.args.journal.names c.args.journal.source c.args.journal.target c.args.source_pass.now c.args.target_pass.now sides.source sides.target (g.F.Folder.told c.args.folder.now) after
    c.resume_with.result loads.source loads.target (λ v is. loads.opens_source v (subst (λ t. IsSeen t v) (sym c.test_source.ensures.told) is)) (λ v is. loads.opens_target v (subst (λ t. IsSeen t v) (sym c.test_source.ensures.told) is))
    (subst (λ n. EndsBy good shares n sides.source sides.target after c.resume_with.result) loads.names c.resume_with.ensures.ends)

pub returns-in_err-test_source-clause-shared : goal.returns-in_err-test_source-clause-shared
returns-in_err-test_source-clause-shared g c =
    none_taken _ c.from_residual.result _ c.from_residual.ensures.1 c.in_err-test_source.ensures.uncompared

pub returns-in_err-sides-clause-shared : goal.returns-in_err-sides-clause-shared
returns-in_err-sides-clause-shared g c =
    none_taken _ c.from_residual-in_err-sides.result _ c.from_residual-in_err-sides.ensures.1 (step_tested c.in_err-sides.field-0.0).0

pub returns-clause-shared : goal.returns-clause-shared
returns-clause-shared g c =
    let sides = c.in_ok-sides.sides in
    let loads = c.in_ok-sides.ensures in
    let from = c.args.journal.source in
    let to = c.args.journal.target in
    let work = c.args.work.now in
    let pass = c.args.source_pass.now in
    let pass' = c.args.target_pass.now in
    let left = g.R.Randoms.left c.args.random.now in
    let left' = g.R.Randoms.left c.resume_with.new.random in
    let told = g.F.Folder.told c.args.folder.now in
    let after = g.F.Folder.told c.resume_with.new.folder in
    subst (λ n. IfErr c.resume_with.result (IsOfTaken (SharesInTree n from to work pass pass' left left' told after))) loads.names
    (shared_in_tree (StayGood sides.source sides.target told after) sides.names from to work pass pass' sides.source sides.target left left' told after
    c.resume_with.result loads.source loads.target (λ v is. loads.opens_source v (subst (λ t. IsSeen t v) (sym c.test_source.ensures.told) is)) (λ v is. loads.opens_target v (subst (λ t. IsSeen t v) (sym c.test_source.ensures.told) is))
    (subst (λ t. EndsBy (StayGood sides.source sides.target t after) (SharesSeen sides.names sides.source sides.target work left left' t after) sides.names sides.source sides.target after c.resume_with.result)
    (c.load_both.ensures.told ∙ c.test_source.ensures.told) c.resume_with.ensures.ends))

pub returns-in_err-sides-clause-blamed : goal.returns-in_err-sides-clause-blamed
returns-in_err-sides-clause-blamed g c =
    let n0 = g.F.Folder.faults c.args.folder.now in
    let n1 = g.F.Folder.faults c.test_source.new.folder in
    let n2 = g.F.Folder.faults c.load_both.new.folder in
    fault_as _ c.from_residual-in_err-sides.result c.from_residual-in_err-sides.ensures.1 (step_resumes n0 n1 n2 c.in_err-sides.field-0.0 c.test_source.ensures.grows c.in_err-sides.ensures.blamed)

pub returns-in_err-test_source-clause-drew : goal.returns-in_err-test_source-clause-drew
returns-in_err-test_source-clause-drew g c = drew_refused c.draws_compose.ensures.none (g.R.Randoms.left c.args.random.now) c.from_residual.result _ c.from_residual.ensures.1 c.in_err-test_source.ensures.tested

pub returns-in_err-sides-clause-drew : goal.returns-in_err-sides-clause-drew
returns-in_err-sides-clause-drew g c = drew_refused c.draws_compose.ensures.none (g.R.Randoms.left c.args.random.now) c.from_residual-in_err-sides.result _ c.from_residual-in_err-sides.ensures.1 (step_tested c.in_err-sides.field-0.0).1

pub returns-clause-clears : goal.returns-clause-clears
returns-clause-clears g c =
    let work = c.args.work.now in
    let after = g.F.Folder.told c.resume_with.new.folder in
    on_ok_more (Clears work (g.F.Folder.told c.load_both.new.folder) after) (Clears work (g.F.Folder.told c.args.folder.now) after) c.resume_with.result
    (subst (λ t. Clears work t after) (c.load_both.ensures.told ∙ c.test_source.ensures.told)) c.resume_with.ensures.clears

pub returns-in_err-test_source-clause-journal : goal.returns-in_err-test_source-clause-journal
returns-in_err-test_source-clause-journal g c v is = texts_same (HaveToldTrees c.args.source_pass.now c.args.target_pass.now v c.args.journal) c.args.work.now c.args.journal (g.F.Folder.told c.args.folder.now) (g.F.Folder.told c.test_source.new.folder) c.test_source.ensures.told

pub returns-in_err-sides-clause-journal : goal.returns-in_err-sides-clause-journal
returns-in_err-sides-clause-journal g c v is = texts_same (HaveToldTrees c.args.source_pass.now c.args.target_pass.now v c.args.journal) c.args.work.now c.args.journal (g.F.Folder.told c.args.folder.now) (g.F.Folder.told c.load_both.new.folder) (c.load_both.ensures.told ∙ c.test_source.ensures.told)

pub returns-clause-journal : goal.returns-clause-journal
returns-clause-journal g c v is =
    let told = g.F.Folder.told c.args.folder.now in
    let here = g.F.Folder.told c.load_both.new.folder in
    let after = g.F.Folder.told c.resume_with.new.folder in
    let work = c.args.work.now in
    let journal = c.args.journal in
    let sides = c.in_ok-sides.sides in
    let loads = c.in_ok-sides.ensures in
    let pass = c.args.source_pass.now in
    let pass' = c.args.target_pass.now in
    let once = subst (λ t. IsSeen t v) (sym c.test_source.ensures.told) is in
    subst (λ t. KeepsTexts (HaveToldTrees pass pass' v journal) work journal t after) (c.load_both.ensures.told ∙ c.test_source.ensures.told)
    (texts_more (HaveMappedTree sides.names sides.source sides.target) (HaveToldTrees pass pass' v journal) work journal here after
    (λ a here_is w trees. told_trees pass pass' v w journal sides.names sides.source sides.target loads.names loads.source loads.target (loads.opens_source v once) (loads.opens_target v once) trees)
    c.resume_with.ensures.journal)

pub returns-clause-finishes : goal.returns-clause-finishes
returns-clause-finishes g c =
    let t0 = g.F.Folder.told c.args.folder.now in
    let t2 = g.F.Folder.told c.load_both.new.folder in
    let t3 = g.F.Folder.told c.resume_with.new.folder in
    let same : t2 ≡ t0 = c.load_both.ensures.told ∙ c.test_source.ensures.told in
    let sides = c.in_ok-sides.sides in
    let loads = c.in_ok-sides.ensures in
    let journal = c.args.journal in
    let at = progress_of journal.phase in
    on_ok_by (EndsEachSettled c.args.work.now c.args.source_pass.now c.args.target_pass.now t0 t3) c.resume_with.result
    (λ done is_done migration resumed opened.
    settled_ends c.args.work.now (apart_from_both c.args.work.now sides.target.root) sides.target.root migration at t0 t3
    (subst (λ t. MovesOnly c.args.work.now sides.target.root t t3) same c.resume_with.ensures.moves)
    (λ a is settled.
    let v = seen a.state in
    let shown = subst (λ t. IsSeen t v) (sym c.test_source.ensures.told) (seen_of t0 a is) in
    let again = resumes c.roots_have_one_answer.ensures c.guarded_migrations_are_seen.ensures.case c.journals_are_read_back.ensures.stands migration a.state sides.source sides.target c.args.work.now journal
    c.args.source_pass.now c.args.target_pass.now resumed (opened v (seen_of t0 a is)) c.requires.journal settled (c.requires.used v (seen_of t0 a is)) (record { stands = loads.source; loads = loads.opens_source v shown })
    (record { stands = loads.target; loads = loads.opens_target v shown }) in (
      again.found.alone,
      subst (λ t. Leads migration at Finished t t3) same (leads_of migration at Finished t2 t3 c.resume_with.result done is_done (c.resume_with.ensures.guard migration again.found.sides again.tells)),
    )))

pub returns-in_err-test_source-clause-undrawn : goal.returns-in_err-test_source-clause-undrawn
returns-in_err-test_source-clause-undrawn g c = inl (c.draws_compose.ensures.none (g.R.Randoms.left c.args.random.now))

pub returns-in_err-sides-clause-undrawn : goal.returns-in_err-sides-clause-undrawn
returns-in_err-sides-clause-undrawn g c = inl (c.draws_compose.ensures.none (g.R.Randoms.left c.args.random.now))
