use Rattle.std.proofs.Common.{◌≡◌, ◌∙◌, sym, subst, arith, Err, IfErr, List, Ok, [], inl, inr, refl, ◌∷◌}
use Rattle.migrate_core.proofs.Endings.{if_ok_more, placed_of}
use Rattle.migrate_core.specs.Moved.{HaveMappedTree, lacking}
use Rattle.folder_spec.specs.Seen.{IfSeen, IsSeen}
use Rattle.migration_spec.specs.Alone.{Finished}
use Rattle.migrate_core.specs.Leading.{Goes, progress_of}
use Rattle.migrate_core.specs.Moving.{MovesOnly}
use Rattle.migration_sides.proofs.Told.{walks_passes, walks_refused}
use Rattle.migration_sides.specs.Sides.{IsWalked}
use Rattle.tree_match.specs.Mapping.{IsMappedPlan}
use Rattle.migrate_core.proofs.Blaming.{step_resumes}
use Rattle.migrate_core.proofs.Leadings.{refused_nowhere}
use Rattle.migrate_core.proofs.Movings.{moves_nowhere}
use Rattle.migrate_core.proofs.Causing.{items_pass, items_refused}
use Rattle.migrate_core.specs.Causes.{Answer, IsOfPlacing, Moves, ResumesWith, TestsItems, TestsToResume, Unless}
use Rattle.migrate_core.specs.Faults.{of_step}
use Rattle.work_folder.specs.Entering.{Empties}
use Rattle.vault_spec.specs.Plan.{Planned}
use Rattle.migrate_core.specs.declared.placing.Done.{Done}
use Rattle.migrate_core.proofs.WrittenTrees.{nothing_written}
use Rattle.migrate_core.specs.Written.{WritesBeside, WritesBy, done_texts, lacked}
use Rattle.migrate_core.proofs.Started.{matched_held, may_begin}
use Rattle.migrate_core.specs.Copying.{MayBegin}
use Rattle.migrate_core.proofs.Limits.{ends_more, ends_uncompared}
use Rattle.migrate_core.specs.Copying.{StayGood}
use Rattle.migrate_core.specs.Limits.{EndsBy}
use Rattle.migrate_core.proofs.Sharing.{source_shares, tested_taken}
use Rattle.migrate_core.specs.Sharing.{IsFilled, SharesFrom, SharesSeen}
use Rattle.migrate_core.proofs.Drawing.{drew_refused}
use Rattle.migrate_core.proofs.resuming.resume_with.Given.{Over}
use Rattle.migrate_core.proofs.resuming.resume_with.Goals as goal
use Rattle.migrate_core.proofs.resuming.resume_with.Goals.{After-place_rest}
use Rattle.migration_sides.proofs.Chains.{fault_as, passed_is, refused_as}
use Rattle.migration_sides.specs.Tests.{all_pass}
use Rattle.migrate_core.specs.declared.fault.MoveFault.TheVariants.{Failed, NoMemory}
use Rattle.migrate_core.proofs.Tested.{moves_places, step_tested}
use Rattle.migrate_core.proofs.Lastings.{on_ok_more, texts_same}
use Rattle.migrate_core.specs.Lasting.{Clears, KeepsTexts}

pub returns-in_err-plans-clause-guard : goal.returns-in_err-plans-clause-guard
returns-in_err-plans-clause-guard g c migration sides tells = refused_nowhere _ migration (progress_of c.args.journal.phase) Finished _ _ c.from_residual.result c.from_residual.ensures.1 c.walk_both.ensures.told

pub returns-in_err-plans-clause-moves : goal.returns-in_err-plans-clause-moves
returns-in_err-plans-clause-moves g c = moves_nowhere c.args.work.now _ c.args.sides.now.target.root _ _ c.walk_both.ensures.told

pub test_plans-requires-clause-source : goal.test_plans-requires-clause-source
test_plans-requires-clause-source g c = subst (λ t. IsWalked t c.args.sides.now.source c.in_ok-plans.plans.source.items) (sym c.walk_both.ensures.told) c.in_ok-plans.ensures.source

pub test_plans-requires-clause-target : goal.test_plans-requires-clause-target
test_plans-requires-clause-target g c = subst (λ t. IsWalked t c.args.sides.now.target c.in_ok-plans.plans.target.items) (sym c.walk_both.ensures.told) c.in_ok-plans.ensures.target

pub returns-in_err-mapped-clause-guard : goal.returns-in_err-mapped-clause-guard
returns-in_err-mapped-clause-guard g c migration sides tells = refused_nowhere _ migration (progress_of c.args.journal.phase) Finished _ _ c.from_residual-in_err-mapped.result c.from_residual-in_err-mapped.ensures.1 (c.test_plans.ensures.told ∙ c.walk_both.ensures.told)

pub returns-in_err-mapped-clause-moves : goal.returns-in_err-mapped-clause-moves
returns-in_err-mapped-clause-moves g c = moves_nowhere c.args.work.now _ c.args.sides.now.target.root _ _ (c.test_plans.ensures.told ∙ c.walk_both.ensures.told)

pub place_rest-requires-clause-used : goal.place_rest-requires-clause-used
place_rest-requires-clause-used g c = λ v seen. c.requires.used v (subst (λ t. IsSeen t v) (c.test_plans.ensures.told ∙ c.walk_both.ensures.told) seen)

pub place_rest-requires-clause-source : goal.place_rest-requires-clause-source
place_rest-requires-clause-source g c = record {
  walked = subst (λ t. IsWalked t c.args.sides.now.source c.in_ok-plans.plans.source.items) (sym (c.test_plans.ensures.told ∙ c.walk_both.ensures.told)) c.in_ok-plans.ensures.source;
  same = c.in_ok-mapped.ensures.mapped;
}

pub place_rest-requires-clause-target : goal.place_rest-requires-clause-target
place_rest-requires-clause-target g c = subst (λ t. IsWalked t c.args.sides.now.target c.in_ok-plans.plans.target.items) (sym (c.test_plans.ensures.told ∙ c.walk_both.ensures.told)) c.in_ok-plans.ensures.target

pub returns-clause-guard : goal.returns-clause-guard
returns-clause-guard g c = λ migration sides tells.
    subst (λ t. Goes migration (progress_of c.args.journal.phase) Finished t (g.F.Folder.told c.place_rest.new.folder) c.place_rest.result) (c.test_plans.ensures.told ∙ c.walk_both.ensures.told)
    (c.place_rest.ensures.guard migration sides tells)

pub returns-clause-moves : goal.returns-clause-moves
returns-clause-moves g c =
    subst (λ t. MovesOnly c.args.work.now c.args.sides.now.target.root t (g.F.Folder.told c.place_rest.new.folder)) (c.test_plans.ensures.told ∙ c.walk_both.ensures.told) c.place_rest.ensures.moves

pub returns-clause-placed : goal.returns-clause-placed
returns-clause-placed g c =
    let told = g.F.Folder.told c.args.folder.now in
    let items = c.in_ok-plans.plans.source.items in
    let there = c.in_ok-plans.plans.target.items in
    let mapped = c.in_ok-mapped.mapped.items in
    placed_of c.args.sides.now.names c.args.sides.now.source c.args.sides.now.target items mapped there told c.place_rest.result
    (record { walked = c.in_ok-plans.ensures.source; same = c.in_ok-mapped.ensures.mapped }) c.in_ok-plans.ensures.target
    (if_ok_more (λ done. IfSeen (g.F.Folder.told c.test_plans.new.folder) (λ v. done.placed ≡ lacking there mapped)) (λ done. IfSeen told (λ v. done.placed ≡ lacking there mapped)) c.place_rest.result
    (λ done is v seen. is v (subst (λ t. IsSeen t v) (sym (c.test_plans.ensures.told ∙ c.walk_both.ensures.told)) seen)) c.place_rest.ensures.placed)

pub returns-in_err-plans-clause-cause : goal.returns-in_err-plans-clause-cause
returns-in_err-plans-clause-cause g c v seen =
    let from = c.args.sides.now.source in
    let to = c.args.sides.now.target in
    let work = c.args.work.now in
    let journal = c.args.journal in
    let next : List Planned → List Planned → Answer Done → Type 0 = λ items there. TestsItems from to journal v items there (λ mapped. Moves (Empties v work) from to v mapped) in
    refused_as (λ answer. Unless answer (ResumesWith from to work journal v answer)) c.from_residual.result c.from_residual.ensures.1 (walks_refused of_step from to v next c.in_err-plans.field-0.0 (c.in_err-plans.ensures.cause v seen))

pub returns-in_err-mapped-clause-cause : goal.returns-in_err-mapped-clause-cause
returns-in_err-mapped-clause-cause g c v seen =
    let from = c.args.sides.now.source in
    let to = c.args.sides.now.target in
    let work = c.args.work.now in
    let journal = c.args.journal in
    let moves : List Planned → Answer Done → Type 0 = λ mapped. Moves (Empties v work) from to v mapped in
    let next : List Planned → List Planned → Answer Done → Type 0 = λ items there. TestsItems from to journal v items there moves in
    let plans = c.in_ok-plans.plans in
    let items = plans.source.items in
    let there = plans.target.items in
    let fault = c.in_err-mapped.field-0.0 in
    refused_as (λ answer. Unless answer (ResumesWith from to work journal v answer)) c.from_residual-in_err-mapped.result c.from_residual-in_err-mapped.ensures.1
    (walks_passes of_step from to v next (Err fault) items there (c.in_ok-plans.ensures.passed_source v seen) (c.in_ok-plans.ensures.passed_target v seen)
    (items_refused from to journal v items there moves fault (c.in_err-mapped.ensures.cause v (subst (λ t. IsSeen t v) (sym c.walk_both.ensures.told) seen))))

pub returns-clause-cause : goal.returns-clause-cause
returns-clause-cause g c v seen =
    let from = c.args.sides.now.source in
    let to = c.args.sides.now.target in
    let work = c.args.work.now in
    let journal = c.args.journal in
    let moves : List Planned → Answer Done → Type 0 = λ mapped. Moves (Empties v work) from to v mapped in
    let next : List Planned → List Planned → Answer Done → Type 0 = λ items there. TestsItems from to journal v items there moves in
    let plans = c.in_ok-plans.plans in
    let items = plans.source.items in
    let there = plans.target.items in
    let answer = c.place_rest.result in
    let once = subst (λ t. IsSeen t v) (sym c.walk_both.ensures.told) seen in
    walks_passes of_step from to v next answer items there (c.in_ok-plans.ensures.passed_source v seen) (c.in_ok-plans.ensures.passed_target v seen)
    (items_pass from to journal v items there moves c.in_ok-mapped.mapped.items answer (c.in_ok-mapped.ensures.passed v once)
    (c.place_rest.ensures.cause v (subst (λ t. IsSeen t v) (sym c.test_plans.ensures.told) once)))

pub returns-in_err-plans-clause-written : goal.returns-in_err-plans-clause-written
returns-in_err-plans-clause-written g c v seen =
    inl (nothing_written c.from_residual.result _ c.from_residual.ensures.1 (step_tested c.in_err-plans.field-0.0).1 _ _ _ (c.draws_compose.ensures.none _) c.walk_both.ensures.told)

pub returns-in_err-mapped-clause-written : goal.returns-in_err-mapped-clause-written
returns-in_err-mapped-clause-written g c v seen =
    inl (nothing_written c.from_residual-in_err-mapped.result _ c.from_residual-in_err-mapped.ensures.1 c.in_err-mapped.ensures.tested _ _ _ (c.draws_compose.ensures.none _) (c.test_plans.ensures.told ∙ c.walk_both.ensures.told))

pub returns-clause-written : goal.returns-clause-written
returns-clause-written g c v seen =
    let told = g.F.Folder.told c.args.folder.now in
    let left = g.R.Randoms.left c.args.random.now in
    let from = c.args.sides.now.source in
    let to = c.args.sides.now.target in
    let plans = c.in_ok-plans.plans in
    let journal = c.args.journal in
    let items = plans.source.items in
    let there = plans.target.items in
    let after = g.F.Folder.told c.place_rest.new.folder in
    let left2 = g.R.Randoms.left c.place_rest.new.random in
    let same = c.test_plans.ensures.told ∙ c.walk_both.ensures.told in
    let mapped = c.in_ok-mapped.mapped.items in
    inr (record {
      items = items;
      mapped = mapped;
      there = there;
      items_are = c.in_ok-plans.ensures.source.plan;
      mapped_are = subst (λ n. IsMappedPlan n items mapped) (sym c.requires.names_named) c.in_ok-mapped.ensures.mapped;
      there_are = c.in_ok-plans.ensures.target.plan;
      unready = elim c.place_rest.ensures.unready [
        | inl beside ↦ inl (subst (λ t. WritesBeside to.root (λ file. ⊥) t after) same beside)
        | inr empties ↦ inr (λ w is. empties w (subst (λ t. IsSeen t w) (sym same) is))
      ];
      writes = subst (λ t. WritesBy c.place_rest.result from to (lacked there mapped) (done_texts journal) left left2 t after) same (c.place_rest.ensures.written v (subst (λ t. IsSeen t v) (sym same) seen));
    })

pub returns-in_err-plans-clause-tested : goal.returns-in_err-plans-clause-tested
returns-in_err-plans-clause-tested g c = inl c.walk_both.ensures.told

pub returns-in_err-mapped-clause-tested : goal.returns-in_err-mapped-clause-tested
returns-in_err-mapped-clause-tested g c = inl (c.test_plans.ensures.told ∙ c.walk_both.ensures.told)

-- all tests pass where it comes to the end
module _ (g : Over) (c : After-place_rest g) where
  all_passed : IfSeen (g.F.Folder.told c.args.folder.now) (λ v. IfErr c.place_rest.result IsOfPlacing × TestsToResume c.args.sides.now.source c.args.sides.now.target c.args.journal v all_pass (Ok tt))
  all_passed v seen =
      let from = c.args.sides.now.source in
      let to = c.args.sides.now.target in
      let journal = c.args.journal in
      let items = c.in_ok-plans.plans.source.items in
      let there = c.in_ok-plans.plans.target.items in
      let once = subst (λ t. IsSeen t v) (sym c.walk_both.ensures.told) seen in
      let moved = c.place_rest.ensures.cause v (subst (λ t. IsSeen t v) (sym c.test_plans.ensures.told) once) in
      let passed : TestsToResume from to journal v all_pass (Ok tt) = passed_is Failed NoMemory tt (TestsToResume from to journal v all_pass (Ok tt))
      (walks_passes of_step from to v (λ items there. TestsItems from to journal v items there all_pass) (Ok tt) items there (c.in_ok-plans.ensures.passed_source v seen) (c.in_ok-plans.ensures.passed_target v seen)
      (items_pass from to journal v items there all_pass c.in_ok-mapped.mapped.items (Ok tt) (c.in_ok-mapped.ensures.passed v once) (inr (inr refl)))) in
      (moves_places (Empties v c.args.work.now) from to v c.in_ok-mapped.mapped.items c.place_rest.result moved, passed)

pub returns-clause-tested : goal.returns-clause-tested
returns-clause-tested g c = inr (all_passed g (goal.at.returns-clause-tested g c).After-place_rest)

pub returns-clause-undrawn : goal.returns-clause-undrawn
returns-clause-undrawn g c = inr (all_passed g (goal.at.returns-clause-undrawn g c).After-place_rest)

pub place_rest-requires-clause-copying : goal.place_rest-requires-clause-copying
place_rest-requires-clause-copying g c =
    let rule = c.args.sides.now.names in
    let from = c.args.sides.now.source in
    let to = c.args.sides.now.target in
    let told = g.F.Folder.told c.args.folder.now in
    let plans = c.in_ok-plans.plans in
    subst (MayBegin rule from to plans.target.items) (sym (c.test_plans.ensures.told ∙ c.walk_both.ensures.told))
    (may_begin c.walks_tell_the_tree.ensures.plan rule from to (c.clean_vaults_are_orderly.ensures from.vault) (c.clean_vaults_are_orderly.ensures to.vault) plans.source.items plans.target.items told (g.met.F.Folder.sound c.args.folder.now)
    c.in_ok-plans.ensures.source c.in_ok-plans.ensures.target c.in_ok-plans.ensures.passed_source
    (matched_held c.what_is_held_opens_the_same.ensures.part rule from to c.args.journal plans.source.items c.in_ok-mapped.mapped.items plans.target.items told c.in_ok-mapped.ensures.mapped
    (λ v is. c.in_ok-mapped.ensures.passed v (subst (λ t. IsSeen t v) (sym c.walk_both.ensures.told) is))))

pub returns-in_err-plans-clause-ends : goal.returns-in_err-plans-clause-ends
returns-in_err-plans-clause-ends g c =
    ends_uncompared _ _ c.args.sides.now.names c.args.sides.now.source c.args.sides.now.target (g.F.Folder.told c.walk_both.new.folder) c.from_residual.result _ c.from_residual.ensures.1 (step_tested c.in_err-plans.field-0.0).0

pub returns-in_err-mapped-clause-ends : goal.returns-in_err-mapped-clause-ends
returns-in_err-mapped-clause-ends g c =
    let rule = c.args.sides.now.names in
    let from = c.args.sides.now.source in
    let to = c.args.sides.now.target in
    let told = g.F.Folder.told c.args.folder.now in
    let here = g.F.Folder.told c.test_plans.new.folder in
    let left = g.R.Randoms.left c.args.random.now in
    let shares = SharesSeen rule from to c.args.work.now left left told here in
    refused_as (λ answer. EndsBy (StayGood from to told here) shares rule from to here answer) c.from_residual-in_err-mapped.result c.from_residual-in_err-mapped.ensures.1
    ((λ v is. c.in_err-mapped.ensures.limit v (subst (λ t. IsSeen t v) c.test_plans.ensures.told is)), tested_taken shares c.in_err-mapped.field-0.0 c.in_err-mapped.ensures.tested)

pub returns-clause-ends : goal.returns-clause-ends
returns-clause-ends g c =
    let rule = c.args.sides.now.names in
    let from = c.args.sides.now.source in
    let to = c.args.sides.now.target in
    let work = c.args.work.now in
    let plans = c.in_ok-plans.plans in
    let mapped = c.in_ok-mapped.mapped.items in
    let there = plans.target.items in
    let told = g.F.Folder.told c.args.folder.now in
    let after = g.F.Folder.told c.place_rest.new.folder in
    let left = g.R.Randoms.left c.args.random.now in
    let left' = g.R.Randoms.left c.place_rest.new.random in
    let same = c.test_plans.ensures.told ∙ c.walk_both.ensures.told in
    let may = may_begin c.walks_tell_the_tree.ensures.plan rule from to (c.clean_vaults_are_orderly.ensures from.vault) (c.clean_vaults_are_orderly.ensures to.vault) plans.source.items there told (g.met.F.Folder.sound c.args.folder.now)
    c.in_ok-plans.ensures.source c.in_ok-plans.ensures.target c.in_ok-plans.ensures.passed_source
    (matched_held c.what_is_held_opens_the_same.ensures.part rule from to c.args.journal plans.source.items mapped there told c.in_ok-mapped.ensures.mapped
    (λ v is. c.in_ok-mapped.ensures.passed v (subst (λ t. IsSeen t v) (sym c.walk_both.ensures.told) is))) in
    ends_more (StayGood from to told after) (StayGood from to told after) (SharesFrom (IsFilled rule from to there) to work mapped left left' told after) (SharesSeen rule from to work left left' told after) rule from to after c.place_rest.result (λ good. good)
    (source_shares c.walks_tell_the_tree.ensures.plan rule from to work plans.source.items mapped there left left' told after may
    (record { walked = c.in_ok-plans.ensures.source; same = c.in_ok-mapped.ensures.mapped }) c.in_ok-plans.ensures.target)
    (subst (λ t. EndsBy (StayGood from to t after) (SharesFrom (IsFilled rule from to there) to work mapped left left' t after) rule from to after c.place_rest.result) same c.place_rest.ensures.ends)

pub returns-in_err-plans-clause-blamed : goal.returns-in_err-plans-clause-blamed
returns-in_err-plans-clause-blamed g c =
    let n0 = g.F.Folder.faults c.args.folder.now in
    let n1 = g.F.Folder.faults c.walk_both.new.folder in
    fault_as _ c.from_residual.result c.from_residual.ensures.1 (step_resumes n0 n0 n1 c.in_err-plans.field-0.0 (omega arith) c.in_err-plans.ensures.blamed)

pub returns-in_err-plans-clause-drew : goal.returns-in_err-plans-clause-drew
returns-in_err-plans-clause-drew g c = drew_refused c.draws_compose.ensures.none (g.R.Randoms.left c.args.random.now) c.from_residual.result _ c.from_residual.ensures.1 (step_tested c.in_err-plans.field-0.0).1

pub returns-in_err-mapped-clause-drew : goal.returns-in_err-mapped-clause-drew
returns-in_err-mapped-clause-drew g c = drew_refused c.draws_compose.ensures.none (g.R.Randoms.left c.args.random.now) c.from_residual-in_err-mapped.result _ c.from_residual-in_err-mapped.ensures.1 c.in_err-mapped.ensures.tested

pub returns-clause-clears : goal.returns-clause-clears
returns-clause-clears g c =
    let work = c.args.work.now in
    let after = g.F.Folder.told c.place_rest.new.folder in
    on_ok_more (Clears work (g.F.Folder.told c.test_plans.new.folder) after) (Clears work (g.F.Folder.told c.args.folder.now) after) c.place_rest.result
    (subst (λ t. Clears work t after) (c.test_plans.ensures.told ∙ c.walk_both.ensures.told)) c.place_rest.ensures.clears

pub returns-in_err-plans-clause-journal : goal.returns-in_err-plans-clause-journal
returns-in_err-plans-clause-journal g c = texts_same (HaveMappedTree c.args.sides.now.names c.args.sides.now.source c.args.sides.now.target) c.args.work.now c.args.journal (g.F.Folder.told c.args.folder.now) (g.F.Folder.told c.walk_both.new.folder) c.walk_both.ensures.told

pub returns-in_err-mapped-clause-journal : goal.returns-in_err-mapped-clause-journal
returns-in_err-mapped-clause-journal g c = texts_same (HaveMappedTree c.args.sides.now.names c.args.sides.now.source c.args.sides.now.target) c.args.work.now c.args.journal (g.F.Folder.told c.args.folder.now) (g.F.Folder.told c.test_plans.new.folder) (c.test_plans.ensures.told ∙ c.walk_both.ensures.told)

pub returns-clause-journal : goal.returns-clause-journal
returns-clause-journal g c = subst (λ t. KeepsTexts (HaveMappedTree c.args.sides.now.names c.args.sides.now.source c.args.sides.now.target) c.args.work.now c.args.journal t (g.F.Folder.told c.place_rest.new.folder)) (c.test_plans.ensures.told ∙ c.walk_both.ensures.told) c.place_rest.ensures.journal

pub returns-in_err-plans-clause-undrawn : goal.returns-in_err-plans-clause-undrawn
returns-in_err-plans-clause-undrawn g c = inl (c.draws_compose.ensures.none (g.R.Randoms.left c.args.random.now))

pub returns-in_err-mapped-clause-undrawn : goal.returns-in_err-mapped-clause-undrawn
returns-in_err-mapped-clause-undrawn g c = inl (c.draws_compose.ensures.none (g.R.Randoms.left c.args.random.now))
