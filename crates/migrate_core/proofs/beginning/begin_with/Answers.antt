use Rattle.std.proofs.Common.{◌≡◌, ◌∙◌, [], sym, ap, subst, arith, Err, IfErr, List, Ok, inl, inr, refl}
use Rattle.folder_spec.specs.Seen.{IfSeen, IsSeen}
use Rattle.migrate_core.proofs.Endings.{if_ok_more, placed_of}
use Rattle.migrate_core.specs.Moved.{lacking}
use Rattle.migration_spec.specs.Alone.{Unbegun, Finished}
use Rattle.vault_spec.specs.Vault.{format_of}
use Rattle.migrate_core.specs.Leading.{Goes}
use Rattle.migrate_core.specs.Moving.{MovesOnly}
use Rattle.migration_sides.proofs.Told.{walks_passes, walks_refused}
use Rattle.migration_sides.specs.Sides.{IsWalked}
use Rattle.migration_sides.specs.Tests.{Then, all_pass, own}
use Rattle.migrate_core.proofs.Blaming.{step_begins}
use Rattle.migrate_core.proofs.Leadings.{refused_nowhere}
use Rattle.migrate_core.proofs.Movings.{moves_nowhere}
use Rattle.migrate_core.proofs.Causing.{mapped_pass, mapped_refused}
use Rattle.migrate_core.specs.Causes.{Answer, BeginsWith, IsOfPlacing, Moves, TestsEmpty, TestsMapped, TestsToBegin, Unless}
use Rattle.migrate_core.specs.Faults.{of_step}
use Rattle.work_folder.specs.Entering.{EntersAs}
use Rattle.migrate_core.specs.declared.placing.Done.{Done}
use Rattle.vault_spec.specs.Plan.{Planned}
use Rattle.migrate_core.proofs.WrittenTrees.{nothing_written}
use Rattle.migrate_core.specs.Written.{WritesBeside, WritesBy, journal_texts, lacked}
use Rattle.migrate_core.proofs.Started.{empty_held, may_begin}
use Rattle.migrate_core.specs.Copying.{MayBegin}
use Rattle.migrate_core.proofs.Limits.{ends_more, ends_uncompared}
use Rattle.migrate_core.specs.Copying.{StayGood}
use Rattle.migrate_core.specs.Limits.{EndsBy}
use Rattle.migrate_core.proofs.Sharing.{source_shares}
use Rattle.migrate_core.specs.Sharing.{IsFilled, SharesFrom, SharesSeen}
use Rattle.migrate_core.proofs.Drawing.{drew_refused}
use Rattle.migrate_core.proofs.beginning.begin_with.Given.{Over}
use Rattle.migrate_core.proofs.beginning.begin_with.Goals as goal
use Rattle.migrate_core.proofs.beginning.begin_with.Goals.{After-move_all}
use Rattle.migration_sides.proofs.Chains.{fault_as, own_passes, own_refused, passed_is, refused_as}
use Rattle.migrate_core.specs.declared.fault.MoveFault.TheVariants.{Failed, NoMemory}
use Rattle.migrate_core.proofs.Tested.{moves_places, step_tested}
use Rattle.migrate_core.proofs.Bringing.{unbrought_between}
use Rattle.migrate_core.proofs.Lastings.{texts_same}
use Rattle.migrate_core.specs.Lasting.{BringsBetween}

pub returns-in_err-plans-clause-guard : goal.returns-in_err-plans-clause-guard
returns-in_err-plans-clause-guard g c m sides = refused_nowhere _ m Unbegun Finished _ _ c.from_residual.result c.from_residual.ensures.1 c.walk_both.ensures.told

pub returns-in_err-plans-clause-moves : goal.returns-in_err-plans-clause-moves
returns-in_err-plans-clause-moves g c = moves_nowhere c.args.work.now _ c.args.sides.now.target.root _ _ c.walk_both.ensures.told

pub returns-in_err-test_empty-clause-guard : goal.returns-in_err-test_empty-clause-guard
returns-in_err-test_empty-clause-guard g c m sides = refused_nowhere _ m Unbegun Finished _ _ c.from_residual-in_err-test_empty.result c.from_residual-in_err-test_empty.ensures.1 c.walk_both.ensures.told

pub returns-in_err-test_empty-clause-moves : goal.returns-in_err-test_empty-clause-moves
returns-in_err-test_empty-clause-moves g c = moves_nowhere c.args.work.now _ c.args.sides.now.target.root _ _ c.walk_both.ensures.told

pub returns-in_err-mapped-clause-guard : goal.returns-in_err-mapped-clause-guard
returns-in_err-mapped-clause-guard g c m sides = refused_nowhere _ m Unbegun Finished _ _ c.from_residual-in_err-mapped.result c.from_residual-in_err-mapped.ensures.1 c.walk_both.ensures.told

pub returns-in_err-mapped-clause-moves : goal.returns-in_err-mapped-clause-moves
returns-in_err-mapped-clause-moves g c = moves_nowhere c.args.work.now _ c.args.sides.now.target.root _ _ c.walk_both.ensures.told

pub move_all-requires-clause-walked : goal.move_all-requires-clause-walked
move_all-requires-clause-walked g c = record {
  walked = subst (λ t. IsWalked t c.args.sides.now.source c.in_ok-plans.plans.source.items) (sym c.walk_both.ensures.told) c.in_ok-plans.ensures.source;
  same = c.in_ok-mapped.ensures.mapped;
}

pub returns-clause-guard : goal.returns-clause-guard
returns-clause-guard g c = λ migration sides.
    subst (λ t. Goes migration Unbegun Finished t (g.F.Folder.told c.move_all.new.folder) c.move_all.result) c.walk_both.ensures.told (c.move_all.ensures.guard migration sides)

pub returns-clause-moves : goal.returns-clause-moves
returns-clause-moves g c = subst (λ t. MovesOnly c.args.work.now c.args.sides.now.target.root t (g.F.Folder.told c.move_all.new.folder)) c.walk_both.ensures.told c.move_all.ensures.moves

pub returns-clause-placed : goal.returns-clause-placed
returns-clause-placed g c =
    let told = g.F.Folder.told c.args.folder.now in
    let plans = c.in_ok-plans.plans in
    let mapped = c.in_ok-mapped.mapped.items in
    placed_of c.args.sides.now.names c.args.sides.now.source c.args.sides.now.target plans.source.items mapped plans.target.items told c.move_all.result
    (record { walked = c.in_ok-plans.ensures.source; same = c.in_ok-mapped.ensures.mapped }) c.in_ok-plans.ensures.target
    (if_ok_more (λ done. IfSeen (g.F.Folder.told c.walk_both.new.folder) (λ v. done.placed ≡ lacking [] mapped))
    (λ done. IfSeen told (λ v. done.placed ≡ lacking plans.target.items mapped)) c.move_all.result
    (λ done is v seen. is v (subst (λ t. IsSeen t v) (sym c.walk_both.ensures.told) seen) ∙ ap (λ there. lacking there mapped) (sym (sym c.as_slice.ensures ∙ c.in_ok-test_empty.ensures.empty)))
    c.move_all.ensures.placed)

pub returns-in_err-plans-clause-cause : goal.returns-in_err-plans-clause-cause
returns-in_err-plans-clause-cause g c v seen =
    let from = c.args.sides.now.source in
    let to = c.args.sides.now.target in
    let rule = c.args.sides.now.names in
    let moves : List Planned → Answer Done → Type 0 = λ mapped. Moves (EntersAs v c.args.work.now) from to v mapped in
    let next : List Planned → List Planned → Answer Done → Type 0 = λ items there. Then own (TestsEmpty there) (λ _. TestsMapped rule (format_of to.vault) items moves) in
    refused_as (λ answer. Unless answer (BeginsWith rule from to c.args.work.now v answer)) c.from_residual.result c.from_residual.ensures.1 (walks_refused of_step from to v next c.in_err-plans.field-0.0 (c.in_err-plans.ensures.cause v seen))

pub returns-in_err-test_empty-clause-cause : goal.returns-in_err-test_empty-clause-cause
returns-in_err-test_empty-clause-cause g c v seen =
    let from = c.args.sides.now.source in
    let to = c.args.sides.now.target in
    let rule = c.args.sides.now.names in
    let moves : List Planned → Answer Done → Type 0 = λ mapped. Moves (EntersAs v c.args.work.now) from to v mapped in
    let next : List Planned → List Planned → Answer Done → Type 0 = λ items there. Then own (TestsEmpty there) (λ _. TestsMapped rule (format_of to.vault) items moves) in
    let plans = c.in_ok-plans.plans in
    let fault = c.in_err-test_empty.field-0.0 in
    refused_as (λ answer. Unless answer (BeginsWith rule from to c.args.work.now v answer)) c.from_residual-in_err-test_empty.result c.from_residual-in_err-test_empty.ensures.1
    (walks_passes of_step from to v next (Err fault) plans.source.items plans.target.items (c.in_ok-plans.ensures.passed_source v seen) (c.in_ok-plans.ensures.passed_target v seen)
    (own_refused Failed NoMemory (TestsEmpty plans.target.items) (λ _. TestsMapped rule (format_of to.vault) plans.source.items moves) fault
    (subst (λ items. Unless {X = Unit {0}} (Err fault) (TestsEmpty items (Err fault))) c.as_slice.ensures c.in_err-test_empty.ensures.cause)))

pub returns-in_err-mapped-clause-cause : goal.returns-in_err-mapped-clause-cause
returns-in_err-mapped-clause-cause g c v seen =
    let from = c.args.sides.now.source in
    let to = c.args.sides.now.target in
    let rule = c.args.sides.now.names in
    let moves : List Planned → Answer Done → Type 0 = λ mapped. Moves (EntersAs v c.args.work.now) from to v mapped in
    let next : List Planned → List Planned → Answer Done → Type 0 = λ items there. Then own (TestsEmpty there) (λ _. TestsMapped rule (format_of to.vault) items moves) in
    let plans = c.in_ok-plans.plans in
    let fault = c.in_err-mapped.field-0.0 in
    refused_as (λ answer. Unless answer (BeginsWith rule from to c.args.work.now v answer)) c.from_residual-in_err-mapped.result c.from_residual-in_err-mapped.ensures.1
    (walks_passes of_step from to v next (Err fault) plans.source.items plans.target.items (c.in_ok-plans.ensures.passed_source v seen) (c.in_ok-plans.ensures.passed_target v seen)
    (own_passes Failed NoMemory (TestsEmpty plans.target.items) (λ _. TestsMapped rule (format_of to.vault) plans.source.items moves) (Err fault) tt
    (subst (λ items. Unless {X = Unit {0}} (Ok tt) (TestsEmpty items (Ok tt))) c.as_slice.ensures c.in_ok-test_empty.ensures.cause)
    (mapped_refused rule (format_of to.vault) plans.source.items moves fault c.in_err-mapped.ensures.cause)))

pub returns-clause-cause : goal.returns-clause-cause
returns-clause-cause g c v seen =
    let from = c.args.sides.now.source in
    let to = c.args.sides.now.target in
    let rule = c.args.sides.now.names in
    let moves : List Planned → Answer Done → Type 0 = λ mapped. Moves (EntersAs v c.args.work.now) from to v mapped in
    let next : List Planned → List Planned → Answer Done → Type 0 = λ items there. Then own (TestsEmpty there) (λ _. TestsMapped rule (format_of to.vault) items moves) in
    let plans = c.in_ok-plans.plans in
    walks_passes of_step from to v next c.move_all.result plans.source.items plans.target.items (c.in_ok-plans.ensures.passed_source v seen) (c.in_ok-plans.ensures.passed_target v seen)
    (own_passes Failed NoMemory (TestsEmpty plans.target.items) (λ _. TestsMapped rule (format_of to.vault) plans.source.items moves) c.move_all.result tt
    (subst (λ items. Unless {X = Unit {0}} (Ok tt) (TestsEmpty items (Ok tt))) c.as_slice.ensures c.in_ok-test_empty.ensures.cause)
    (mapped_pass rule (format_of to.vault) plans.source.items moves c.move_all.result c.in_ok-mapped.mapped c.in_ok-mapped.ensures.passed c.in_ok-mapped.ensures.maps
    (c.move_all.ensures.cause v (subst (λ t. IsSeen t v) (sym c.walk_both.ensures.told) seen))))

pub returns-in_err-plans-clause-written : goal.returns-in_err-plans-clause-written
returns-in_err-plans-clause-written g c =
    inl (nothing_written c.from_residual.result _ c.from_residual.ensures.1 (step_tested c.in_err-plans.field-0.0).1 _ _ _ (c.draws_compose.ensures.none _) c.walk_both.ensures.told)

pub returns-in_err-test_empty-clause-written : goal.returns-in_err-test_empty-clause-written
returns-in_err-test_empty-clause-written g c =
    inl (nothing_written c.from_residual-in_err-test_empty.result _ c.from_residual-in_err-test_empty.ensures.1 c.in_err-test_empty.ensures.tested _ _ _ (c.draws_compose.ensures.none _) c.walk_both.ensures.told)

pub returns-in_err-mapped-clause-written : goal.returns-in_err-mapped-clause-written
returns-in_err-mapped-clause-written g c =
    inl (nothing_written c.from_residual-in_err-mapped.result _ c.from_residual-in_err-mapped.ensures.1 c.in_err-mapped.ensures.tested _ _ _ (c.draws_compose.ensures.none _) c.walk_both.ensures.told)

pub returns-clause-written : goal.returns-clause-written
returns-clause-written g c =
    let left = g.R.Randoms.left c.args.random.now in
    let from = c.args.sides.now.source in
    let to = c.args.sides.now.target in
    let plans = c.in_ok-plans.plans in
    let after = g.F.Folder.told c.move_all.new.folder in
    let left2 = g.R.Randoms.left c.move_all.new.random in
    let rule = c.args.sides.now.names in
    let mapped = c.in_ok-mapped.mapped.items in
    inr (record {
      items = plans.source.items;
      mapped = mapped;
      there = plans.target.items;
      items_are = c.in_ok-plans.ensures.source.plan;
      mapped_are = c.in_ok-mapped.ensures.mapped;
      there_are = c.in_ok-plans.ensures.target.plan;
      unready = elim c.move_all.ensures.unready [
        | inl beside ↦ inl (subst (λ t. WritesBeside to.root (λ file. ⊥) t after) c.walk_both.ensures.told beside)
        | inr empties ↦ inr (λ v is. empties v (subst (λ t. IsSeen t v) (sym c.walk_both.ensures.told) is))
      ];
      writes = subst (λ t. WritesBy c.move_all.result from to (lacked plans.target.items mapped) (journal_texts rule from.root to.root plans.source.items) left left2 t after) c.walk_both.ensures.told
          (subst (λ there. WritesBy c.move_all.result from to (lacked there mapped) (journal_texts rule from.root to.root plans.source.items) left left2 (g.F.Folder.told c.walk_both.new.folder) after)
          (sym (sym c.as_slice.ensures ∙ c.in_ok-test_empty.ensures.empty)) c.move_all.ensures.written);
    })

pub returns-in_err-plans-clause-tested : goal.returns-in_err-plans-clause-tested
returns-in_err-plans-clause-tested g c = inl c.walk_both.ensures.told

pub returns-in_err-test_empty-clause-tested : goal.returns-in_err-test_empty-clause-tested
returns-in_err-test_empty-clause-tested g c = inl c.walk_both.ensures.told

pub returns-in_err-mapped-clause-tested : goal.returns-in_err-mapped-clause-tested
returns-in_err-mapped-clause-tested g c = inl c.walk_both.ensures.told

-- all tests pass where it comes to the end
module _ (g : Over) (c : After-move_all g) where
  all_passed : IfSeen (g.F.Folder.told c.args.folder.now) (λ v. IfErr c.move_all.result IsOfPlacing × TestsToBegin c.args.sides.now.names c.args.sides.now.source c.args.sides.now.target v all_pass (Ok tt))
  all_passed v seen =
      let plans = c.in_ok-plans.plans in
      let moved = c.move_all.ensures.cause v (subst (λ t. IsSeen t v) (sym c.walk_both.ensures.told) seen) in
      let empty : TestsEmpty plans.target.items (Ok tt) = subst (λ items. TestsEmpty items (Ok tt)) c.as_slice.ensures (passed_is Failed NoMemory tt (TestsEmpty c.as_slice.result.now (Ok tt)) c.in_ok-test_empty.ensures.cause) in (
        moves_places (EntersAs v c.args.work.now) c.args.sides.now.source c.args.sides.now.target v c.in_ok-mapped.mapped.items c.move_all.result moved,
        (
          Ok plans.source.items,
          c.in_ok-plans.ensures.passed_source v seen,
          (
            Ok plans.target.items,
            c.in_ok-plans.ensures.passed_target v seen,
            (Ok tt, empty, (Ok tt, c.in_ok-mapped.ensures.passed, (Ok c.in_ok-mapped.mapped, c.in_ok-mapped.ensures.maps, refl))),
          ),
        ),
      )

pub returns-clause-tested : goal.returns-clause-tested
returns-clause-tested g c = inr (all_passed g (goal.at.returns-clause-tested g c).After-move_all)

pub returns-clause-undrawn : goal.returns-clause-undrawn
returns-clause-undrawn g c = inr (all_passed g (goal.at.returns-clause-undrawn g c).After-move_all)

pub move_all-requires-clause-copying : goal.move_all-requires-clause-copying
move_all-requires-clause-copying g c =
    let from = c.args.sides.now.source in
    let to = c.args.sides.now.target in
    let rule = c.args.sides.now.names in
    let told = g.F.Folder.told c.args.folder.now in
    let plans = c.in_ok-plans.plans in
    let walked_to = subst (IsWalked told to) (sym c.as_slice.ensures ∙ c.in_ok-test_empty.ensures.empty) c.in_ok-plans.ensures.target in
    subst (MayBegin rule from to []) (sym c.walk_both.ensures.told)
    (may_begin c.walks_tell_the_tree.ensures.plan rule from to (c.clean_vaults_are_orderly.ensures from.vault) (c.clean_vaults_are_orderly.ensures to.vault) plans.source.items [] told (g.met.F.Folder.sound c.args.folder.now)
    c.in_ok-plans.ensures.source walked_to c.in_ok-plans.ensures.passed_source (empty_held c.walks_tell_the_tree.ensures.plan rule from to plans.source.items told))

pub returns-in_err-plans-clause-ends : goal.returns-in_err-plans-clause-ends
returns-in_err-plans-clause-ends g c =
    ends_uncompared _ _ c.args.sides.now.names c.args.sides.now.source c.args.sides.now.target (g.F.Folder.told c.walk_both.new.folder) c.from_residual.result _ c.from_residual.ensures.1 (step_tested c.in_err-plans.field-0.0).0

pub returns-in_err-test_empty-clause-ends : goal.returns-in_err-test_empty-clause-ends
returns-in_err-test_empty-clause-ends g c =
    ends_uncompared _ _ c.args.sides.now.names c.args.sides.now.source c.args.sides.now.target (g.F.Folder.told c.walk_both.new.folder) c.from_residual-in_err-test_empty.result _ c.from_residual-in_err-test_empty.ensures.1 c.in_err-test_empty.ensures.uncompared

pub returns-in_err-mapped-clause-ends : goal.returns-in_err-mapped-clause-ends
returns-in_err-mapped-clause-ends g c =
    ends_uncompared _ _ c.args.sides.now.names c.args.sides.now.source c.args.sides.now.target (g.F.Folder.told c.walk_both.new.folder) c.from_residual-in_err-mapped.result _ c.from_residual-in_err-mapped.ensures.1 c.in_err-mapped.ensures.uncompared

pub returns-clause-ends : goal.returns-clause-ends
returns-clause-ends g c =
    let from = c.args.sides.now.source in
    let to = c.args.sides.now.target in
    let after = g.F.Folder.told c.move_all.new.folder in
    let told = g.F.Folder.told c.args.folder.now in
    let left = g.R.Randoms.left c.args.random.now in
    let left' = g.R.Randoms.left c.move_all.new.random in
    let plans = c.in_ok-plans.plans in
    let rule = c.args.sides.now.names in
    let items = plans.source.items in
    let mapped = c.in_ok-mapped.mapped.items in
    let walked_to = subst (IsWalked told to) (sym c.as_slice.ensures ∙ c.in_ok-test_empty.ensures.empty) c.in_ok-plans.ensures.target in
    let may = may_begin c.walks_tell_the_tree.ensures.plan rule from to (c.clean_vaults_are_orderly.ensures from.vault) (c.clean_vaults_are_orderly.ensures to.vault) items [] told (g.met.F.Folder.sound c.args.folder.now)
    c.in_ok-plans.ensures.source walked_to c.in_ok-plans.ensures.passed_source (empty_held c.walks_tell_the_tree.ensures.plan rule from to items told) in
    ends_more (StayGood from to told after) (StayGood from to told after) (SharesFrom (IsFilled rule from to []) to c.args.work.now mapped left left' told after) (SharesSeen rule from to c.args.work.now left left' told after) rule from to after c.move_all.result
    (λ good. good)
    (source_shares c.walks_tell_the_tree.ensures.plan rule from to c.args.work.now items mapped [] left left' told after may (record { walked = c.in_ok-plans.ensures.source; same = c.in_ok-mapped.ensures.mapped }) walked_to)
    (subst (λ t. EndsBy (StayGood from to t after) (SharesFrom (IsFilled rule from to []) to c.args.work.now mapped left left' t after) rule from to after c.move_all.result) c.walk_both.ensures.told c.move_all.ensures.ends)

pub returns-in_err-plans-clause-blamed : goal.returns-in_err-plans-clause-blamed
returns-in_err-plans-clause-blamed g c =
    let n0 = g.F.Folder.faults c.args.folder.now in
    let n1 = g.F.Folder.faults c.walk_both.new.folder in
    fault_as _ c.from_residual.result c.from_residual.ensures.1 (step_begins n0 n0 n1 c.in_err-plans.field-0.0 (omega arith) c.in_err-plans.ensures.blamed)

pub returns-in_err-plans-clause-drew : goal.returns-in_err-plans-clause-drew
returns-in_err-plans-clause-drew g c = drew_refused c.draws_compose.ensures.none (g.R.Randoms.left c.args.random.now) c.from_residual.result _ c.from_residual.ensures.1 (step_tested c.in_err-plans.field-0.0).1

pub returns-in_err-test_empty-clause-drew : goal.returns-in_err-test_empty-clause-drew
returns-in_err-test_empty-clause-drew g c = drew_refused c.draws_compose.ensures.none (g.R.Randoms.left c.args.random.now) c.from_residual-in_err-test_empty.result _ c.from_residual-in_err-test_empty.ensures.1 c.in_err-test_empty.ensures.tested

pub returns-in_err-mapped-clause-drew : goal.returns-in_err-mapped-clause-drew
returns-in_err-mapped-clause-drew g c = drew_refused c.draws_compose.ensures.none (g.R.Randoms.left c.args.random.now) c.from_residual-in_err-mapped.result _ c.from_residual-in_err-mapped.ensures.1 c.in_err-mapped.ensures.tested

pub returns-in_err-plans-clause-undrawn : goal.returns-in_err-plans-clause-undrawn
returns-in_err-plans-clause-undrawn g c = inl (c.draws_compose.ensures.none (g.R.Randoms.left c.args.random.now))

pub returns-in_err-test_empty-clause-undrawn : goal.returns-in_err-test_empty-clause-undrawn
returns-in_err-test_empty-clause-undrawn g c = inl (c.draws_compose.ensures.none (g.R.Randoms.left c.args.random.now))

pub returns-in_err-mapped-clause-undrawn : goal.returns-in_err-mapped-clause-undrawn
returns-in_err-mapped-clause-undrawn g c = inl (c.draws_compose.ensures.none (g.R.Randoms.left c.args.random.now))

pub returns-in_err-plans-clause-journal : goal.returns-in_err-plans-clause-journal
returns-in_err-plans-clause-journal g c =
    let told = g.F.Folder.told c.args.folder.now in
    let here = g.F.Folder.told c.walk_both.new.folder in
    unbrought_between c.args.sides.now.names c.args.sides.now.source c.args.sides.now.target c.args.work.now told here (λ j. texts_same (λ x. ⊥) c.args.work.now j told here c.walk_both.ensures.told)

pub returns-in_err-test_empty-clause-journal : goal.returns-in_err-test_empty-clause-journal
returns-in_err-test_empty-clause-journal g c =
    let told = g.F.Folder.told c.args.folder.now in
    let here = g.F.Folder.told c.walk_both.new.folder in
    unbrought_between c.args.sides.now.names c.args.sides.now.source c.args.sides.now.target c.args.work.now told here (λ j. texts_same (λ x. ⊥) c.args.work.now j told here c.walk_both.ensures.told)

pub returns-in_err-mapped-clause-journal : goal.returns-in_err-mapped-clause-journal
returns-in_err-mapped-clause-journal g c =
    let told = g.F.Folder.told c.args.folder.now in
    let here = g.F.Folder.told c.walk_both.new.folder in
    unbrought_between c.args.sides.now.names c.args.sides.now.source c.args.sides.now.target c.args.work.now told here (λ j. texts_same (λ x. ⊥) c.args.work.now j told here c.walk_both.ensures.told)

pub returns-clause-journal : goal.returns-clause-journal
returns-clause-journal g c = subst (λ t. BringsBetween c.args.sides.now.names c.args.sides.now.source c.args.sides.now.target c.args.work.now t (g.F.Folder.told c.move_all.new.folder)) c.walk_both.ensures.told c.move_all.ensures.journal
