use Rattle.std.proofs.Common.{Result, ◌∙◌, Ok, length, sym, ap, subst, Contains, [], ◌∷◌}
use Rattle.folder_spec.specs.Seen.{IsSeen}
use Rattle.migration_spec.specs.Alone.{Finished}
use Rattle.migrate_core.specs.declared.fault.MoveFault.{MoveFault}
use Rattle.migrate_core.proofs.Endings.{finish_goes, has_moved, trees_beside}
use Rattle.migrate_core.proofs.Leadings.{goes_failed, refused_nowhere}
use Rattle.migrate_core.proofs.Movings.{mapped_walk, moves_nowhere, source_stays, turned_over}
use Rattle.migrate_core.specs.Leading.{Goes, progress_of}
use Rattle.migrate_core.specs.Moving.{MovesOnly}
use Rattle.migrate_core.specs.Sides.{AreItemsToMove, IsMappedWalk}
use Rattle.migration_sides.specs.Sides.{IsWalked}
use Rattle.migrate_core.specs.Moved.{HaveMappedTree, StaysTidyWork}
use Rattle.migrate_core.proofs.Writings.{only_nowhere}
use Rattle.migrate_core.specs.Written.{BringsOnlyTo, WritesBeside, done_texts}
use Rattle.tree_match.specs.Trees.{IsSameOrTooLong, match_of, side_of}
use Rattle.migrate_core.proofs.Causing.{never_more, stop_more}
use Rattle.migrate_core.proofs.Compared.{copied_matches, copied_within, walk_stops}
use Rattle.migrate_core.specs.Causes.{nothing_stops}
use Rattle.migrate_core.specs.Copying.{CopiesAll, HasCopied}
use Rattle.migrate_core.proofs.Limits.{ends_uncompared}
use Rattle.migrate_core.proofs.Copyings.{copied_as}
use Rattle.migrate_core.specs.Limits.{EndsBy}
use Rattle.migrate_core.proofs.Sharing.{whichever_taken}
use Rattle.migrate_core.proofs.Writings.{stop_is_test}
use Rattle.migrate_core.specs.Faults.{IsOfTest}
use Rattle.migrate_core.proofs.finishing.finish.Given.{Over}
use Rattle.migrate_core.proofs.finishing.finish.Goals as goal
use Rattle.migrate_core.proofs.finishing.finish.Goals.{After-say_done}
use Rattle.migration_sides.proofs.Chains.{fault_as, refused_as}
use Rattle.migrate_core.proofs.Tested.{step_tested}
use Rattle.folder_spec.specs.Path.{Path}
use Rattle.folder_spec.specs.Apart.{AreApart}
use Rattle.migrate_core.proofs.Lastings.{texts_more, texts_same}
use Rattle.migrate_core.specs.Lasting.{ClearsReady, KeepsTexts, StaysBeside}

pub returns-in_err-target-clause-guard : goal.returns-in_err-target-clause-guard
returns-in_err-target-clause-guard g c m sides tells =
    refused_nowhere _ m (progress_of c.args.journal.phase) Finished _ _ c.from_residual.result c.from_residual.ensures.1 c.walk_one.ensures.told

pub returns-in_err-target-clause-moves : goal.returns-in_err-target-clause-moves
returns-in_err-target-clause-moves g c = moves_nowhere c.args.work.now _ c.args.sides.now.target.root _ _ c.walk_one.ensures.told

pub returns-in_err-test_same-clause-guard : goal.returns-in_err-test_same-clause-guard
returns-in_err-test_same-clause-guard g c m sides tells =
    refused_nowhere _ m (progress_of c.args.journal.phase) Finished _ _ c.from_residual-in_err-test_same.result c.from_residual-in_err-test_same.ensures.1
    (c.test_same.ensures.told ∙ c.walk_one.ensures.told)

pub returns-in_err-test_same-clause-moves : goal.returns-in_err-test_same-clause-moves
returns-in_err-test_same-clause-moves g c = moves_nowhere c.args.work.now _ c.args.sides.now.target.root _ _ (c.test_same.ensures.told ∙ c.walk_one.ensures.told)

pub test_same-requires-clause-source : goal.test_same-requires-clause-source
test_same-requires-clause-source g c =
    let from = c.args.sides.now.source in
    let rule = c.args.sides.now.names in
    subst (λ t. IsMappedWalk rule t from c.args.items.now.mapped.items) (sym c.in_ok-target.ensures.told)
    (mapped_walk rule (g.F.Folder.told c.args.folder.now) from c.args.items.now.own.items c.args.items.now.mapped.items c.requires.walked)

pub test_same-requires-clause-target : goal.test_same-requires-clause-target
test_same-requires-clause-target g c = subst (λ t. IsWalked t c.args.sides.now.target c.in_ok-target.target.items) (sym c.in_ok-target.ensures.told) c.in_ok-target.ensures.walked

pub say_done-requires-clause-work_folder : goal.say_done-requires-clause-work_folder
say_done-requires-clause-work_folder g c v is = c.requires.work_folder v (subst (λ t. IsSeen t v) (c.in_ok-test_same.ensures.told ∙ c.in_ok-target.ensures.told) is)

pub returns-in_err-say_done-clause-guard : goal.returns-in_err-say_done-clause-guard
returns-in_err-say_done-clause-guard g c m sides tells =
    let told = g.F.Folder.told c.args.folder.now in
    let here = g.F.Folder.told c.test_same.new.folder in
    let told' = g.F.Folder.told c.say_done.new.folder in
    let from = c.args.sides.now.source in
    let to = c.args.sides.now.target in
    let same = c.in_ok-test_same.ensures.told ∙ c.in_ok-target.ensures.told in
    let rule = c.args.sides.now.names in
    let at = progress_of c.args.journal.phase in
    goes_failed _ m at Finished Finished told told' c.say_done.result c.from_residual-in_err-say_done.result c.from_residual-in_err-say_done.ensures.1
    (subst (λ t. Goes m at Finished t told' c.say_done.result) same
    (finish_goes c.guarded_migrations_are_seen.ensures.alone c.mapped_walks_tell_the_mapped_tree.ensures.apart c.what_is_held_opens_the_same.ensures.held c.what_is_held_opens_the_same.ensures.same c.mapped_trees_are_held.ensures.both m rule from to c.args.work.now
    (record { source = sides.source; target = sides.target; names = sym c.requires.names ∙ sides.names; work = sides.work }) at c.args.items.now.mapped.items c.in_ok-target.target.items here told' c.say_done.result
    (subst (λ t. IsMappedWalk rule t from c.args.items.now.mapped.items) (sym same) (mapped_walk rule told from c.args.items.now.own.items c.args.items.now.mapped.items c.requires.walked))
    (subst (λ t. IsWalked t to c.in_ok-target.target.items) (sym same) c.in_ok-target.ensures.walked)
    (λ v is. c.in_ok-test_same.ensures.same v (subst (λ t. IsSeen t v) c.in_ok-test_same.ensures.told is)) (c.say_done.ensures.guard m sides.work tells)))

pub returns-in_err-say_done-clause-moves : goal.returns-in_err-say_done-clause-moves
returns-in_err-say_done-clause-moves g c =
    let root = c.args.sides.now.target.root in
    subst (λ t. MovesOnly c.args.work.now root t (g.F.Folder.told c.say_done.new.folder)) (c.in_ok-test_same.ensures.told ∙ c.in_ok-target.ensures.told) (c.say_done.ensures.moves root c.requires.apart.target)

pub returns-clause-guard : goal.returns-clause-guard
returns-clause-guard g c m sides tells =
    let told = g.F.Folder.told c.args.folder.now in
    let here = g.F.Folder.told c.test_same.new.folder in
    let told' = g.F.Folder.told c.say_done.new.folder in
    let from = c.args.sides.now.source in
    let to = c.args.sides.now.target in
    let same = c.in_ok-test_same.ensures.told ∙ c.in_ok-target.ensures.told in
    let rule = c.args.sides.now.names in
    let at = progress_of c.args.journal.phase in
    let done : Result (Unit {0}) MoveFault = Ok tt in
    subst (λ t. Goes m at Finished t told' done) same
    (finish_goes c.guarded_migrations_are_seen.ensures.alone c.mapped_walks_tell_the_mapped_tree.ensures.apart c.what_is_held_opens_the_same.ensures.held c.what_is_held_opens_the_same.ensures.same c.mapped_trees_are_held.ensures.both m rule from to c.args.work.now
    (record { source = sides.source; target = sides.target; names = sym c.requires.names ∙ sides.names; work = sides.work }) at c.args.items.now.mapped.items c.in_ok-target.target.items here told' done
    (subst (λ t. IsMappedWalk rule t from c.args.items.now.mapped.items) (sym same) (mapped_walk rule told from c.args.items.now.own.items c.args.items.now.mapped.items c.requires.walked))
    (subst (λ t. IsWalked t to c.in_ok-target.target.items) (sym same) c.in_ok-target.ensures.walked)
    (λ v is. c.in_ok-test_same.ensures.same v (subst (λ t. IsSeen t v) c.in_ok-test_same.ensures.told is)) (c.in_ok-say_done.ensures.guard m sides.work tells))

pub returns-clause-moves : goal.returns-clause-moves
returns-clause-moves g c =
    let root = c.args.sides.now.target.root in
    subst (λ t. MovesOnly c.args.work.now root t (g.F.Folder.told c.say_done.new.folder)) (c.in_ok-test_same.ensures.told ∙ c.in_ok-target.ensures.told) (c.say_done.ensures.moves root c.requires.apart.target)

pub say_done-requires-clause-stands : goal.say_done-requires-clause-stands
say_done-requires-clause-stands g c phase v is = c.requires.stands phase v (subst (λ t. IsSeen t v) (c.in_ok-test_same.ensures.told ∙ c.in_ok-target.ensures.told) is)

pub returns-clause-moved : goal.returns-clause-moved
returns-clause-moved g c =
    let here = g.F.Folder.told c.test_same.new.folder in
    let from = c.args.sides.now.source in
    let to = c.args.sides.now.target in
    let same = c.in_ok-test_same.ensures.told ∙ c.in_ok-target.ensures.told in
    has_moved c.what_is_held_opens_the_same.ensures.held c.what_is_held_opens_the_same.ensures.same c.mapped_trees_are_held.ensures.both from to c.args.work.now c.args.items.now.own.items c.args.items.now.mapped.items c.in_ok-target.target.items c.args.journal
    here (g.F.Folder.told c.say_done.new.folder) c.requires.apart (g.met.F.Folder.sound c.test_same.new.folder) c.requires.journal c.requires.source c.requires.target c.requires.items
    (subst (λ t. AreItemsToMove c.args.journal.names t from c.args.items.now.own.items c.args.items.now.mapped.items) (sym same)
    (subst (λ names. AreItemsToMove names (g.F.Folder.told c.args.folder.now) from c.args.items.now.own.items c.args.items.now.mapped.items) (sym c.requires.names) c.requires.walked))
    (subst (λ t. IsWalked t to c.in_ok-target.target.items) (sym same) c.in_ok-target.ensures.walked)
    (λ v is. c.in_ok-test_same.ensures.same v (subst (λ t. IsSeen t v) c.in_ok-test_same.ensures.told is))
    (c.say_done.ensures.moves to.root c.requires.apart.target) (c.say_done.ensures.moves from.root c.requires.apart.source) c.in_ok-say_done.ensures.says (length c.as_slice.result.now) (ap length c.as_slice.ensures)

pub returns-in_err-target-clause-written : goal.returns-in_err-target-clause-written
returns-in_err-target-clause-written g c = only_nowhere (BringsOnlyTo c.args.sides.now.target.root (λ at. ⊥)) (λ file. Contains (done_texts c.args.journal) file) (g.F.Folder.told c.args.folder.now) (g.F.Folder.told c.walk_one.new.folder) c.walk_one.ensures.told

pub returns-in_err-test_same-clause-written : goal.returns-in_err-test_same-clause-written
returns-in_err-test_same-clause-written g c = only_nowhere (BringsOnlyTo c.args.sides.now.target.root (λ at. ⊥)) (λ file. Contains (done_texts c.args.journal) file) (g.F.Folder.told c.args.folder.now) (g.F.Folder.told c.test_same.new.folder) (c.test_same.ensures.told ∙ c.walk_one.ensures.told)

pub returns-in_err-say_done-clause-written : goal.returns-in_err-say_done-clause-written
returns-in_err-say_done-clause-written g c = subst (λ t. WritesBeside c.args.sides.now.target.root (λ file. Contains (done_texts c.args.journal) file) t (g.F.Folder.told c.say_done.new.folder)) (c.test_same.ensures.told ∙ c.walk_one.ensures.told) (c.say_done.ensures.written c.args.sides.now.target.root c.requires.apart.target)

pub returns-clause-written : goal.returns-clause-written
returns-clause-written g c = subst (λ t. WritesBeside c.args.sides.now.target.root (λ file. Contains (done_texts c.args.journal) file) t (g.F.Folder.told c.say_done.new.folder)) (c.test_same.ensures.told ∙ c.walk_one.ensures.told) (c.say_done.ensures.written c.args.sides.now.target.root c.requires.apart.target)

pub returns-in_err-target-clause-moving : goal.returns-in_err-target-clause-moving
returns-in_err-target-clause-moving g c =
    let from = c.args.sides.now.source in
    let to = c.args.sides.now.target in
    let rule = c.args.sides.now.names in
    let items = c.args.items.now.mapped.items in
    fault_as _ c.from_residual.result c.from_residual.ensures.1
    (λ v is. walk_stops to v (HasCopied rule from to items v) (λ h. h.copying.target.clean)
    (λ h. copied_within c.what_stands_is_found_step_by_step.ensures.below c.what_stands_is_found_step_by_step.ensures.behind c.files_have_their_contents.ensures rule from to v h.copying) c.in_err-target.field-0.0
    (c.in_err-target.ensures.cause v is))

pub returns-in_err-test_same-clause-moving : goal.returns-in_err-test_same-clause-moving
returns-in_err-test_same-clause-moving g c =
    let from = c.args.sides.now.source in
    let to = c.args.sides.now.target in
    let rule = c.args.sides.now.names in
    let items = c.args.items.now.mapped.items in
    let others = c.in_ok-target.target.items in
    let told = g.F.Folder.told c.args.folder.now in
    fault_as _ c.from_residual-in_err-test_same.result c.from_residual-in_err-test_same.ensures.1
    (λ v is. stop_more (IsSameOrTooLong (match_of v (side_of from items) (side_of to others))) (HasCopied rule from to items v) nothing_stops nothing_stops c.in_err-test_same.field-0.0
    (copied_matches c.walks_tell_the_tree.ensures.plan c.mapped_walks_tell_the_mapped_tree.ensures.apart c.what_is_held_opens_the_same.ensures.alike rule from to items others told told v
    (mapped_walk rule told from c.args.items.now.own.items items c.requires.walked) is c.in_ok-target.ensures.walked is) (λ why none. none)
    (c.in_err-test_same.ensures.moving v (subst (λ t. IsSeen t v) (sym c.walk_one.ensures.told) is)))

pub returns-in_err-say_done-clause-moving : goal.returns-in_err-say_done-clause-moving
returns-in_err-say_done-clause-moving g c =
    let from = c.args.sides.now.source in
    let to = c.args.sides.now.target in
    let rule = c.args.sides.now.names in
    let items = c.args.items.now.mapped.items in
    fault_as _ c.from_residual-in_err-say_done.result c.from_residual-in_err-say_done.ensures.1
    (λ v is. never_more (HasCopied rule from to items v) nothing_stops c.in_err-say_done.field-0.0 c.in_err-say_done.ensures.moving)

pub returns-clause-tidy : goal.returns-clause-tidy
returns-clause-tidy g c = subst (λ t. StaysTidyWork c.args.work.now t (g.F.Folder.told c.say_done.new.folder)) (c.in_ok-test_same.ensures.told ∙ c.in_ok-target.ensures.told) c.in_ok-say_done.ensures.tidy

pub returns-in_err-target-clause-ends : goal.returns-in_err-target-clause-ends
returns-in_err-target-clause-ends g c =
    ends_uncompared _ _ c.args.sides.now.names c.args.sides.now.source c.args.sides.now.target (g.F.Folder.told c.walk_one.new.folder) c.from_residual.result _ c.from_residual.ensures.1 (step_tested c.in_err-target.field-0.0).0

pub returns-in_err-test_same-clause-ends : goal.returns-in_err-test_same-clause-ends
returns-in_err-test_same-clause-ends g c =
    let from = c.args.sides.now.source in
    let to = c.args.sides.now.target in
    let rule = c.args.sides.now.names in
    let items = c.args.items.now.mapped.items in
    let here = g.F.Folder.told c.test_same.new.folder in
    refused_as (λ answer. EndsBy (CopiesAll rule from to items items (g.F.Folder.told c.args.folder.now) here) (Unit {0}) rule from to here answer) c.from_residual-in_err-test_same.result c.from_residual-in_err-test_same.ensures.1
    ((λ v is. c.in_err-test_same.ensures.limit v (subst (λ t. IsSeen t v) c.test_same.ensures.told is)), whichever_taken c.in_err-test_same.field-0.0)

pub returns-in_err-say_done-clause-ends : goal.returns-in_err-say_done-clause-ends
returns-in_err-say_done-clause-ends g c =
    ends_uncompared _ _ c.args.sides.now.names c.args.sides.now.source c.args.sides.now.target (g.F.Folder.told c.say_done.new.folder) c.from_residual-in_err-say_done.result _ c.from_residual-in_err-say_done.ensures.1 c.in_err-say_done.ensures.uncompared

pub returns-clause-ends : goal.returns-clause-ends
returns-clause-ends g c v w is_v is_w has =
    let from = c.args.sides.now.source in
    let to = c.args.sides.now.target in
    let work = c.args.work.now in
    let told = g.F.Folder.told c.args.folder.now in
    let after = g.F.Folder.told c.say_done.new.folder in
    let same = c.in_ok-test_same.ensures.told ∙ c.in_ok-target.ensures.told in
    let moves = λ (root : Path) (apart : AreApart root work). subst (λ t. MovesOnly work root t after) same (c.say_done.ensures.moves root apart) in
    let sound = g.met.F.Folder.sound c.args.folder.now in
    copied_as c.args.sides.now.names from to c.args.items.now.mapped.items v w (source_stays from.root to.root work told after c.requires.apart sound (moves to.root c.requires.apart.target) v w is_v is_w)
    (source_stays to.root from.root work told after (turned_over from.root to.root work c.requires.apart) sound (moves from.root c.requires.apart.source) v w is_v is_w) has

pub returns-in_err-target-clause-tested : goal.returns-in_err-target-clause-tested
returns-in_err-target-clause-tested g c = fault_as IsOfTest c.from_residual.result c.from_residual.ensures.1 (step_tested c.in_err-target.field-0.0).1

pub returns-in_err-say_done-clause-tested : goal.returns-in_err-say_done-clause-tested
returns-in_err-say_done-clause-tested g c =
    fault_as IsOfTest c.from_residual-in_err-say_done.result c.from_residual-in_err-say_done.ensures.1 (stop_is_test c.in_err-say_done.field-0.0 (Unit {0}) c.in_err-say_done.ensures.moving)

pub returns-clause-clears : goal.returns-clause-clears
returns-clause-clears g c = subst (λ t. ClearsReady c.args.work.now t (g.F.Folder.told c.say_done.new.folder)) (c.in_ok-test_same.ensures.told ∙ c.in_ok-target.ensures.told) c.in_ok-say_done.ensures.clears

pub returns-in_err-target-clause-journal : goal.returns-in_err-target-clause-journal
returns-in_err-target-clause-journal g c = texts_same (HaveMappedTree c.args.sides.now.names c.args.sides.now.source c.args.sides.now.target) c.args.work.now c.args.journal (g.F.Folder.told c.args.folder.now) (g.F.Folder.told c.walk_one.new.folder) c.walk_one.ensures.told

pub returns-in_err-test_same-clause-journal : goal.returns-in_err-test_same-clause-journal
returns-in_err-test_same-clause-journal g c = texts_same (HaveMappedTree c.args.sides.now.names c.args.sides.now.source c.args.sides.now.target) c.args.work.now c.args.journal (g.F.Folder.told c.args.folder.now) (g.F.Folder.told c.test_same.new.folder) (c.test_same.ensures.told ∙ c.walk_one.ensures.told)

-- where it is said that all is done, that is so
module _ (g : Over) (c : After-say_done g) where
  said : KeepsTexts (HaveMappedTree c.args.sides.now.names c.args.sides.now.source c.args.sides.now.target) c.args.work.now c.args.journal (g.F.Folder.told c.args.folder.now) (g.F.Folder.told c.say_done.new.folder)
  said =
      let here = g.F.Folder.told c.test_same.new.folder in
      let after = g.F.Folder.told c.say_done.new.folder in
      let from = c.args.sides.now.source in
      let to = c.args.sides.now.target in
      let rule = c.args.sides.now.names in
      let work = c.args.work.now in
      let same = c.in_ok-test_same.ensures.told ∙ c.in_ok-target.ensures.told in
      subst (λ t. KeepsTexts (HaveMappedTree rule from to) work c.args.journal t after) same
      (texts_more (StaysBeside work here) (HaveMappedTree rule from to) work c.args.journal here after
      (trees_beside c.what_is_held_opens_the_same.ensures.held c.what_is_held_opens_the_same.ensures.same c.mapped_trees_are_held.ensures.both rule from to work c.args.items.now.own.items c.args.items.now.mapped.items c.in_ok-target.target.items here c.requires.apart
      (subst (λ t. AreItemsToMove rule t from c.args.items.now.own.items c.args.items.now.mapped.items) (sym same) c.requires.walked)
      (subst (λ t. IsWalked t to c.in_ok-target.target.items) (sym same) c.in_ok-target.ensures.walked)
      (λ v is. c.in_ok-test_same.ensures.same v (subst (λ t. IsSeen t v) c.in_ok-test_same.ensures.told is)))
      c.say_done.ensures.journal)

pub returns-in_err-say_done-clause-journal : goal.returns-in_err-say_done-clause-journal
returns-in_err-say_done-clause-journal g c = said g (goal.at.returns-in_err-say_done-clause-journal g c).After-say_done

pub returns-clause-journal : goal.returns-clause-journal
returns-clause-journal g c = said g (goal.at.returns-clause-journal g c).After-say_done
