use Rattle.std.proofs.Common.{◌≡◌, ◌∙◌, OnOk, subst, subst₂, Err, Ok, sym, inl, inr}
use Rattle.folder_spec.specs.Seen.{IfSeen, IsSeen, moved_view}
use Rattle.migration_sides.specs.Sides.{opened_in}
use Rattle.migration_spec.specs.Guard.{Migration, old_path}
use Rattle.port_model.specs.Counts.{CountRose}
use Rattle.retire_core.proofs.Away.{StaysInOrder, order_same}
use Rattle.retire_core.proofs.Blaming.{blamed_step, folder_removal, if_err_both}
use Rattle.retire_core.proofs.Courses.{held_moves, held_same}
use Rattle.retire_core.proofs.Going.{done_same}
use Rattle.retire_core.specs.Clearing.{MovesHeldOnly}
use Rattle.retire_core.specs.Guarding.{ComesFromDone, KeepsDone}
use Rattle.retire_core.specs.Retiring.{AreHeld, retiring_by}
use Rattle.migration_sides.proofs.Chains.{fault_as, passed_is, refused_as}
use Rattle.retire_core.proofs.Causing.{both_opened, closed, ends}
use Rattle.retire_core.specs.Causes.{Answer, IsOfFolder, TestsHeld, TestsVaults, Unless}
use Rattle.retire_core.specs.declared.fault.RetireFault.{RetireFault}
use Rattle.retire_core.specs.declared.fault.RetireFault.TheVariants.{Failed, NoMemory}
use Rattle.folder_spec.specs.View.{View}
use Rattle.retire_core.specs.Faults.{IsOfRemoval}
use Rattle.retire_core.proofs.retiring.move_held.Given.{Over}
use Rattle.retire_core.proofs.retiring.move_held.Goals as goal
use Rattle.retire_core.proofs.retiring.move_held.Goals.{In_ok-test_held}

abbrev failing : RetireFault → Answer (Unit {0})
failing why = Err why

abbrev done : Answer (Unit {0})
done = Ok tt

-- both vaults open and are clean, and the target holds the source
module _ (g : Over) (c : In_ok-test_held g) where
  held_passed : IfSeen (g.F.Folder.told c.args.folder.now) (λ v. TestsHeld c.args.journal.now.names c.args.journal.now.source c.args.journal.now.target c.args.source_pass.now c.args.target_pass.now v done)
  held_passed v seen =
      let names = c.args.journal.now.names in
      let from = c.args.journal.now.source in
      let to = c.args.journal.now.target in
      let pass = c.args.source_pass.now in
      let pass_too = c.args.target_pass.now in
      let sides = c.in_ok-sides.sides in
      passed_is Failed NoMemory tt (TestsHeld names from to pass pass_too v done)
      (both_opened names from to pass pass_too v sides.source sides.target done c.in_ok-sides.ensures.source c.in_ok-sides.ensures.target
      (c.in_ok-sides.ensures.opens_source v seen) (c.in_ok-sides.ensures.opens_target v seen)
      (subst (λ n. Unless done (TestsVaults n sides.source sides.target v done)) c.in_ok-sides.ensures.names
      (c.in_ok-test_held.ensures.cause v (subst (λ t. IsSeen t v) (sym c.load_both.ensures.told) seen))))

pub returns-in_err-sides-clause-guard : goal.returns-in_err-sides-clause-guard
returns-in_err-sides-clause-guard g c = λ migration at_source at_work. done_same migration (g.F.Folder.told c.args.folder.now) (g.F.Folder.told c.load_both.new.folder) c.load_both.ensures.told

pub returns-in_err-sides-clause-moves : goal.returns-in_err-sides-clause-moves
returns-in_err-sides-clause-moves g c =
    held_same (retiring_by c.args.work.now c.args.source_pass.now c.args.target_pass.now c.args.journal.now) (g.F.Folder.told c.args.folder.now) (g.F.Folder.told c.load_both.new.folder) c.load_both.ensures.told

pub returns-in_err-sides-clause-blamed : goal.returns-in_err-sides-clause-blamed
returns-in_err-sides-clause-blamed g c =
    fault_as _ c.from_residual.result c.from_residual.ensures.1 (blamed_step (CountRose (g.F.Folder.faults c.args.folder.now) (g.F.Folder.faults c.load_both.new.folder)) c.in_err-sides.field-0.0 c.in_err-sides.ensures.blamed)

pub returns-in_err-sides-clause-leaves : goal.returns-in_err-sides-clause-leaves
returns-in_err-sides-clause-leaves g c = order_same c.args.work.now (g.F.Folder.told c.args.folder.now) (g.F.Folder.told c.load_both.new.folder) c.load_both.ensures.told

pub returns-in_err-test_held-clause-guard : goal.returns-in_err-test_held-clause-guard
returns-in_err-test_held-clause-guard g c = λ migration at_source at_work.
    done_same migration (g.F.Folder.told c.args.folder.now) (g.F.Folder.told c.test_held.new.folder) (c.test_held.ensures.told ∙ c.load_both.ensures.told)

pub returns-in_err-test_held-clause-moves : goal.returns-in_err-test_held-clause-moves
returns-in_err-test_held-clause-moves g c =
    held_same (retiring_by c.args.work.now c.args.source_pass.now c.args.target_pass.now c.args.journal.now) (g.F.Folder.told c.args.folder.now) (g.F.Folder.told c.test_held.new.folder) (c.test_held.ensures.told ∙ c.load_both.ensures.told)

pub returns-in_err-test_held-clause-leaves : goal.returns-in_err-test_held-clause-leaves
returns-in_err-test_held-clause-leaves g c = order_same c.args.work.now (g.F.Folder.told c.args.folder.now) (g.F.Folder.told c.test_held.new.folder) (c.test_held.ensures.told ∙ c.load_both.ensures.told)

pub move_source-requires-clause-there : goal.move_source-requires-clause-there
move_source-requires-clause-there g c = λ v seen. c.requires.there v (subst (λ t. IsSeen t v) (c.test_held.ensures.told ∙ c.load_both.ensures.told) seen)

pub move_source-requires-clause-free : goal.move_source-requires-clause-free
move_source-requires-clause-free g c = λ v seen. c.requires.free v (subst (λ t. IsSeen t v) (c.test_held.ensures.told ∙ c.load_both.ensures.told) seen)

pub move_source-requires-clause-folder : goal.move_source-requires-clause-folder
move_source-requires-clause-folder g c = λ v seen. c.requires.folder v (subst (λ t. IsSeen t v) (c.test_held.ensures.told ∙ c.load_both.ensures.told) seen)

pub returns-clause-guard : goal.returns-clause-guard
returns-clause-guard g c = λ migration at_source at_work.
    subst (λ t. KeepsDone migration t (g.F.Folder.told c.move_source.new.folder)) (c.test_held.ensures.told ∙ c.load_both.ensures.told) (c.move_source.ensures.guard migration at_source at_work)

pub returns-clause-comes : goal.returns-clause-comes
returns-clause-comes g c =
    subst (λ t. OnOk c.move_source.result ((migration : Migration) → migration.source.root ≡ c.args.journal.now.source → migration.work ≡ c.args.work.now → ComesFromDone migration t (g.F.Folder.told c.move_source.new.folder)))
    (c.test_held.ensures.told ∙ c.load_both.ensures.told) c.move_source.ensures.comes

pub returns-clause-moves : goal.returns-clause-moves
returns-clause-moves g c =
    let r = retiring_by c.args.work.now c.args.source_pass.now c.args.target_pass.now c.args.journal.now in
    let t2 = g.F.Folder.told c.test_held.new.folder in
    let t3 = g.F.Folder.told c.move_source.new.folder in
    let sides = c.in_ok-sides.sides in
    let loads = c.in_ok-sides.ensures in
    subst (λ t. MovesHeldOnly r t t3) (c.test_held.ensures.told ∙ c.load_both.ensures.told)
    (held_moves r t2 t3
    (λ v seen.
    let before = subst (λ t. IsSeen t v) c.test_held.ensures.told seen in
    let first = subst (λ t. IsSeen t v) c.load_both.ensures.told before in
    record {
      source = sides.source.vault;
      target = sides.target.vault;
      opens_source = loads.opens_source v first;
      opens_target = loads.opens_target v first;
      held = subst (λ n. AreHeld n (opened_in r.from sides.source.vault) (opened_in r.to sides.target.vault) v) loads.names
          (subst₂ (λ p q. AreHeld sides.names (opened_in p sides.source.vault) (opened_in q sides.target.vault) v) loads.source loads.target (c.in_ok-test_held.ensures.held v before));
    }) c.move_source.ensures.moves)

pub returns-clause-leaves : goal.returns-clause-leaves
returns-clause-leaves g c =
    subst (λ t. StaysInOrder c.args.work.now t (g.F.Folder.told c.move_source.new.folder)) (c.test_held.ensures.told ∙ c.load_both.ensures.told) c.move_source.ensures.leaves

pub returns-in_err-sides-clause-cause : goal.returns-in_err-sides-clause-cause
returns-in_err-sides-clause-cause g c v seen =
    let names = c.args.journal.now.names in
    let from = c.args.journal.now.source in
    let to = c.args.journal.now.target in
    let pass = c.args.source_pass.now in
    let pass_too = c.args.target_pass.now in
    refused_as (λ answer. Unless answer (TestsHeld names from to pass pass_too v answer)) c.from_residual.result c.from_residual.ensures.1
    (closed names from to pass pass_too v c.in_err-sides.field-0.0 (c.in_err-sides.ensures.cause v seen))

pub returns-in_err-test_held-clause-cause : goal.returns-in_err-test_held-clause-cause
returns-in_err-test_held-clause-cause g c v seen =
    let names = c.args.journal.now.names in
    let from = c.args.journal.now.source in
    let to = c.args.journal.now.target in
    let pass = c.args.source_pass.now in
    let pass_too = c.args.target_pass.now in
    let sides = c.in_ok-sides.sides in
    let why = c.in_err-test_held.field-0.0 in
    refused_as (λ answer. Unless answer (TestsHeld names from to pass pass_too v answer)) c.from_residual-in_err-test_held.result c.from_residual-in_err-test_held.ensures.1
    (both_opened names from to pass pass_too v sides.source sides.target (failing why) c.in_ok-sides.ensures.source c.in_ok-sides.ensures.target
    (c.in_ok-sides.ensures.opens_source v seen) (c.in_ok-sides.ensures.opens_target v seen)
    (subst (λ n. Unless (failing why) (TestsVaults n sides.source sides.target v (failing why))) c.in_ok-sides.ensures.names
    (c.in_err-test_held.ensures.cause v (subst (λ t. IsSeen t v) (sym c.load_both.ensures.told) seen))))

pub returns-clause-cause : goal.returns-clause-cause
returns-clause-cause g c v seen =
    ends (TestsHeld c.args.journal.now.names c.args.journal.now.source c.args.journal.now.target c.args.source_pass.now c.args.target_pass.now v) c.move_source.result c.move_source.ensures.fails
    (held_passed g (goal.at.returns-clause-cause g c).In_ok-test_held v seen)

pub returns-clause-seen : goal.returns-clause-seen
returns-clause-seen g c =
    subst
    (λ t. OnOk c.move_source.result
    ((v w : View) → IsSeen t v → IsSeen (g.F.Folder.told c.move_source.new.folder) w → w ≡ moved_view v c.args.journal.now.source (old_path c.args.work.now)))
    (c.test_held.ensures.told ∙ c.load_both.ensures.told) c.move_source.ensures.seen

pub returns-in_err-sides-clause-tested : goal.returns-in_err-sides-clause-tested
returns-in_err-sides-clause-tested g c = inl c.load_both.ensures.told

pub returns-in_err-test_held-clause-tested : goal.returns-in_err-test_held-clause-tested
returns-in_err-test_held-clause-tested g c = inl (c.test_held.ensures.told ∙ c.load_both.ensures.told)

pub returns-clause-tested : goal.returns-clause-tested
returns-clause-tested g c = inr (λ v seen. (
  if_err_both IsOfFolder IsOfRemoval c.move_source.result folder_removal c.move_source.ensures.fails,
  held_passed g (goal.at.returns-clause-tested g c).In_ok-test_held v seen,
))
