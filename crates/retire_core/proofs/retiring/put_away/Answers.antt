use denote.Enum.Bare.{same_true, sameb}
use Rattle.move_journal.specs.Reading.{StandsIn}
use Rattle.std.proofs.Common.{rules, true, false, ap, ◌≡◌, ◌≢◌, ◌∙◌, arith, subst, sym, inl, inr, refl, IfErr, Ok}
use Rattle.folder_spec.specs.Seen.{IfSeen, IsSeen, moved_view}
use Rattle.folder_spec.specs.View.{NoEntry, View}
use Rattle.folder_spec.specs.contracts.Kind.{the_type}
use Rattle.folder_spec.specs.declared.Kind.TheVariants.{Missing}
use Rattle.migration_spec.specs.Guard.{Migration, old_path}
use Rattle.retire_core.proofs.Blaming.{blamed_kind}
use Rattle.retire_core.proofs.Courses.{held_same}
use Rattle.retire_core.proofs.Going.{rest_same}
use Rattle.migration_spec.proofs.Tellings.{seen_before}
use Rattle.retire_core.proofs.Starts.{IsKnown, comes_by_done, comes_missing, missing_by_kind, on_ok_more, rest_by_done, there_by_kind}
use Rattle.retire_core.specs.Clearing.{IsGone, IsInOrder, MovesHeldOnly}
use Rattle.retire_core.specs.Guarding.{ComesFromDone, ComesToRetiring, KeepsDone}
use Rattle.retire_core.specs.Retiring.{retiring_by}
use Rattle.migration_sides.proofs.Chains.{fault_as, passed_is, refused_as}
use Rattle.migration_sides.proofs.Told.{folder_unless}
use Rattle.migration_sides.proofs.Unchanged.{tested_on}
use Rattle.retire_core.proofs.Causing.{away_none, away_there, is_free, not_free}
use Rattle.retire_core.specs.Causes.{TestsAway, TestsFree, TestsHeld, Unless, moved_away}
use Rattle.retire_core.specs.Faults.{IsOfRemoval, of_folder}
use Rattle.retire_core.specs.declared.fault.RetireFault.TheVariants.{Failed, NoMemory}
use Rattle.retire_core.proofs.retiring.put_away.Given.{Over}
use Rattle.retire_core.proofs.retiring.put_away.Goals as goal
use Rattle.retire_core.proofs.retiring.put_away.Goals.{In_ok-test_free}
use Rattle.folder_spec.proofs.Seen.{one_view}

-- the source is there
module _ (g : Over) (c : In_ok-test_free g) where
  still_there : IfSeen (g.F.Folder.told c.args.folder.now) (λ v. v c.args.journal.now.source ≢ NoEntry)
  still_there v seen =
      let kind = c.in_ok-kind.field-0 in
      let isnt : kind ≢ Missing = (λ is. let equal : false ≡ true = sym c.if-eq.false ∙ c.eq.ensures ∙ ap (λ k. sameb the_type k Missing) is in cc equal) in
      there_by_kind (g.F.Folder.told c.args.folder.now) c.args.journal.now.source kind c.in_ok-kind.ensures.answer isnt v seen

pub returns-in_err-kind-clause-guard : goal.returns-in_err-kind-clause-guard
returns-in_err-kind-clause-guard g c = λ migration at_work. rest_same migration (g.F.Folder.told c.args.folder.now) (g.F.Folder.told c.kind.new.self) c.kind.ensures.told

pub returns-in_err-kind-clause-moves : goal.returns-in_err-kind-clause-moves
returns-in_err-kind-clause-moves g c =
    held_same (retiring_by c.args.work.now c.args.source_pass.now c.args.target_pass.now c.args.journal.now) (g.F.Folder.told c.args.folder.now) (g.F.Folder.told c.kind.new.self) c.kind.ensures.told

pub returns-in_err-kind-clause-blamed : goal.returns-in_err-kind-clause-blamed
returns-in_err-kind-clause-blamed g c =
    let n0 = g.F.Folder.faults c.args.folder.now in
    fault_as _ c.from_residual.result c.from_residual.ensures.1
    (blamed_kind (g.F.Folder.told c.args.folder.now) c.args.journal.now.source n0 n0 (g.F.Folder.faults c.kind.new.self) c.in_err-kind.field-0.0 (omega arith) c.in_err-kind.ensures.answer c.in_err-kind.ensures.counts)

pub returns-then-eq-clause-comes : goal.returns-then-eq-clause-comes
returns-then-eq-clause-comes g c = λ migration at_work.
    let t0 = g.F.Folder.told c.args.folder.now in
    let journal = c.args.journal.now in
    let kind = c.in_ok-kind.field-0 in
    let missing : kind ≡ Missing = same_true the_type (search rules) kind Missing (sym c.eq.ensures ∙ c.if-eq.true) in
    let known : IsKnown migration journal t0 = record { one_journal = c.journals_are_read_back.ensures.stands; is = c.requires.journal; done = c.requires.phase; stands = λ v seen. subst (λ w. StandsIn w journal v) (sym at_work) (c.requires.stands v seen) } in
    comes_missing migration journal t0 (g.F.Folder.told c.kind.new.self) known c.kind.ensures.told (missing_by_kind t0 journal.source kind c.in_ok-kind.ensures.answer missing)

pub returns-in_err-test_free-clause-moves : goal.returns-in_err-test_free-clause-moves
returns-in_err-test_free-clause-moves g c =
    held_same (retiring_by c.args.work.now c.args.source_pass.now c.args.target_pass.now c.args.journal.now) (g.F.Folder.told c.args.folder.now) (g.F.Folder.told c.test_free.new.folder) (c.test_free.ensures.told ∙ c.kind.ensures.told)

pub returns-clause-guard : goal.returns-clause-guard
returns-clause-guard g c = λ migration at_work.
    let t0 = g.F.Folder.told c.args.folder.now in
    let t3 = g.F.Folder.told c.move_held.new.folder in
    let same = c.test_free.ensures.told ∙ c.kind.ensures.told in
    let journal = c.args.journal.now in
    let kind = c.in_ok-kind.field-0 in
    let isnt : kind ≢ Missing = (λ is. let equal : false ≡ true = sym c.if-eq.false ∙ c.eq.ensures ∙ ap (λ k. sameb the_type k Missing) is in cc equal) in
    let r = retiring_by c.args.work.now c.args.source_pass.now c.args.target_pass.now journal in
    let known : IsKnown migration journal t0 = record { one_journal = c.journals_are_read_back.ensures.stands; is = c.requires.journal; done = c.requires.phase; stands = λ v seen. subst (λ w. StandsIn w journal v) (sym at_work) (c.requires.stands v seen) } in
    rest_by_done migration journal r t0 t3 known (there_by_kind t0 journal.source kind c.in_ok-kind.ensures.answer isnt) (subst (λ t. MovesHeldOnly r t t3) same c.move_held.ensures.moves)
    (λ at_source. subst (λ t. KeepsDone migration t t3) same (c.move_held.ensures.guard migration at_source at_work))

pub returns-clause-comes : goal.returns-clause-comes
returns-clause-comes g c =
    let t0 = g.F.Folder.told c.args.folder.now in
    let t2 = g.F.Folder.told c.test_free.new.folder in
    let t3 = g.F.Folder.told c.move_held.new.folder in
    let same = c.test_free.ensures.told ∙ c.kind.ensures.told in
    let journal = c.args.journal.now in
    let work = c.args.work.now in
    let kind = c.in_ok-kind.field-0 in
    let isnt : kind ≢ Missing = (λ is. let equal : false ≡ true = sym c.if-eq.false ∙ c.eq.ensures ∙ ap (λ k. sameb the_type k Missing) is in cc equal) in
    let r = retiring_by work c.args.source_pass.now c.args.target_pass.now journal in
    on_ok_more ((migration : Migration) → migration.source.root ≡ journal.source → migration.work ≡ work → ComesFromDone migration t2 t3)
    ((migration : Migration) → migration.work ≡ work → ComesToRetiring migration t0 t3) c.move_held.result
    (λ comes migration at_work.
    comes_by_done migration journal r t0 t3
    (record { one_journal = c.journals_are_read_back.ensures.stands; is = c.requires.journal; done = c.requires.phase; stands = λ v seen. subst (λ w. StandsIn w journal v) (sym at_work) (c.requires.stands v seen) })
    (there_by_kind t0 journal.source kind c.in_ok-kind.ensures.answer isnt) (subst (λ t. MovesHeldOnly r t t3) same c.move_held.ensures.moves)
    (λ at_source. subst (λ t. ComesFromDone migration t t3) same (comes migration at_source at_work))) c.move_held.ensures.comes

pub returns-clause-order : goal.returns-clause-order
returns-clause-order g c =
    let t0 = g.F.Folder.told c.args.folder.now in
    let t3 = g.F.Folder.told c.move_held.new.folder in
    let same = c.test_free.ensures.told ∙ c.kind.ensures.told in
    let work = c.args.work.now in
    let r = retiring_by work c.args.source_pass.now c.args.target_pass.now c.args.journal.now in
    on_ok_more (IsGone c.args.journal.now.source t3) (IfSeen t3 (λ v. IsInOrder v work)) c.move_held.result
    (λ gone w is.
    let before = seen_before _ t0 t3 (subst (λ t. MovesHeldOnly r t t3) same c.move_held.ensures.moves) w is in
    c.move_held.ensures.leaves before.0 w (subst (λ t. IsSeen t before.0) (sym same) before.1) is (c.requires.order before.0 before.1)) c.move_held.ensures.gone

pub returns-in_err-kind-clause-cause : goal.returns-in_err-kind-clause-cause
returns-in_err-kind-clause-cause g c v seen =
    let work = c.args.work.now in
    let pass = c.args.source_pass.now in
    let pass_too = c.args.target_pass.now in
    let journal = c.args.journal.now in
    refused_as (λ answer. Unless answer (TestsAway work pass pass_too journal v answer)) c.from_residual.result c.from_residual.ensures.1
    (folder_unless of_folder refl _ c.in_err-kind.field-0.0)

pub returns-then-eq-clause-cause : goal.returns-then-eq-clause-cause
returns-then-eq-clause-cause g c v seen =
    let kind = c.in_ok-kind.field-0 in
    let missing : kind ≡ Missing = same_true the_type (search rules) kind Missing (sym c.eq.ensures ∙ c.if-eq.true) in
    inr (inr (inl (missing_by_kind (g.F.Folder.told c.args.folder.now) c.args.journal.now.source kind c.in_ok-kind.ensures.answer missing v seen, refl)))

pub returns-then-eq-clause-seen : goal.returns-then-eq-clause-seen
returns-then-eq-clause-seen g c v w seen now =
    let t0 = g.F.Folder.told c.args.folder.now in
    let source = c.args.journal.now.source in
    let kind = c.in_ok-kind.field-0 in
    let missing : kind ≡ Missing = same_true the_type (search rules) kind Missing (sym c.eq.ensures ∙ c.if-eq.true) in
    away_none source c.args.work.now v w (missing_by_kind t0 source kind c.in_ok-kind.ensures.answer missing v seen) (one_view t0 w v (subst (λ t. IsSeen t w) c.kind.ensures.told now) seen)

pub returns-in_err-test_free-clause-cause : goal.returns-in_err-test_free-clause-cause
returns-in_err-test_free-clause-cause g c v seen =
    let work = c.args.work.now in
    let pass = c.args.source_pass.now in
    let pass_too = c.args.target_pass.now in
    let journal = c.args.journal.now in
    let kind = c.in_ok-kind.field-0 in
    let isnt : kind ≢ Missing = (λ is. let equal : false ≡ true = sym c.if-eq.false ∙ c.eq.ensures ∙ ap (λ k. sameb the_type k Missing) is in cc equal) in
    refused_as (λ answer. Unless answer (TestsAway work pass pass_too journal v answer)) c.from_residual-in_err-test_free.result c.from_residual-in_err-test_free.ensures.1
    (not_free work pass pass_too journal v (there_by_kind (g.F.Folder.told c.args.folder.now) journal.source kind c.in_ok-kind.ensures.answer isnt v seen) c.in_err-test_free.field-0.0
    (c.in_err-test_free.ensures.cause v (subst (λ t. IsSeen t v) (sym c.kind.ensures.told) seen)))

pub returns-clause-cause : goal.returns-clause-cause
returns-clause-cause g c v seen =
    let once = subst (λ t. IsSeen t v) (sym c.kind.ensures.told) seen in
    is_free c.args.work.now c.args.source_pass.now c.args.target_pass.now c.args.journal.now v (still_there g (goal.at.returns-clause-cause g c).In_ok-test_free v seen) c.move_held.result (c.in_ok-test_free.ensures.cause v once)
    (c.move_held.ensures.cause v (subst (λ t. IsSeen t v) (sym c.test_free.ensures.told) once))

pub returns-clause-seen : goal.returns-clause-seen
returns-clause-seen g c =
    let t0 = g.F.Folder.told c.args.folder.now in
    let t2 = g.F.Folder.told c.test_free.new.folder in
    let t3 = g.F.Folder.told c.move_held.new.folder in
    let same = c.test_free.ensures.told ∙ c.kind.ensures.told in
    let source = c.args.journal.now.source in
    let work = c.args.work.now in
    on_ok_more ((v w : View) → IsSeen t2 v → IsSeen t3 w → w ≡ moved_view v source (old_path work)) ((v w : View) → IsSeen t0 v → IsSeen t3 w → w ≡ moved_away (v source) source work v) c.move_held.result
    (λ moved v w seen now. moved v w (subst (λ t. IsSeen t v) (sym same) seen) now ∙ away_there source work v (v source) (still_there g (goal.at.returns-clause-seen g c).In_ok-test_free v seen)) c.move_held.ensures.seen

pub returns-in_err-kind-clause-tested : goal.returns-in_err-kind-clause-tested
returns-in_err-kind-clause-tested g c = inl c.kind.ensures.told

pub returns-in_err-test_free-clause-tested : goal.returns-in_err-test_free-clause-tested
returns-in_err-test_free-clause-tested g c = inl (c.test_free.ensures.told ∙ c.kind.ensures.told)

pub returns-clause-tested : goal.returns-clause-tested
returns-clause-tested g c =
    let work = c.args.work.now in
    let journal = c.args.journal.now in
    let pass = c.args.source_pass.now in
    let pass_too = c.args.target_pass.now in
    tested_on (g.F.Folder.told c.args.folder.now) (g.F.Folder.told c.test_free.new.folder) (g.F.Folder.told c.move_held.new.folder)
    (λ v. IfErr c.move_held.result IsOfRemoval × TestsHeld journal.names journal.source journal.target pass pass_too v (Ok tt)) c.move_held.ensures.tested
    (λ v. IfErr c.move_held.result IsOfRemoval × TestsAway work pass pass_too journal v (Ok tt)) (c.test_free.ensures.told ∙ c.kind.ensures.told)
    (λ v seen held. (
      held.0,
      inr (
        still_there g (goal.at.returns-clause-tested g c).In_ok-test_free v seen,
        (Ok tt, passed_is Failed NoMemory tt (TestsFree work v (Ok tt)) (c.in_ok-test_free.ensures.cause v (subst (λ t. IsSeen t v) (sym c.kind.ensures.told) seen)), held.1),
      ),
    ))
