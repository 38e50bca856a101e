use Rattle.std.proofs.Common.{◌≡◌, ◌∙◌, sym, subst, subst₂, Err, IfErr, IfOk, Ok, inl}
use Rattle.folder_spec.specs.Region.{apart_from_both}
use Rattle.folder_spec.specs.View.{View}
use Rattle.folder_spec.specs.Seen.{IsSeen, seen}
use Rattle.folder_model.specs.Text.{IsParsed}
use Rattle.migration_spec.specs.Alone.{Unbegun}
use Rattle.migrate_core.specs.Leading.{Guards}
use Rattle.migrate_core.specs.Moving.{MovesOnly}
use Rattle.migrate_core.specs.Sides.{IsAsked}
use Rattle.migration_sides.proofs.Told.{both_open, opens_passes, opens_refused, separate_pass, work_refused}
use Rattle.migration_sides.specs.Causes.{Opens}
use Rattle.folder_spec.specs.Apart.{AreSeparate}
use Rattle.migration_sides.specs.Tests.{all_pass, Then}
use Rattle.migration_sides.proofs.Unchanged.{tested_on}
use Rattle.migrate_core.proofs.Blaming.{step_begins}
use Rattle.migrate_core.proofs.Movings.{moves_nowhere}
use Rattle.migrate_core.proofs.Planned.{seen_of}
use Rattle.migrate_core.proofs.Settled.{begins, settled_by, still_settled}
use Rattle.migrate_core.proofs.Endings.{tree_moved}
use Rattle.migrate_core.specs.Moved.{MovesTree, Placed}
use Rattle.vault_spec.specs.Opened.{OpenedVault}
use Rattle.migrate_core.specs.Causes.{Answer, BeginsWith, IsOfPlacing, PassesBegin, TestsToBegin, Unless}
use Rattle.migrate_core.specs.Faults.{of_step, of_work}
use Rattle.migrate_core.specs.declared.placing.Done.{Done}
use Rattle.work_folder.specs.Looking.{Tests}
use Rattle.migrate_core.proofs.WrittenTrees.{nothing_written, tree_of}
use Rattle.migrate_core.specs.Written.{MayWriteBy, journal_texts}
use Rattle.migrate_core.proofs.Limits.{limit_in_tree, none_compared, none_taken, shared_in_tree}
use Rattle.migrate_core.specs.Copying.{StayGood}
use Rattle.migrate_core.specs.Limits.{EndsBy, IsOfLimit, PassesInTree}
use Rattle.migrate_core.specs.Sharing.{IsOfTaken, SharesInTree, SharesSeen}
use Rattle.migrate_core.proofs.Drawing.{drew_refused, undrawn_on}
use Rattle.migrate_core.proofs.beginning.begin_settled.Given.{Over}
use Rattle.migrate_core.proofs.beginning.begin_settled.Goals as goal
use Rattle.migrate_core.proofs.beginning.begin_settled.Goals.{After-begin_with}
use Rattle.migration_sides.proofs.Chains.{fault_as, refused_as, then_passes}
use Rattle.migrate_core.specs.declared.fault.MoveFault.TheVariants.{Failed, NoMemory}
use Rattle.migrate_core.proofs.Tested.{step_tested, work_tested}
use Rattle.migrate_core.proofs.Lastings.{leads_of, on_ok_by, settled_ends}
use Rattle.migrate_core.specs.Lasting.{FinishesSettled}
use Rattle.migrate_core.specs.Leading.{Leads}
use Rattle.folder_spec.specs.Seen.{IfSeen}
use Rattle.migration_spec.specs.Alone.{Finished}
use Rattle.migration_spec.specs.Guard.{AreOpenedBy, Migration}
use Rattle.migrate_core.proofs.Bringing.{brought_by_pass, unbrought}
use Rattle.migrate_core.proofs.Lastings.{texts_same}
use Rattle.migrate_core.specs.Lasting.{BringsBetween}

pub returns-in_err-look-clause-guard : goal.returns-in_err-look-clause-guard
returns-in_err-look-clause-guard g c migration asked opened = still_settled migration _ _ c.look.ensures.told

pub returns-in_err-look-clause-moves : goal.returns-in_err-look-clause-moves
returns-in_err-look-clause-moves g c = moves_nowhere c.args.work.now _ c.args.target.now _ _ c.look.ensures.told

pub returns-in_err-sides-clause-guard : goal.returns-in_err-sides-clause-guard
returns-in_err-sides-clause-guard g c migration asked opened = still_settled migration _ _ (c.load_both.ensures.told ∙ c.look.ensures.told)

pub returns-in_err-sides-clause-moves : goal.returns-in_err-sides-clause-moves
returns-in_err-sides-clause-moves g c = moves_nowhere c.args.work.now _ c.args.target.now _ _ (c.load_both.ensures.told ∙ c.look.ensures.told)

pub begin_with-requires-clause-source : goal.begin_with-requires-clause-source
begin_with-requires-clause-source g c = subst IsParsed (sym c.in_ok-sides.ensures.source) c.requires.source

pub begin_with-requires-clause-target : goal.begin_with-requires-clause-target
begin_with-requires-clause-target g c = subst IsParsed (sym c.in_ok-sides.ensures.target) c.requires.target

pub begin_with-requires-clause-apart : goal.begin_with-requires-clause-apart
begin_with-requires-clause-apart g c = subst₂ (λ p q. AreSeparate p q c.args.work.now) (sym c.in_ok-sides.ensures.source) (sym c.in_ok-sides.ensures.target) c.requires.apart

pub returns-clause-guard : goal.returns-clause-guard
returns-clause-guard g c = λ migration asked opened.
    let t0 = g.F.Folder.told c.args.folder.now in
    let t2 = g.F.Folder.told c.load_both.new.folder in
    let t3 = g.F.Folder.told c.begin_with.new.folder in
    let same : t2 ≡ t0 = c.load_both.ensures.told ∙ c.look.ensures.told in
    let sides = c.in_ok-sides.sides in
    let loads = c.in_ok-sides.ensures in
    settled_by c.args.work.now (apart_from_both c.args.work.now sides.target.root) sides.target.root migration Unbegun t0 t3 (subst (λ t. MovesOnly c.args.work.now sides.target.root t t3) same c.begin_with.ensures.moves)
    (λ a is settled.
    let v = seen a.state in
    let shown = subst (λ t. IsSeen t v) (sym c.look.ensures.told) (seen_of t0 a is) in
    let named : IsAsked migration sides.names c.args.source.now c.args.target.now c.args.work.now = record { source = asked.source; target = asked.target; work = asked.work; names = asked.names ∙ sym loads.names } in
    let found = begins c.roots_have_one_answer.ensures c.guarded_migrations_are_seen.ensures.case migration a.state sides.names sides.source sides.target c.args.source.now c.args.target.now c.args.work.now
    c.args.source_pass.now c.args.target_pass.now named (opened v (seen_of t0 a is)) settled (c.in_ok-look.ensures.answer v (seen_of t0 a is)) (record { stands = loads.source; loads = loads.opens_source v shown })
    (record { stands = loads.target; loads = loads.opens_target v shown }) in (
      found.alone,
      subst (λ t. Guards migration Unbegun t t3) same (c.begin_with.ensures.guard migration found.sides).0,
    ))

pub returns-clause-moves : goal.returns-clause-moves
returns-clause-moves g c =
    let t3 = g.F.Folder.told c.begin_with.new.folder in
    subst (λ t. MovesOnly c.args.work.now c.args.target.now t t3) (c.load_both.ensures.told ∙ c.look.ensures.told)
    (subst (λ r. MovesOnly c.args.work.now r (g.F.Folder.told c.load_both.new.folder) t3) c.in_ok-sides.ensures.target c.begin_with.ensures.moves)

pub returns-clause-moved : goal.returns-clause-moved
returns-clause-moved g c =
    let sides = c.in_ok-sides.sides in
    let left = g.R.Randoms.left c.args.random.now in
    let left' = g.R.Randoms.left c.begin_with.new.random in
    let loads = c.in_ok-sides.ensures in
    let told = g.F.Folder.told c.args.folder.now in
    let after = g.F.Folder.told c.begin_with.new.folder in
    let from = c.args.source.now in
    let to = c.args.target.now in
    let work = c.args.work.now in
    let pass = c.args.source_pass.now in
    let pass' = c.args.target_pass.now in
    let same = c.load_both.ensures.told ∙ c.look.ensures.told in
    subst (λ n. IfOk c.begin_with.result (λ done. MovesTree n from to work pass pass' done told after)) loads.names
    (tree_moved (SharesSeen sides.names sides.source sides.target c.args.work.now left left' told after) sides.names from to work pass pass' sides.source sides.target told after
    c.begin_with.result loads.source loads.target (g.met.F.Folder.sound c.args.folder.now)
    (subst (λ root. MovesOnly work root told after) loads.target (subst (λ t. MovesOnly work sides.target.root t after) same c.begin_with.ensures.moves))
    (λ v is. loads.opens_source v (subst (λ t. IsSeen t v) (sym c.look.ensures.told) is)) (λ v is. loads.opens_target v (subst (λ t. IsSeen t v) (sym c.look.ensures.told) is))
    (subst (λ t. Placed sides.names sides.source sides.target t c.begin_with.result) same c.begin_with.ensures.placed) c.begin_with.ensures.moved
    (subst (λ t. EndsBy (StayGood sides.source sides.target t after) (SharesSeen sides.names sides.source sides.target c.args.work.now left left' t after) sides.names sides.source sides.target after c.begin_with.result) same c.begin_with.ensures.ends))

pub returns-in_err-look-clause-cause : goal.returns-in_err-look-clause-cause
returns-in_err-look-clause-cause g c v seen =
    let from = c.args.source.now in
    let to = c.args.target.now in
    let work = c.args.work.now in
    let opens = λ (_ : Unit {0}). Opens {Y = Done} of_step v from to c.args.source_pass.now c.args.target_pass.now (λ source target. BeginsWith c.args.names source target work v) in
    refused_as (λ answer. Unless answer (Then of_work (Tests v work) opens answer)) c.from_residual.result c.from_residual.ensures.1 (work_refused of_work (Tests v work) opens c.in_err-look.field-0.0 (c.in_err-look.ensures.answer v seen))

pub returns-in_err-sides-clause-cause : goal.returns-in_err-sides-clause-cause
returns-in_err-sides-clause-cause g c v seen =
    let from = c.args.source.now in
    let to = c.args.target.now in
    let work = c.args.work.now in
    let opens = λ (_ : Unit {0}). Opens {Y = Done} of_step v from to c.args.source_pass.now c.args.target_pass.now (λ source target. BeginsWith c.args.names source target work v) in
    let why = c.in_err-sides.field-0.0 in
    refused_as (λ answer. Unless answer (Then of_work (Tests v work) opens answer)) c.from_residual-in_err-sides.result c.from_residual-in_err-sides.ensures.1
    (then_passes Failed NoMemory of_work (Tests v work) opens (Err (of_step why)) tt (c.in_ok-look.ensures.answer v seen)
    (opens_refused of_step v from to c.args.source_pass.now c.args.target_pass.now (λ source target. BeginsWith c.args.names source target work v) why
    (c.in_err-sides.ensures.cause v (subst (λ t. IsSeen t v) (sym c.look.ensures.told) seen))))

pub returns-clause-cause : goal.returns-clause-cause
returns-clause-cause g c v seen =
    let from = c.args.source.now in
    let to = c.args.target.now in
    let work = c.args.work.now in
    let next : OpenedVault → OpenedVault → Answer Done → Type 0 = λ source target. BeginsWith c.args.names source target work v in
    let sides = c.in_ok-sides.sides in
    let loads = c.in_ok-sides.ensures in
    let looked = subst (λ t. IsSeen t v) (sym c.look.ensures.told) seen in
    then_passes Failed NoMemory of_work (Tests v work) (λ _. Opens of_step v from to c.args.source_pass.now c.args.target_pass.now next) c.begin_with.result tt (c.in_ok-look.ensures.answer v seen)
    (opens_passes of_step v from to c.args.source_pass.now c.args.target_pass.now next c.begin_with.result sides.source sides.target loads.source loads.target
    (loads.opens_source v looked) (loads.opens_target v looked)
    (subst (λ n. Unless c.begin_with.result (BeginsWith n sides.source sides.target work v c.begin_with.result)) loads.names
    (c.begin_with.ensures.cause v (subst (λ t. IsSeen t v) (sym c.load_both.ensures.told) looked))))

pub returns-in_err-look-clause-written : goal.returns-in_err-look-clause-written
returns-in_err-look-clause-written g c v seen =
    inl (nothing_written c.from_residual.result _ c.from_residual.ensures.1 (work_tested c.in_err-look.field-0.0).1 _ _ _ (c.draws_compose.ensures.none _) c.look.ensures.told)

pub returns-in_err-sides-clause-written : goal.returns-in_err-sides-clause-written
returns-in_err-sides-clause-written g c v seen =
    inl (nothing_written c.from_residual-in_err-sides.result _ c.from_residual-in_err-sides.ensures.1 (step_tested c.in_err-sides.field-0.0).1 _ _ _ (c.draws_compose.ensures.none _) (c.load_both.ensures.told ∙ c.look.ensures.told))

pub returns-clause-written : goal.returns-clause-written
returns-clause-written g c v seen =
    let told = g.F.Folder.told c.args.folder.now in
    let left = g.R.Randoms.left c.args.random.now in
    let after = g.F.Folder.told c.begin_with.new.folder in
    let left2 = g.R.Randoms.left c.begin_with.new.random in
    let sides = c.in_ok-sides.sides in
    let loads = c.in_ok-sides.ensures in
    tree_of (journal_texts c.args.names c.args.source.now c.args.target.now) c.begin_with.result c.args.names c.args.source.now c.args.target.now c.args.work.now c.args.source_pass.now c.args.target_pass.now sides.source sides.target left left2 told after loads.source loads.target
    (λ w is. loads.opens_source w (subst (λ t. IsSeen t w) (sym c.look.ensures.told) is)) (λ w is. loads.opens_target w (subst (λ t. IsSeen t w) (sym c.look.ensures.told) is))
    (subst₂ (λ p q. MayWriteBy (journal_texts c.args.names p q) c.begin_with.result c.args.names sides.source sides.target c.args.work.now left left2 told after) loads.source loads.target
    (subst (λ n. MayWriteBy (journal_texts n sides.source.root sides.target.root) c.begin_with.result n sides.source sides.target c.args.work.now left left2 told after) loads.names
    (subst (λ t. MayWriteBy (journal_texts sides.names sides.source.root sides.target.root) c.begin_with.result sides.names sides.source sides.target c.args.work.now left left2 t after) (c.load_both.ensures.told ∙ c.look.ensures.told)
    c.begin_with.ensures.written)))

pub returns-in_err-look-clause-tested : goal.returns-in_err-look-clause-tested
returns-in_err-look-clause-tested g c = inl c.look.ensures.told

pub returns-in_err-sides-clause-tested : goal.returns-in_err-sides-clause-tested
returns-in_err-sides-clause-tested g c = inl (c.load_both.ensures.told ∙ c.look.ensures.told)

-- the tests pass with those behind
module _ (g : Over) (c : After-begin_with g) where
  abbrev PassedBehind : View → Type 0
  PassedBehind v = IfErr c.begin_with.result IsOfPlacing × TestsToBegin c.in_ok-sides.sides.names c.in_ok-sides.sides.source c.in_ok-sides.sides.target v all_pass (Ok tt)

  abbrev Passed : View → Type 0
  Passed v = IfErr c.begin_with.result IsOfPlacing × PassesBegin c.args.names c.args.source.now c.args.target.now c.args.work.now c.args.source_pass.now c.args.target_pass.now v

  passing : (v : View) → IsSeen (g.F.Folder.told c.args.folder.now) v → PassedBehind v → Passed v
  passing v seen passed =
      let from = c.args.source.now in
      let to = c.args.target.now in
      let work = c.args.work.now in
      let pass = c.args.source_pass.now in
      let pass' = c.args.target_pass.now in
      let sides = c.in_ok-sides.sides in
      let loads = c.in_ok-sides.ensures in
      let looked = subst (λ t. IsSeen t v) (sym c.look.ensures.told) seen in (
        passed.0,
        record {
          apart = separate_pass from to work c.requires.apart;
          folder = c.in_ok-look.ensures.answer v seen;
          vaults = both_open of_step v from to pass pass' (λ source target. TestsToBegin c.args.names source target v all_pass) sides.source sides.target loads.source loads.target (loads.opens_source v looked) (loads.opens_target v looked)
              (subst (λ n. TestsToBegin n sides.source sides.target v all_pass (Ok tt)) loads.names passed.1);
        },
      )

pub returns-clause-tested : goal.returns-clause-tested
returns-clause-tested g c =
    let after = (goal.at.returns-clause-tested g c).After-begin_with in
    tested_on (g.F.Folder.told c.args.folder.now) (g.F.Folder.told c.load_both.new.folder) (g.F.Folder.told c.begin_with.new.folder) (PassedBehind g after) c.begin_with.ensures.tested (Passed g after) (c.load_both.ensures.told ∙ c.look.ensures.told) (passing g after)

pub returns-clause-undrawn : goal.returns-clause-undrawn
returns-clause-undrawn g c =
    let after = (goal.at.returns-clause-undrawn g c).After-begin_with in
    undrawn_on (PassedBehind g after) (Passed g after) (g.F.Folder.told c.args.folder.now) (g.F.Folder.told c.load_both.new.folder) (λ v is. subst (λ t. IsSeen t v) (sym (c.load_both.ensures.told ∙ c.look.ensures.told)) is) (passing g after) c.begin_with.ensures.undrawn

pub returns-in_err-look-clause-too_long : goal.returns-in_err-look-clause-too_long
returns-in_err-look-clause-too_long g c =
    none_compared _ c.from_residual.result _ c.from_residual.ensures.1 (work_tested c.in_err-look.field-0.0).0

pub returns-in_err-sides-clause-too_long : goal.returns-in_err-sides-clause-too_long
returns-in_err-sides-clause-too_long g c =
    none_compared _ c.from_residual-in_err-sides.result _ c.from_residual-in_err-sides.ensures.1 (step_tested c.in_err-sides.field-0.0).0

pub returns-clause-too_long : goal.returns-clause-too_long
returns-clause-too_long g c =
    let sides = c.in_ok-sides.sides in
    let loads = c.in_ok-sides.ensures in
    let from = c.args.source.now in
    let to = c.args.target.now in
    let pass = c.args.source_pass.now in
    let pass' = c.args.target_pass.now in
    let told = g.F.Folder.told c.args.folder.now in
    let here = g.F.Folder.told c.load_both.new.folder in
    let after = g.F.Folder.told c.begin_with.new.folder in
    subst (λ n. IfErr c.begin_with.result (IsOfLimit (PassesInTree n from to pass pass' told after))) loads.names
    (limit_in_tree (StayGood sides.source sides.target here after) (SharesSeen sides.names sides.source sides.target c.args.work.now (g.R.Randoms.left c.args.random.now) (g.R.Randoms.left c.begin_with.new.random) here after)
    sides.names from to pass pass' sides.source sides.target told after
    c.begin_with.result loads.source loads.target (λ v is. loads.opens_source v (subst (λ t. IsSeen t v) (sym c.look.ensures.told) is)) (λ v is. loads.opens_target v (subst (λ t. IsSeen t v) (sym c.look.ensures.told) is))
    c.begin_with.ensures.ends)

pub returns-in_err-look-clause-shared : goal.returns-in_err-look-clause-shared
returns-in_err-look-clause-shared g c =
    none_taken _ c.from_residual.result _ c.from_residual.ensures.1 (work_tested c.in_err-look.field-0.0).0

pub returns-in_err-sides-clause-shared : goal.returns-in_err-sides-clause-shared
returns-in_err-sides-clause-shared g c =
    none_taken _ c.from_residual-in_err-sides.result _ c.from_residual-in_err-sides.ensures.1 (step_tested c.in_err-sides.field-0.0).0

pub returns-clause-shared : goal.returns-clause-shared
returns-clause-shared g c =
    let sides = c.in_ok-sides.sides in
    let loads = c.in_ok-sides.ensures in
    let from = c.args.source.now in
    let to = c.args.target.now in
    let pass = c.args.source_pass.now in
    let pass' = c.args.target_pass.now in
    let left = g.R.Randoms.left c.args.random.now in
    let left' = g.R.Randoms.left c.begin_with.new.random in
    let told = g.F.Folder.told c.args.folder.now in
    let after = g.F.Folder.told c.begin_with.new.folder in
    subst (λ n. IfErr c.begin_with.result (IsOfTaken (SharesInTree n from to c.args.work.now pass pass' left left' told after))) loads.names
    (shared_in_tree (StayGood sides.source sides.target told after) sides.names from to c.args.work.now pass pass' sides.source sides.target left left' told after
    c.begin_with.result loads.source loads.target (λ v is. loads.opens_source v (subst (λ t. IsSeen t v) (sym c.look.ensures.told) is)) (λ v is. loads.opens_target v (subst (λ t. IsSeen t v) (sym c.look.ensures.told) is))
    (subst (λ t. EndsBy (StayGood sides.source sides.target t after) (SharesSeen sides.names sides.source sides.target c.args.work.now left left' t after) sides.names sides.source sides.target after c.begin_with.result)
    (c.load_both.ensures.told ∙ c.look.ensures.told) c.begin_with.ensures.ends))

pub returns-in_err-sides-clause-blamed : goal.returns-in_err-sides-clause-blamed
returns-in_err-sides-clause-blamed g c =
    let n0 = g.F.Folder.faults c.args.folder.now in
    let n1 = g.F.Folder.faults c.look.new.folder in
    let n2 = g.F.Folder.faults c.load_both.new.folder in
    fault_as _ c.from_residual-in_err-sides.result c.from_residual-in_err-sides.ensures.1 (step_begins n0 n1 n2 c.in_err-sides.field-0.0 c.look.ensures.grows c.in_err-sides.ensures.blamed)

pub returns-in_err-look-clause-drew : goal.returns-in_err-look-clause-drew
returns-in_err-look-clause-drew g c = drew_refused c.draws_compose.ensures.none (g.R.Randoms.left c.args.random.now) c.from_residual.result _ c.from_residual.ensures.1 (work_tested c.in_err-look.field-0.0).1

pub returns-in_err-sides-clause-drew : goal.returns-in_err-sides-clause-drew
returns-in_err-sides-clause-drew g c = drew_refused c.draws_compose.ensures.none (g.R.Randoms.left c.args.random.now) c.from_residual-in_err-sides.result _ c.from_residual-in_err-sides.ensures.1 (step_tested c.in_err-sides.field-0.0).1

pub returns-clause-finishes : goal.returns-clause-finishes
returns-clause-finishes g c =
    let t0 = g.F.Folder.told c.args.folder.now in
    let t2 = g.F.Folder.told c.load_both.new.folder in
    let t3 = g.F.Folder.told c.begin_with.new.folder in
    let same : t2 ≡ t0 = c.load_both.ensures.told ∙ c.look.ensures.told in
    let sides = c.in_ok-sides.sides in
    let loads = c.in_ok-sides.ensures in
    on_ok_by ((m : Migration) → IsAsked m c.args.names c.args.source.now c.args.target.now c.args.work.now → IfSeen t0 (λ v. AreOpenedBy m c.args.source_pass.now c.args.target_pass.now v) → FinishesSettled m t0 t3) c.begin_with.result
    (λ done is_done migration asked opened.
    settled_ends c.args.work.now (apart_from_both c.args.work.now sides.target.root) sides.target.root migration Unbegun t0 t3 (subst (λ t. MovesOnly c.args.work.now sides.target.root t t3) same c.begin_with.ensures.moves)
    (λ a is settled.
    let v = seen a.state in
    let shown = subst (λ t. IsSeen t v) (sym c.look.ensures.told) (seen_of t0 a is) in
    let named : IsAsked migration sides.names c.args.source.now c.args.target.now c.args.work.now = record { source = asked.source; target = asked.target; work = asked.work; names = asked.names ∙ sym loads.names } in
    let found = begins c.roots_have_one_answer.ensures c.guarded_migrations_are_seen.ensures.case migration a.state sides.names sides.source sides.target c.args.source.now c.args.target.now c.args.work.now
    c.args.source_pass.now c.args.target_pass.now named (opened v (seen_of t0 a is)) settled (c.in_ok-look.ensures.answer v (seen_of t0 a is)) (record { stands = loads.source; loads = loads.opens_source v shown })
    (record { stands = loads.target; loads = loads.opens_target v shown }) in (
      found.alone,
      subst (λ t. Leads migration Unbegun Finished t t3) same (leads_of migration Unbegun Finished t2 t3 c.begin_with.result done is_done (c.begin_with.ensures.guard migration found.sides)),
    )))

pub returns-in_err-look-clause-undrawn : goal.returns-in_err-look-clause-undrawn
returns-in_err-look-clause-undrawn g c = inl (c.draws_compose.ensures.none (g.R.Randoms.left c.args.random.now))

pub returns-in_err-sides-clause-undrawn : goal.returns-in_err-sides-clause-undrawn
returns-in_err-sides-clause-undrawn g c = inl (c.draws_compose.ensures.none (g.R.Randoms.left c.args.random.now))

pub returns-in_err-look-clause-journal : goal.returns-in_err-look-clause-journal
returns-in_err-look-clause-journal g c v is =
    let told = g.F.Folder.told c.args.folder.now in
    let here = g.F.Folder.told c.look.new.folder in
    unbrought c.args.names c.args.source.now c.args.target.now c.args.work.now c.args.source_pass.now c.args.target_pass.now told here v (λ j. texts_same (λ x. ⊥) c.args.work.now j told here c.look.ensures.told)

pub returns-in_err-sides-clause-journal : goal.returns-in_err-sides-clause-journal
returns-in_err-sides-clause-journal g c v is =
    let told = g.F.Folder.told c.args.folder.now in
    let here = g.F.Folder.told c.load_both.new.folder in
    unbrought c.args.names c.args.source.now c.args.target.now c.args.work.now c.args.source_pass.now c.args.target_pass.now told here v (λ j. texts_same (λ x. ⊥) c.args.work.now j told here (c.load_both.ensures.told ∙ c.look.ensures.told))

pub returns-clause-journal : goal.returns-clause-journal
returns-clause-journal g c v is =
    let sides = c.in_ok-sides.sides in
    let loads = c.in_ok-sides.ensures in
    let once = subst (λ t. IsSeen t v) (sym c.look.ensures.told) is in
    let told = g.F.Folder.told c.args.folder.now in
    let after = g.F.Folder.told c.begin_with.new.folder in
    brought_by_pass c.args.names c.args.source.now c.args.target.now c.args.work.now c.args.source_pass.now c.args.target_pass.now sides.names sides.source sides.target told after v
    loads.names loads.source loads.target (loads.opens_source v once) (loads.opens_target v once)
    (subst (λ t. BringsBetween sides.names sides.source sides.target c.args.work.now t after) (c.load_both.ensures.told ∙ c.look.ensures.told) c.begin_with.ensures.journal)
