use Rattle.std.proofs.Common.{refl, subst}
use Rattle.demo_core.specs.Making.{phrase}
use Rattle.plain_tree.specs.declared.name_map.NameMap.TheVariants.{Same}
use Rattle.demo_core.proofs.Shared.{goes_by, goes_nowhere}
use Rattle.folder_spec.specs.Seen.{IfSeen}
use Rattle.migrate_core.specs.Moved.{IsTidyWork, MovesTree}
use Rattle.migrate_core.specs.Moving.{MovesOnly}
use Rattle.demonstration.specs.Demo.{chances, chances_by}
use Rattle.demonstration.specs.DemoSteps.{CanCarry, Sees}
use Rattle.demonstration.specs.DemoTrees.{moving_folder, target_of}
use Rattle.demonstration.proofs.DemoDraws.{drew_none, moving_drew}
use Rattle.demonstration.proofs.Beginnable.{Stops, begun_ends, status_ends, stops_by}
use Rattle.demonstration.proofs.Movable.{AreMovable}
use Rattle.demonstration.proofs.SharedPlaces.{WalksStay}
use Rattle.demonstration.proofs.Steps.{is_carried}
use Rattle.demonstration.proofs.leading.migrate.Goals as goal

pub returns-in_err-source-clause-drew : goal.returns-in_err-source-clause-drew
returns-in_err-source-clause-drew g c count sees = drew_none c.draws_compose.ensures.none (g.R.Randoms.left c.args.random.now)

pub returns-in_err-target-clause-drew : goal.returns-in_err-target-clause-drew
returns-in_err-target-clause-drew g c count sees = drew_none c.draws_compose.ensures.none (g.R.Randoms.left c.args.random.now)

pub returns-in_err-work-clause-drew : goal.returns-in_err-work-clause-drew
returns-in_err-work-clause-drew g c count sees = drew_none c.draws_compose.ensures.none (g.R.Randoms.left c.args.random.now)

pub returns-in-Ok-clause-moved : goal.returns-in-Ok-clause-moved
returns-in-Ok-clause-moved g c same =
    let t = g.F.Folder.told c.args.folder.now in
    let u = g.F.Folder.told c.begin.new.folder in
    let leg = c.args.leg in (
      c.in-Ok.field-0,
      subst (λ p. MovesTree Same p (target_of leg) moving_folder phrase phrase c.in-Ok.field-0 t u) c.in_ok-source.ensures.is
          (subst (λ p. MovesTree Same c.in_ok-source.source p moving_folder phrase phrase c.in-Ok.field-0 t u) c.in_ok-target.ensures.is
          (subst (λ w. MovesTree Same c.in_ok-source.source c.in_ok-target.target w phrase phrase c.in-Ok.field-0 t u) c.in_ok-work.ensures.is c.in-Ok.ensures.moved)),
      subst (λ p. MovesOnly moving_folder p t u) c.in_ok-target.ensures.is (subst (λ w. MovesOnly w c.in_ok-target.target t u) c.in_ok-work.ensures.is c.begin.ensures.moves),
    )

pub returns-in-Ok-clause-carried : goal.returns-in-Ok-clause-carried
returns-in-Ok-clause-carried g c same count sees =
    let t = g.F.Folder.told c.args.folder.now in
    let u = g.F.Folder.told c.begin.new.folder in
    is_carried c.roots_show_their_own.ensures.alike c.roots_have_one_answer.ensures c.trees_stay_by_same.ensures.mapped c.trees_have_so_many_items.ensures c.plans_are_the_tree.ensures c.args.leg count t u (λ a is. g.met.F.Folder.sound c.args.folder.now a is)
    (returns-in-Ok-clause-moved g c same) (subst (λ w. IfSeen u (λ v. IsTidyWork w v)) c.in_ok-work.ensures.is c.in-Ok.ensures.tidy) sees

pub returns-clause-status : goal.returns-clause-status
returns-clause-status g c count =
    let leg = c.args.leg in
    let fault = c.in-Err.fault in
    let f = g.F.Folder.faults c.args.folder.now in
    let f' = g.F.Folder.faults c.begin.new.folder in
    let r = g.R.Randoms.faults c.args.random.now in
    let r' = g.R.Randoms.faults c.begin.new.random in
    let s = g.R.Randoms.left c.args.random.now in
    let s' = g.R.Randoms.left c.begin.new.random in
    let t = g.F.Folder.told c.args.folder.now in
    let t' = g.F.Folder.told c.begin.new.folder in
    let laws : AreMovable = record {
      apart = c.trees_stay_by_same.ensures.apart;
      named = c.names_of_items_are_allowed.ensures.named;
      allowed = c.names_of_items_are_allowed.ensures.allowed;
      short = c.items_are_directories_or_short_files.ensures;
      fits = c.trees_of_items_pass_no_limit.ensures;
      whole = c.small_contents_pass_no_limit.ensures.whole;
    } in
    let walks : WalksStay = λ v a mapped walk same. c.plans_stay_by_same.ensures a.items mapped (c.what_is_held_opens_the_same.ensures.matchable v a walk).ordered same in
    let stops : Stops leg fault f f' r r' s s' t t' = stops_by leg c.in_ok-source.source c.in_ok-target.target c.in_ok-work.work fault f f' r r' s s' t t' c.in_ok-source.ensures.is c.in_ok-target.ensures.is c.in_ok-work.ensures.is
    (record { blamed = c.in-Err.ensures.blamed; completes = c.in-Err.ensures.completes; too_long = c.in-Err.ensures.too_long; shared = c.in-Err.ensures.shared; written = c.in-Err.ensures.written; moves = c.begin.ensures.moves }) in
    status_ends (chances_by fault) (chances f f' r r' s s' t t' count (Sees (CanCarry leg) count t)) c.status_of.result
    (λ status. begun_ends c.roots_show_their_own.ensures.alike c.roots_have_one_answer.ensures laws c.walks_tell_the_tree.ensures.plan walks (c.small_contents_pass_no_limit.ensures.small Same) leg fault f f' r r' s s' count t t' status (λ a is. g.met.F.Folder.sound c.args.folder.now a is) stops)
    (c.status_of.ensures.status c.in-Err.ensures.blamed.own c.in-Err.ensures.blamed.may)

pub returns-in-Ok-clause-drew : goal.returns-in-Ok-clause-drew
returns-in-Ok-clause-drew g c count sees = moving_drew c.begin.result c.in_ok-source.source c.in_ok-target.target c.in_ok-work.work phrase phrase (g.R.Randoms.left c.args.random.now) (g.R.Randoms.left c.begin.new.random) (g.F.Folder.told c.args.folder.now)
    (g.F.Folder.told c.begin.new.folder) (c.begin.ensures.written sees.view sees.seen)

pub returns-clause-drew : goal.returns-clause-drew
returns-clause-drew g c count sees = moving_drew c.begin.result c.in_ok-source.source c.in_ok-target.target c.in_ok-work.work phrase phrase (g.R.Randoms.left c.args.random.now) (g.R.Randoms.left c.begin.new.random) (g.F.Folder.told c.args.folder.now)
    (g.F.Folder.told c.begin.new.folder) (c.begin.ensures.written sees.view sees.seen)

pub returns-in_err-source-clause-goes : goal.returns-in_err-source-clause-goes
returns-in_err-source-clause-goes g c = goes_nowhere (g.F.Folder.told c.args.folder.now) (g.F.Folder.told c.args.folder.now) refl

pub returns-in_err-target-clause-goes : goal.returns-in_err-target-clause-goes
returns-in_err-target-clause-goes g c = goes_nowhere (g.F.Folder.told c.args.folder.now) (g.F.Folder.told c.args.folder.now) refl

pub returns-in_err-work-clause-goes : goal.returns-in_err-work-clause-goes
returns-in_err-work-clause-goes g c = goes_nowhere (g.F.Folder.told c.args.folder.now) (g.F.Folder.told c.args.folder.now) refl

pub returns-in-Ok-clause-goes : goal.returns-in-Ok-clause-goes
returns-in-Ok-clause-goes g c = goes_by _ _ (g.F.Folder.told c.args.folder.now) (g.F.Folder.told c.begin.new.folder) c.begin.ensures.moves

pub returns-clause-goes : goal.returns-clause-goes
returns-clause-goes g c = goes_by _ _ (g.F.Folder.told c.args.folder.now) (g.F.Folder.told c.begin.new.folder) c.begin.ensures.moves
