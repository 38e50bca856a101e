use Rattle.std.proofs.Common.{◌≡◌, ◌∙◌, Result, Ok, sym, ap, arith, subst, subst₂, Contains, [], ◌∷◌, IfErr, inl, inr}
use Rattle.folder_spec.specs.Region.{apart_from, apart_from_both, IsAsBefore}
use Rattle.migration_spec.specs.Alone.{Finished}
use Rattle.vault_walk.specs.Survey.{IsOrdered}
use Rattle.move_journal.specs.Writing.{IsWorkFolder}
use Rattle.work_folder.specs.Entering.{IsReady, Empties, IsBelowStage, IsStage}
use Rattle.work_folder.specs.Entries.{stage_path}
use Rattle.migrate_core.specs.Leading.{progress_of}
use Rattle.migrate_core.specs.Moving.{MovesOnly}
use Rattle.folder_spec.specs.Apart.{AreSeparate}
use Rattle.migrate_core.specs.Sides.{AreItemsToMove, StandAll}
use Rattle.migrate_core.proofs.Leadings.{alone_goes, goes_failed, then_known}
use Rattle.migrate_core.proofs.Movings.{moves_on, items_stay}
use Rattle.migrate_core.proofs.Restaged.{rest_goes, stage_alone, stage_apart, stage_stays, still_known, stage_readied}
use Rattle.migrate_core.proofs.WorkFolders.{staging_has, work_folder_stays, journal_stays}
use Rattle.folder_spec.specs.View.{View}
use Rattle.folder_spec.specs.Seen.{IfSeen}
use Rattle.migrate_core.proofs.Endings.{if_ok_more}
use Rattle.migrate_core.specs.Moved.{HaveMappedTree, Moved, lacking}
use Rattle.migrate_core.specs.Causes.{IsOfMoving, Moves, Unless, StopsAt, StopsSeen}
use Rattle.migrate_core.specs.Copying.{HasCopied, BothHaveOwnFolders, CopiesAll, StayGood}
use Rattle.migrate_core.specs.Faults.{of_work}
use Rattle.migrate_core.proofs.Writings.{changing_writes, nothing_yet, only_more, texts_then}
use Rattle.migrate_core.specs.Written.{BringsOnlyTo, WritesBeside, WritesBy, done_texts, lacked}
use Rattle.move_journal.specs.Reading.{StandsIn}
use Rattle.migrate_core.proofs.Blaming.{blamed_later}
use Rattle.migrate_core.proofs.Limits.{ends_more, ends_uncompared}
use Rattle.migrate_core.specs.Limits.{EndsBy}
use Rattle.migrate_core.specs.Sharing.{IsFilled, SharesFrom}
use Rattle.migrate_core.proofs.Drawing.{drew_refused}
use Rattle.migrate_core.proofs.resuming.place_rest.Given.{Over}
use Rattle.migrate_core.proofs.resuming.place_rest.Goals as goal
use Rattle.migrate_core.proofs.resuming.place_rest.Goals.{After-again}
use Rattle.migration_sides.proofs.Chains.{refused_as}
use Rattle.migration_sides.proofs.Told.{work_refused}
use Rattle.migrate_core.proofs.Tested.{work_tested}
use Rattle.migrate_core.proofs.Readied.{lacked_kept, readied_good, readied_shares, readied_stops, IsReadied}
use Rattle.folder_spec.specs.Event.{FromTo}
use Rattle.migrate_core.proofs.Lastings.{clears_later, keeps_then, on_ok_more, texts_by_region}
use Rattle.migrate_core.proofs.WorkFolders.{changing_moves}
use Rattle.migrate_core.specs.Lasting.{Clears, KeepsTexts}
use Rattle.migrate_core.specs.Moving.{OnlyBrings}

-- once the stage is ready anew, or that has failed
module _ (g : Over) (c : After-again g) where
  readied : IsReadied c.args.sides.now.source.root c.args.sides.now.target.root c.args.work.now (g.F.Folder.told c.args.folder.now) (g.F.Folder.told c.again.new.folder)
  readied =
      stage_readied c.args.work.now c.args.sides.now.source.root c.args.sides.now.target.root (g.F.Folder.told c.args.folder.now) (g.F.Folder.told c.again.new.folder) c.requires.apart (g.met.F.Folder.sound c.args.folder.now)
      c.again.ensures.restages.moments

  rest_stays : FromTo (λ a b. IsAsBefore (apart_from (stage_path c.args.work.now)) a.state b.state) (g.F.Folder.told c.args.folder.now) (g.F.Folder.told c.again.new.folder)
  rest_stays = stage_stays c.args.work.now c.args.sides.now.target.root (g.F.Folder.told c.args.folder.now) (g.F.Folder.told c.again.new.folder) c.requires.apart.target c.again.ensures.restages.moments

  again_keeps : (Is : View → Type 0) → KeepsTexts Is c.args.work.now c.args.journal (g.F.Folder.told c.args.folder.now) (g.F.Folder.told c.again.new.folder)
  again_keeps Is =
      let work = c.args.work.now in
      let root = c.args.sides.now.target.root in
      let t0 = g.F.Folder.told c.args.folder.now in
      let t1 = g.F.Folder.told c.again.new.folder in
      texts_by_region Is work c.args.journal (apart_from (stage_path work)) (λ s0 s e. OnlyBrings work root s e.call) t0 t1 (staging_has work).journal (g.met.F.Folder.sound c.args.folder.now)
      (changing_moves work (stage_path work) (IsStage work) (IsBelowStage work) root t0 t1 (stage_apart work root c.requires.apart.target) c.again.ensures.restages.moments)

  no_file : WritesBeside c.args.sides.now.target.root (λ file. ⊥) (g.F.Folder.told c.args.folder.now) (g.F.Folder.told c.again.new.folder)
  no_file =
      let work = c.args.work.now in
      let root = c.args.sides.now.target.root in
      changing_writes (stage_path work) (IsStage work) (IsBelowStage work) root (stage_apart work root c.requires.apart.target) (g.F.Folder.told c.args.folder.now) (g.F.Folder.told c.again.new.folder) c.again.ensures.restages.moments

pub again-requires-clause-folder : goal.again-requires-clause-folder
again-requires-clause-folder g c = λ v seen. (c.requires.used v seen).folder.folder

pub again-requires-clause-stage : goal.again-requires-clause-stage
again-requires-clause-stage g c = λ v seen. (c.requires.used v seen).stage

pub returns-in_err-again-clause-guard : goal.returns-in_err-again-clause-guard
returns-in_err-again-clause-guard g c = λ migration sides tells.
    let t0 = g.F.Folder.told c.args.folder.now in
    let t1 = g.F.Folder.told c.again.new.folder in
    let so_far = progress_of c.args.journal.phase in
    goes_failed _ migration so_far so_far Finished t0 t1 c.again.result c.from_residual.result c.from_residual.ensures.1
    (alone_goes migration so_far t0 t1 c.again.result (stage_alone c.settling_and_entering_keep_migrations_guarded.ensures.restages migration so_far c.args.work.now t0 t1 sides.work c.again.ensures.restages.moments))

pub returns-in_err-again-clause-moves : goal.returns-in_err-again-clause-moves
returns-in_err-again-clause-moves g c = (readied g (goal.at.returns-in_err-again-clause-moves g c).After-again).moves

pub go_on-requires-clause-apart : goal.go_on-requires-clause-apart
go_on-requires-clause-apart g c = subst (AreSeparate c.args.sides.now.source.root c.args.sides.now.target.root) (sym c.in_ok-again.ensures.path) c.requires.apart

pub go_on-requires-clause-ready : goal.go_on-requires-clause-ready
go_on-requires-clause-ready g c = λ v seen. subst (IsReady v) (sym c.in_ok-again.ensures.path) (c.in_ok-again.ensures.restages.ready v seen)

pub go_on-requires-clause-walked : goal.go_on-requires-clause-walked
go_on-requires-clause-walked g c =
    items_stay c.args.sides.now.names c.args.sides.now.source c.args.sides.now.target.root c.args.work.now c.args.items.now.own.items c.args.items.now.mapped.items (g.F.Folder.told c.args.folder.now) (g.F.Folder.told c.again.new.folder)
    c.requires.apart (g.met.F.Folder.sound c.args.folder.now) (readied g (goal.at.go_on-requires-clause-walked g c).After-again).moves c.requires.source

pub go_on-requires-clause-there : goal.go_on-requires-clause-there
go_on-requires-clause-there g c = λ v seen.
    let root = c.args.sides.now.target.root in
    subst IsOrdered (sym c.as_slice-there.ensures)
    (still_known c.args.work.now (IsOrdered c.args.target.now.items) (apart_from_both c.args.work.now root) root (g.F.Folder.told c.args.folder.now) (g.F.Folder.told c.again.new.folder) (readied g (goal.at.go_on-requires-clause-there g c).After-again).moves c.requires.target.ordered v seen)

pub go_on-requires-clause-work_folder : goal.go_on-requires-clause-work_folder
go_on-requires-clause-work_folder g c = λ v seen.
    let work = c.args.work.now in
    subst (IsWorkFolder v) (sym c.in_ok-again.ensures.path)
    (work_folder_stays (apart_from (stage_path work)) work (g.F.Folder.told c.args.folder.now) (g.F.Folder.told c.again.new.folder) (staging_has work) (g.met.F.Folder.sound c.args.folder.now) (rest_stays g (goal.at.go_on-requires-clause-work_folder g c).After-again)
    (λ w was. (c.requires.used w was).folder) v seen)

pub go_on-requires-clause-items : goal.go_on-requires-clause-items
go_on-requires-clause-items g c = c.requires.items_named

pub returns-clause-moves : goal.returns-clause-moves
returns-clause-moves g c =
    let t1 = g.F.Folder.told c.again.new.folder in
    let t2 = g.F.Folder.told c.go_on.new.folder in
    let root = c.args.sides.now.target.root in
    moves_on c.args.work.now (apart_from_both c.args.work.now root) root (g.F.Folder.told c.args.folder.now) t1 t2 (readied g (goal.at.returns-clause-moves g c).After-again).moves (subst (λ w. MovesOnly w root t1 t2) c.in_ok-again.ensures.path c.go_on.ensures.moves)

pub returns-clause-guard : goal.returns-clause-guard
returns-clause-guard g c = λ migration sides tells.
    let t0 = g.F.Folder.told c.args.folder.now in
    let t1 = g.F.Folder.told c.again.new.folder in
    let t2 = g.F.Folder.told c.go_on.new.folder in
    let work = c.args.work.now in
    let from = c.args.sides.now.source in
    let to = c.args.sides.now.target in
    let journal = c.args.journal in
    let own = c.args.items.now.own.items in
    let mapped = c.args.items.now.mapped.items in
    let there = c.args.target.now.items in
    let again = c.in_ok-again.again in
    let done : Result (Unit {0}) (Unit {0}) = Ok tt in
    rest_goes c.args.work.now c.guarded_migrations_are_seen.ensures.alone c.walks_tell_the_tree.ensures.plan (apart_from_both work to.root) to.root migration from to again journal own mapped there t0 t1 t2 c.go_on.result
    (returns-clause-moves g c) (record { source = sides.source; target = sides.target; names = sides.names; work = c.in_ok-again.ensures.path ∙ sides.work }) tells
    (subst (λ n. AreItemsToMove n t0 from own mapped) (sym c.requires.names_named) c.requires.source) c.requires.target
    (λ p. alone_goes migration p t0 t1 done (stage_alone c.settling_and_entering_keep_migrations_guarded.ensures.restages migration p work t0 t1 sides.work c.again.ensures.restages.moments))
    c.go_on.ensures.building (λ is all. c.go_on.ensures.done is (subst (StandAll mapped) (sym c.as_slice-there.ensures) all))

pub go_on-requires-clause-stands : goal.go_on-requires-clause-stands
go_on-requires-clause-stands g c phase =
    let t1 = g.F.Folder.told c.again.new.folder in
    let work = c.args.work.now in
    subst (λ w. IfSeen t1 (λ v. StandsIn w c.args.journal v)) (sym c.in_ok-again.ensures.path)
    (journal_stays (apart_from (stage_path work)) work c.args.journal (g.F.Folder.told c.args.folder.now) t1 (staging_has work).journal (g.met.F.Folder.sound c.args.folder.now) (rest_stays g (goal.at.go_on-requires-clause-stands g c).After-again) (λ v is. (c.requires.used v is).stands))

pub returns-clause-moved : goal.returns-clause-moved
returns-clause-moved g c = subst (λ w. Moved c.args.journal.names c.args.sides.now.source c.args.sides.now.target w (g.F.Folder.told c.go_on.new.folder) c.go_on.result) c.in_ok-again.ensures.path c.go_on.ensures.moved

pub returns-clause-placed : goal.returns-clause-placed
returns-clause-placed g c =
    let t0 = g.F.Folder.told c.args.folder.now in
    let t1 = g.F.Folder.told c.again.new.folder in
    let mapped = c.args.items.now.mapped.items in
    let there = c.args.target.now.items in
    if_ok_more (λ done. IfSeen t1 (λ v. done.placed ≡ lacking c.as_slice-there.result.now mapped)) (λ done. IfSeen t0 (λ v. done.placed ≡ lacking there mapped)) c.go_on.result
    (λ done is v seen. then_known _ t0 t1 (readied g (goal.at.returns-clause-placed g c).After-again).moves (done.placed ≡ lacking c.as_slice-there.result.now mapped) is v seen ∙ ap (λ xs. lacking xs mapped) c.as_slice-there.ensures) c.go_on.ensures.placed

pub returns-in_err-again-clause-cause : goal.returns-in_err-again-clause-cause
returns-in_err-again-clause-cause g c v seen =
    let from = c.args.sides.now.source in
    let to = c.args.sides.now.target in
    let work = c.args.work.now in
    let mapped = c.args.items.now.mapped.items in
    refused_as (λ answer. Unless answer (Moves (Empties v work) from to v mapped answer)) c.from_residual.result c.from_residual.ensures.1
    (work_refused of_work (Empties v work) (λ _. IsOfMoving (BothHaveOwnFolders from to v) (StopsAt (BothHaveOwnFolders from to v) from v mapped)) c.in_err-again.field-0.0 (c.in_err-again.ensures.restages.answer v seen))

pub returns-clause-cause : goal.returns-clause-cause
returns-clause-cause g c v seen =
    let rule = c.args.sides.now.names in
    let from = c.args.sides.now.source in
    let to = c.args.sides.now.target in
    let mapped = c.args.items.now.mapped.items in
    let ready = g.F.Folder.told c.again.new.folder in
    readied_stops rule from to c.args.work.now c.args.items.now.own.items mapped c.args.target.now.items (g.F.Folder.told c.args.folder.now) ready (readied g (goal.at.returns-clause-cause g c).After-again) (Empties v c.args.work.now) v c.go_on.result
    c.requires.source c.requires.copying seen (c.in_ok-again.ensures.restages.answer v seen)
    (subst (λ xs. IfErr c.go_on.result (StopsSeen (HasCopied rule from to xs) ready from mapped)) c.as_slice-there.ensures c.go_on.ensures.moving)

pub returns-in_err-again-clause-written : goal.returns-in_err-again-clause-written
returns-in_err-again-clause-written g c v seen =
    nothing_yet c.from_residual.result _ c.from_residual.ensures.1 (work_tested c.in_err-again.field-0.0).1 _ _ _ _ _ _ _ _ (c.draws_compose.ensures.none _) (no_file g (goal.at.returns-in_err-again-clause-written g c).After-again)

pub returns-clause-written : goal.returns-clause-written
returns-clause-written g c v seen =
    let here = (goal.at.returns-clause-written g c).After-again in
    let rule = c.args.sides.now.names in
    let from = c.args.sides.now.source in
    let to = c.args.sides.now.target in
    let mapped = c.args.items.now.mapped.items in
    let there = c.args.target.now.items in
    let texts = done_texts c.args.journal in
    let told = g.F.Folder.told c.args.folder.now in
    let ready = g.F.Folder.told c.again.new.folder in
    let after = g.F.Folder.told c.go_on.new.folder in
    let left = g.R.Randoms.left c.args.random.now in
    let left2 = g.R.Randoms.left c.go_on.new.random in
    texts_then c.draws_compose.ensures.composed from to (lacked there mapped) [] texts left left left2 told ready after c.go_on.result
    (lacked_kept rule from to c.args.work.now c.args.items.now.own.items mapped there told ready (readied g here) c.requires.source) (c.draws_compose.ensures.none left)
    (only_more (BringsOnlyTo to.root (λ at. ⊥)) (BringsOnlyTo to.root (λ at. ⊥)) (λ file. ⊥) (λ file. Contains [] file) (λ call is. is) (λ file none. absurd none) told ready (no_file g here))
    (subst (λ xs. WritesBy c.go_on.result from to (lacked xs mapped) texts left left2 ready after) c.as_slice-there.ensures
    (c.go_on.ensures.written (subst IsOrdered (sym c.as_slice-there.ensures) (c.requires.target.ordered v seen))))

pub returns-clause-blamed : goal.returns-clause-blamed
returns-clause-blamed g c =
    let random = g.R.Randoms.faults c.args.random.now in
    blamed_later (g.F.Folder.faults c.args.folder.now) (g.F.Folder.faults c.again.new.folder) (g.F.Folder.faults c.go_on.new.folder) random random (g.R.Randoms.faults c.go_on.new.random) c.go_on.result
    c.again.ensures.restages.grows (omega arith) c.go_on.ensures.blamed

pub returns-in_err-again-clause-ends : goal.returns-in_err-again-clause-ends
returns-in_err-again-clause-ends g c =
    ends_uncompared _ _ c.args.sides.now.names c.args.sides.now.source c.args.sides.now.target (g.F.Folder.told c.again.new.folder) c.from_residual.result _ c.from_residual.ensures.1 (work_tested c.in_err-again.field-0.0).0

pub returns-clause-ends : goal.returns-clause-ends
returns-clause-ends g c =
    let from = c.args.sides.now.source in
    let to = c.args.sides.now.target in
    let work = c.args.work.now in
    let rule = c.args.sides.now.names in
    let own = c.args.items.now.own.items in
    let mapped = c.args.items.now.mapped.items in
    let there = c.args.target.now.items in
    let told = g.F.Folder.told c.args.folder.now in
    let ready = g.F.Folder.told c.again.new.folder in
    let after = g.F.Folder.told c.go_on.new.folder in
    let left = g.R.Randoms.left c.args.random.now in
    let left' = g.R.Randoms.left c.go_on.new.random in
    let known = readied g (goal.at.returns-clause-ends g c).After-again in
    ends_more (CopiesAll rule from to there mapped ready after) (StayGood from to told after) (SharesFrom (IsFilled rule from to there) to work mapped left left' ready after) (SharesFrom (IsFilled rule from to there) to work mapped left left' told after) rule from to after
    c.go_on.result (readied_good rule from to work own mapped there told ready known after c.requires.copying) (readied_shares rule from to work own mapped there told ready known after left left' c.draws_compose.ensures.composed (c.draws_compose.ensures.none left))
    (subst₂ (λ w xs. EndsBy (CopiesAll rule from to xs mapped ready after) (SharesFrom (IsFilled rule from to xs) to w mapped left left' ready after) rule from to after c.go_on.result) c.in_ok-again.ensures.path c.as_slice-there.ensures c.go_on.ensures.ends)

pub returns-in_err-again-clause-unready : goal.returns-in_err-again-clause-unready
returns-in_err-again-clause-unready g c = inl (no_file g (goal.at.returns-in_err-again-clause-unready g c).After-again)

pub returns-clause-unready : goal.returns-clause-unready
returns-clause-unready g c = inr c.in_ok-again.ensures.restages.answer

pub returns-in_err-again-clause-drew : goal.returns-in_err-again-clause-drew
returns-in_err-again-clause-drew g c = drew_refused c.draws_compose.ensures.none (g.R.Randoms.left c.args.random.now) c.from_residual.result _ c.from_residual.ensures.1 (work_tested c.in_err-again.field-0.0).1

pub returns-in_err-again-clause-journal : goal.returns-in_err-again-clause-journal
returns-in_err-again-clause-journal g c = again_keeps g (goal.at.returns-in_err-again-clause-journal g c).After-again (HaveMappedTree c.args.sides.now.names c.args.sides.now.source c.args.sides.now.target)

pub returns-clause-journal : goal.returns-clause-journal
returns-clause-journal g c =
    let work = c.args.work.now in
    let told = g.F.Folder.told c.args.folder.now in
    let ready = g.F.Folder.told c.again.new.folder in
    let after = g.F.Folder.told c.go_on.new.folder in
    let Trees = HaveMappedTree c.args.sides.now.names c.args.sides.now.source c.args.sides.now.target in
    keeps_then Trees work c.args.journal told ready after (g.met.F.Folder.sound c.args.folder.now) (again_keeps g (goal.at.returns-clause-journal g c).After-again (λ v. ⊥)) (subst (λ w. KeepsTexts Trees w c.args.journal ready after) c.in_ok-again.ensures.path c.go_on.ensures.journal)

pub returns-clause-clears : goal.returns-clause-clears
returns-clause-clears g c =
    let work = c.args.work.now in
    let told = g.F.Folder.told c.args.folder.now in
    let ready = g.F.Folder.told c.again.new.folder in
    let after = g.F.Folder.told c.go_on.new.folder in
    on_ok_more (Clears c.in_ok-again.again ready after) (Clears work told after) c.go_on.result
    (λ clears. clears_later work (apart_from (stage_path work)) told ready after (staging_has work).new_journal (g.met.F.Folder.sound c.args.folder.now) (rest_stays g (goal.at.returns-clause-clears g c).After-again)
    (subst (λ w. Clears w ready after) c.in_ok-again.ensures.path clears)) c.go_on.ensures.clears
