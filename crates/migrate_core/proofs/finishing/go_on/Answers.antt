use Rattle.std.proofs.Common.{◌≡◌, ℕ, ◌∙◌, ap, sym, subst, [], arith, ◌∷◌, IfOk}
use Rattle.folder_spec.specs.Region.{apart_from_both}
use Rattle.folder_spec.specs.Seen.{IfSeen}
use Rattle.move_journal.specs.Writing.{IsWorkFolder}
use Rattle.migration_spec.specs.Alone.{Begun, Finished}
use Rattle.item_making.specs.Making.{is_apart}
use Rattle.migrate_core.proofs.Leadings.{goes_failed, goes_on, refused_nowhere}
use Rattle.migrate_core.proofs.Movings.{mapped_walk, moves_on, moves_to, moves_within, moving_stays, source_apart}
use Rattle.migrate_core.proofs.WorkFolders.{beside_staged, journal_stays, placing_has, tidy_placed, work_folder_stays}
use Rattle.migrate_core.specs.Leading.{Goes, progress_of}
use Rattle.migrate_core.proofs.Endings.{if_ok_more}
use Rattle.migrate_core.specs.Moved.{HaveMappedTree, Moved, StaysTidyWork, lacking}
use Rattle.migrate_core.specs.Moving.{MovesOnly}
use Rattle.migrate_core.specs.Copying.{CopiesAll, HasCopied}
use Rattle.migrate_core.specs.Sides.{AllowsEach, IsMappedWalk, StandAll}
use Rattle.vault_spec.specs.Vault.{format_of}
use Rattle.migrate_core.specs.Written.{WritesAll, WritesBy, WritesFirst, done_texts, lacked}
use Rattle.migrate_core.proofs.Writings.{by_texts, then_texts}
use Rattle.migrate_core.proofs.WrittenTrees.{by_all}
use Rattle.move_journal.specs.Reading.{StandsIn}
use Rattle.migrate_core.proofs.Stopping.{later_seen}
use Rattle.migrate_core.specs.Causes.{StopsSeen}
use Rattle.migrate_core.proofs.Limits.{ends_later, ends_stopped}
use Rattle.migrate_core.specs.Limits.{StopsFor}
use Rattle.migrate_core.specs.Sharing.{IsFilled, OneShares, SharesFrom}
use Rattle.migrate_core.proofs.Drawing.{drew_err, drew_failed, drew_ok, drew_tested}
use Rattle.migrate_core.proofs.finishing.go_on.Goals as goal
use Rattle.migration_spec.proofs.Tellings.{seen_then}
use Rattle.migration_sides.proofs.Chains.{fault_as, refused_as}
use Rattle.migrate_core.proofs.Lastings.{cleared_later, keeps_then, on_ok_more, texts_by_region}
use Rattle.migrate_core.specs.Lasting.{Clears, ClearsReady, KeepsTexts}
use Rattle.migrate_core.specs.Moving.{OnlyBrings}

pub place_missing-requires-clause-walked : goal.place_missing-requires-clause-walked
place_missing-requires-clause-walked g c =
    let told = g.F.Folder.told c.args.folder.now in
    let from = c.args.sides.now.source in
    let rule = c.args.sides.now.names in
    subst (λ items. IsMappedWalk rule told from items) (sym c.as_slice-mapped.ensures) (mapped_walk rule told from c.args.items.now.own.items c.args.items.now.mapped.items c.requires.walked)

pub returns-in_err-placed-clause-building : goal.returns-in_err-placed-clause-building
returns-in_err-placed-clause-building g c phase m sides tells =
    goes_failed _ m Begun Begun Finished (g.F.Folder.told c.args.folder.now) (g.F.Folder.told c.place_missing.new.folder) c.place_missing.result c.from_residual.result c.from_residual.ensures.1
    (c.place_missing.ensures.guard m (record { source = sides.source; target = sides.target; names = sym c.requires.names ∙ sides.names; work = sides.work }))

pub returns-in_err-placed-clause-done : goal.returns-in_err-placed-clause-done
returns-in_err-placed-clause-done g c phase all m sides tells =
    refused_nowhere _ m Finished Finished _ _ c.from_residual.result c.from_residual.ensures.1
    (c.place_missing.ensures.none (subst (λ items. StandAll items c.args.there.now) (sym c.as_slice-mapped.ensures) all))

pub returns-in_err-placed-clause-moves : goal.returns-in_err-placed-clause-moves
returns-in_err-placed-clause-moves g c =
    let root = c.args.sides.now.target.root in
    moves_within c.args.work.now (apart_from_both c.args.work.now root) (is_apart c.args.work.now root) root (g.F.Folder.told c.args.folder.now) (g.F.Folder.told c.place_missing.new.folder) (beside_staged c.args.work.now root)
    c.place_missing.ensures.moves

pub finish-requires-clause-walked : goal.finish-requires-clause-walked
finish-requires-clause-walked g c =
    let rule = c.args.sides.now.names in
    let from = c.args.sides.now.source in
    let to = c.args.sides.now.target in
    let told = g.F.Folder.told c.args.folder.now in
    let here = g.F.Folder.told c.place_missing.new.folder in
    moving_stays (is_apart c.args.work.now to.root) rule from c.args.items.now.own.items c.args.items.now.mapped.items told here (λ rest. source_apart from.root to.root c.args.work.now rest c.requires.apart) (g.met.F.Folder.sound c.args.folder.now)
    (moves_to c.args.work.now (is_apart c.args.work.now to.root) to.root told here c.place_missing.ensures.moves) c.requires.walked

pub finish-requires-clause-work_folder : goal.finish-requires-clause-work_folder
finish-requires-clause-work_folder g c =
    let root = c.args.sides.now.target.root in
    let told = g.F.Folder.told c.args.folder.now in
    let here = g.F.Folder.told c.place_missing.new.folder in
    subst (λ w. IfSeen here (λ v. IsWorkFolder v w)) (sym c.at.ensures)
    (work_folder_stays (is_apart c.args.work.now root) c.args.work.now told here (placing_has c.args.work.now root c.requires.apart.target) (g.met.F.Folder.sound c.args.folder.now)
    (moves_to c.args.work.now (is_apart c.args.work.now root) root told here c.place_missing.ensures.moves) c.requires.work_folder)

pub returns-clause-building : goal.returns-clause-building
returns-clause-building g c phase m sides tells =
    let told = g.F.Folder.told c.args.folder.now in
    let here = g.F.Folder.told c.place_missing.new.folder in
    let told' = g.F.Folder.told c.finish.new.folder in
    let placed = c.in_ok-placed.ensures.guard m (record { source = sides.source; target = sides.target; names = sym c.requires.names ∙ sides.names; work = sides.work }) in
    goes_on m Begun Begun Finished told here told' c.finish.result placed.0 placed.1
    (subst (λ p. Goes m p Finished here told' c.finish.result) (ap progress_of phase) (c.finish.ensures.guard m (record { source = sides.source; target = sides.target; names = sides.names; work = c.at.ensures ∙ sides.work }) tells))

pub returns-clause-done : goal.returns-clause-done
returns-clause-done g c phase all m sides tells =
    let told' = g.F.Folder.told c.finish.new.folder in
    subst (λ t. Goes m Finished Finished t told' c.finish.result) (c.in_ok-placed.ensures.none (subst (λ items. StandAll items c.args.there.now) (sym c.as_slice-mapped.ensures) all))
    (subst (λ p. Goes m p Finished (g.F.Folder.told c.place_missing.new.folder) told' c.finish.result) (ap progress_of phase)
    (c.finish.ensures.guard m (record { source = sides.source; target = sides.target; names = sides.names; work = c.at.ensures ∙ sides.work }) tells))

pub returns-clause-moves : goal.returns-clause-moves
returns-clause-moves g c =
    let root = c.args.sides.now.target.root in
    let told = g.F.Folder.told c.args.folder.now in
    let here = g.F.Folder.told c.place_missing.new.folder in
    moves_on c.args.work.now (apart_from_both c.args.work.now root) root told here (g.F.Folder.told c.finish.new.folder)
    (moves_within c.args.work.now (apart_from_both c.args.work.now root) (is_apart c.args.work.now root) root told here (beside_staged c.args.work.now root) c.place_missing.ensures.moves)
    (subst (λ w. MovesOnly w root here (g.F.Folder.told c.finish.new.folder)) c.at.ensures c.finish.ensures.moves)

pub finish-requires-clause-stands : goal.finish-requires-clause-stands
finish-requires-clause-stands g c phase =
    let root = c.args.sides.now.target.root in
    let told = g.F.Folder.told c.args.folder.now in
    let here = g.F.Folder.told c.place_missing.new.folder in
    subst (λ w. IfSeen here (λ v. StandsIn w c.args.journal v)) (sym c.at.ensures)
    (journal_stays (is_apart c.args.work.now root) c.args.work.now c.args.journal told here (placing_has c.args.work.now root c.requires.apart.target).journal (g.met.F.Folder.sound c.args.folder.now)
    (moves_to c.args.work.now (is_apart c.args.work.now root) root told here c.place_missing.ensures.moves) (c.requires.stands phase))

pub returns-clause-moved : goal.returns-clause-moved
returns-clause-moved g c = subst (λ w. Moved c.args.journal.names c.args.sides.now.source c.args.sides.now.target w (g.F.Folder.told c.finish.new.folder) c.finish.result) c.at.ensures c.finish.ensures.moved

pub returns-clause-placed : goal.returns-clause-placed
returns-clause-placed g c =
    if_ok_more (λ done. done.placed ≡ c.in_ok-placed.placed) (λ done. IfSeen (g.F.Folder.told c.args.folder.now) (λ v. done.placed ≡ lacking c.args.there.now c.args.items.now.mapped.items)) c.finish.result
    (λ done is v seen. is ∙ c.in_ok-placed.ensures.counted (c.requires.there v seen) ∙ ap (lacking c.args.there.now) c.as_slice-mapped.ensures) c.finish.ensures.placed

pub returns-in_err-placed-clause-written : goal.returns-in_err-placed-clause-written
returns-in_err-placed-clause-written g c ordered =
    let from = c.args.sides.now.source in
    let to = c.args.sides.now.target in
    let there = c.args.there.now in
    let items = c.args.items.now.mapped.items in
    let texts = done_texts c.args.journal in
    let told = g.F.Folder.told c.args.folder.now in
    let here = g.F.Folder.told c.place_missing.new.folder in
    let left = g.R.Randoms.left c.args.random.now in
    let left1 = g.R.Randoms.left c.place_missing.new.random in
    by_texts from to (lacked there items) [] texts left left1 told here (λ text none. absurd (omega (arith, none.1))) c.from_residual.result
    (refused_as (λ answer. WritesBy answer from to (lacked there items) [] left left1 told here) c.from_residual.result c.from_residual.ensures.1
    (subst (λ xs. WritesFirst c.in_err-placed.field-0.0 from to (lacked there xs) [] left left1 told here) c.as_slice-mapped.ensures (c.in_err-placed.ensures.written ordered)))

pub returns-clause-written : goal.returns-clause-written
returns-clause-written g c ordered =
    let rule = c.args.sides.now.names in
    let from = c.args.sides.now.source in
    let to = c.args.sides.now.target in
    let there = c.args.there.now in
    let items = c.args.items.now.mapped.items in
    let texts = done_texts c.args.journal in
    let told = g.F.Folder.told c.args.folder.now in
    let here = g.F.Folder.told c.place_missing.new.folder in
    let left = g.R.Randoms.left c.args.random.now in
    let left1 = g.R.Randoms.left c.place_missing.new.random in
    let told' = g.F.Folder.told c.finish.new.folder in
    by_all c.finish.result (HasCopied rule from to items) from to (lacked there items) texts left left1 told here told' (seen_then _ told here c.place_missing.ensures.moves) c.finish.ensures.moving
    (then_texts c.draws_compose.ensures.composed from to (lacked there items) [] texts left left1 left1 told here told'
    (subst (λ xs. WritesAll from to (lacked there xs) [] left left1 told here) c.as_slice-mapped.ensures (c.in_ok-placed.ensures.written ordered)) (c.draws_compose.ensures.none left1) c.finish.ensures.written)

pub returns-in_err-placed-clause-moving : goal.returns-in_err-placed-clause-moving
returns-in_err-placed-clause-moving g c =
    let rule = c.args.sides.now.names in
    let from = c.args.sides.now.source in
    let told = g.F.Folder.told c.args.folder.now in
    let Has = HasCopied rule from c.args.sides.now.target c.args.there.now in
    fault_as _ c.from_residual.result c.from_residual.ensures.1
    (subst (λ xs. StopsSeen Has told from xs c.in_err-placed.field-0.0) c.as_slice-mapped.ensures c.in_err-placed.ensures.moving)

pub returns-clause-moving : goal.returns-clause-moving
returns-clause-moving g c =
    let rule = c.args.sides.now.names in
    let from = c.args.sides.now.source in
    let to = c.args.sides.now.target in
    let items = c.args.items.now.mapped.items in
    let there = c.args.there.now in
    let told = g.F.Folder.told c.args.folder.now in
    let here = g.F.Folder.told c.place_missing.new.folder in
    later_seen c.finish.result (HasCopied rule from to items) (HasCopied rule from to there) from items told here (subst (λ xs. CopiesAll rule from to there xs told here) c.as_slice-mapped.ensures c.in_ok-placed.ensures.copies)
    (seen_then _ told here c.place_missing.ensures.moves) c.finish.ensures.moving

pub place_missing-requires-clause-allowed : goal.place_missing-requires-clause-allowed
place_missing-requires-clause-allowed g c = subst (λ items. AllowsEach (format_of c.args.sides.now.target.vault) items) (sym c.as_slice-mapped.ensures) c.requires.allowed

pub returns-clause-tidy : goal.returns-clause-tidy
returns-clause-tidy g c =
    let work = c.args.work.now in
    let root = c.args.sides.now.target.root in
    let told = g.F.Folder.told c.args.folder.now in
    let here = g.F.Folder.told c.place_missing.new.folder in
    let after = g.F.Folder.told c.finish.new.folder in
    if_ok_more (λ done. StaysTidyWork work here after) (λ done. StaysTidyWork work told after) c.finish.result
    (λ done stays was. stays (tidy_placed work root told here c.requires.apart.target (g.met.F.Folder.sound c.args.folder.now) (moves_to c.args.work.now (is_apart work root) root told here c.place_missing.ensures.moves) c.in_ok-placed.ensures.ready was))
    (subst (λ w. IfOk c.finish.result (λ done. StaysTidyWork w here after)) c.at.ensures c.finish.ensures.tidy)

pub returns-in_err-placed-clause-ends : goal.returns-in_err-placed-clause-ends
returns-in_err-placed-clause-ends g c =
    let rule = c.args.sides.now.names in
    let from = c.args.sides.now.source in
    let to = c.args.sides.now.target in
    let told = g.F.Folder.told c.args.folder.now in
    let here = g.F.Folder.told c.place_missing.new.folder in
    let left = g.R.Randoms.left c.args.random.now in
    let left1 = g.R.Randoms.left c.place_missing.new.random in
    ends_stopped _ (SharesFrom (IsFilled rule from to c.args.there.now) to c.args.work.now c.args.items.now.mapped.items left left1 told here) rule from to here c.from_residual.result _ c.from_residual.ensures.1
    (subst (λ xs. StopsFor (SharesFrom (IsFilled rule from to c.args.there.now) to c.args.work.now xs left left1 told here) c.in_err-placed.field-0.0) c.as_slice-mapped.ensures c.in_err-placed.ensures.stops)

pub returns-clause-ends : goal.returns-clause-ends
returns-clause-ends g c =
    let rule = c.args.sides.now.names in
    let from = c.args.sides.now.source in
    let to = c.args.sides.now.target in
    let items = c.args.items.now.mapped.items in
    let there = c.args.there.now in
    let told = g.F.Folder.told c.args.folder.now in
    let here = g.F.Folder.told c.place_missing.new.folder in
    let after = g.F.Folder.told c.finish.new.folder in
    let copies : CopiesAll rule from to there items told here = subst (λ xs. CopiesAll rule from to there xs told here) c.as_slice-mapped.ensures c.in_ok-placed.ensures.copies in
    ends_later (CopiesAll rule from to items items here after) (CopiesAll rule from to there items told after) (HasCopied rule from to items)
    (λ v. IsFilled rule from to there v → OneShares to c.args.work.now items v (g.R.Randoms.left c.args.random.now) (g.R.Randoms.left c.place_missing.new.random) after) rule from to told here after c.finish.result
    (λ stays v w is_v is_w has. let u = seen_then _ told here c.place_missing.ensures.moves v is_v in stays u.0 w u.1 is_w (copies v u.0 is_v u.1 has)) (seen_then _ told here c.place_missing.ensures.moves)
    c.finish.ensures.moving c.finish.ensures.ends

pub returns-in_err-placed-clause-drew : goal.returns-in_err-placed-clause-drew
returns-in_err-placed-clause-drew g c =
    let left = g.R.Randoms.left c.args.random.now in
    let left1 = g.R.Randoms.left c.place_missing.new.random in
    drew_failed left left1 c.from_residual.result c.from_residual.ensures.1 (drew_err ℕ c.in_err-placed.field-0.0 left left1 c.in_err-placed.ensures.drew)

pub returns-clause-drew : goal.returns-clause-drew
returns-clause-drew g c =
    let left = g.R.Randoms.left c.args.random.now in
    let left1 = g.R.Randoms.left c.place_missing.new.random in
    drew_tested c.finish.result left left1 c.finish.ensures.tested (drew_ok c.in_ok-placed.placed left left1 c.in_ok-placed.ensures.drew)

pub returns-in_err-placed-clause-journal : goal.returns-in_err-placed-clause-journal
returns-in_err-placed-clause-journal g c =
    let work = c.args.work.now in
    let root = c.args.sides.now.target.root in
    texts_by_region (HaveMappedTree c.args.sides.now.names c.args.sides.now.source c.args.sides.now.target) work c.args.journal (is_apart work root) (λ s0 s e. OnlyBrings work root s e.call) (g.F.Folder.told c.args.folder.now) (g.F.Folder.told c.place_missing.new.folder) (placing_has work root c.requires.apart.target).journal (g.met.F.Folder.sound c.args.folder.now) c.place_missing.ensures.moves

pub returns-clause-journal : goal.returns-clause-journal
returns-clause-journal g c =
    let work = c.args.work.now in
    let root = c.args.sides.now.target.root in
    let told = g.F.Folder.told c.args.folder.now in
    let here = g.F.Folder.told c.place_missing.new.folder in
    let after = g.F.Folder.told c.finish.new.folder in
    keeps_then (HaveMappedTree c.args.sides.now.names c.args.sides.now.source c.args.sides.now.target) work c.args.journal told here after (g.met.F.Folder.sound c.args.folder.now)
    (texts_by_region (λ v. ⊥) work c.args.journal (is_apart work root) (λ s0 s e. OnlyBrings work root s e.call) told here (placing_has work root c.requires.apart.target).journal (g.met.F.Folder.sound c.args.folder.now) c.place_missing.ensures.moves)
    (subst (λ w. KeepsTexts (HaveMappedTree c.args.sides.now.names c.args.sides.now.source c.args.sides.now.target) w c.args.journal here after) c.at.ensures c.finish.ensures.journal)

pub returns-clause-clears : goal.returns-clause-clears
returns-clause-clears g c =
    let work = c.args.work.now in
    let root = c.args.sides.now.target.root in
    let told = g.F.Folder.told c.args.folder.now in
    let here = g.F.Folder.told c.place_missing.new.folder in
    let after = g.F.Folder.told c.finish.new.folder in
    on_ok_more (ClearsReady c.at.result.now here after) (Clears work told after) c.finish.result
    (λ clears. cleared_later work (is_apart work root) told here after (placing_has work root c.requires.apart.target).new_journal (g.met.F.Folder.sound c.args.folder.now) (moves_to work (is_apart work root) root told here c.place_missing.ensures.moves)
    c.in_ok-placed.ensures.ready (subst (λ w. ClearsReady w here after) c.at.ensures clears)) c.finish.ensures.clears
