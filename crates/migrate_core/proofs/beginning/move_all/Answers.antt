use Rattle.std.proofs.Common.{◌≡◌, [], Result, ◌∙◌, Ok, IfOk, sym, ap, subst, Err, Contains, ◌∷◌, refl, OnOk, inl, inr}
use Rattle.folder_spec.specs.declared.FolderFault.{FolderFault}
use Rattle.folder_spec.specs.Region.{apart_from_both}
use Rattle.folder_spec.specs.Seen.{IfSeen}
use Rattle.move_journal.specs.Writing.{IsWorkFolder, HasWritten}
use Rattle.move_journal.specs.declared.journal.Journal.{Journal}
use Rattle.migration_spec.specs.Alone.{Begun, Finished, Unbegun}
use Rattle.work_folder.specs.Changing.{ChangesAt}
use Rattle.work_folder.specs.Entering.{IsLeftOver, IsReady, IsWorkOrStage, EntersAs}
use Rattle.migrate_core.proofs.Beginnings.{AreCited, enters_goes, told_goes, written_goes}
use Rattle.migrate_core.proofs.Leadings.{goes_failed, goes_on, then_known}
use Rattle.migrate_core.proofs.Movings.{moves_on, items_stay}
use Rattle.migrate_core.proofs.WorkFolders.{entered_empties, entered_moves, fresh_folder, fresh_tidy, ready_stays, tidy_written, written_beside, written_folder}
use Rattle.migrate_core.specs.Leading.{LeadsTold, LeadsEach}
use Rattle.migrate_core.specs.Moving.{MovesOnly}
use Rattle.migrate_core.specs.Sides.{new_journal, AreItemsToMove}
use Rattle.migrate_core.proofs.Endings.{if_ok_more}
use Rattle.migrate_core.specs.Moved.{HaveMappedTree, IsTidyWork, Moved, StaysTidyWork, lacking, done_of}
use Rattle.migrate_core.proofs.Causing.{moves_pass, never_more}
use Rattle.migrate_core.specs.Causes.{IsOfMoving, Moves, Unless, StopsAt}
use Rattle.migrate_core.specs.Copying.{BothHaveOwnFolders}
use Rattle.migrate_core.specs.Faults.{of_folder, of_work}
use Rattle.migrate_core.proofs.Writings.{changing_writes, in_first, journal_written, nothing_yet, beside_on, stop_is_test, texts_first, texts_then}
use Rattle.migrate_core.proofs.WrittenTrees.{none_ordered}
use Rattle.migrate_core.specs.Written.{WritesBeside, WritesBy, done_texts, lacked}
use Rattle.move_journal.specs.Journal.{journal_text}
use Rattle.migrate_core.proofs.Limits.{ends_more, ends_uncompared}
use Rattle.migrate_core.specs.Copying.{CopiesAll, StayGood}
use Rattle.migrate_core.specs.Sharing.{IsFilled, SharesFrom}
use Rattle.migrate_core.proofs.Drawing.{drew_refused}
use Rattle.migrate_core.proofs.beginning.move_all.Given.{Over}
use Rattle.migrate_core.proofs.beginning.move_all.Goals as goal
use Rattle.migrate_core.proofs.beginning.move_all.Goals.{After-write}
use Rattle.migration_sides.proofs.Chains.{refused_as}
use Rattle.migration_sides.proofs.Told.{folder_unless, work_refused}
use Rattle.migrate_core.proofs.Tested.{folder_tested, work_tested}
use Rattle.migrate_core.proofs.Readied.{begun_readied, lacked_kept, readied_good, readied_shares, readied_stops, IsReadied}
use Rattle.migrate_core.proofs.Bringing.{brings_done, brings_then, brings_written, texts_entered, unbrought_between}
use Rattle.migrate_core.specs.Lasting.{BringsTexts, KeepsTexts}
use Rattle.migrate_core.specs.Limits.{EndsBy}

-- once the new journal is written, or that has failed
module _ (g : Over) (c : After-write g) where
  -- it is that of these vaults and items
  is_new : c.in_ok-journal.journal ≡ new_journal c.args.sides.now.names c.args.sides.now.source.root c.args.sides.now.target.root c.args.items.now.own.items
  is_new =
      let rule = c.args.sides.now.names in
      let items = c.args.items.now.own.items in
      c.in_ok-journal.ensures.new ∙ ap (λ root. new_journal rule root c.root-2.result.now items) c.root.ensures ∙ ap (λ root. new_journal rule c.args.sides.now.source.root root items) c.root-2.ensures

  readied : IsReadied c.args.sides.now.source.root c.args.sides.now.target.root c.args.work.now (g.F.Folder.told c.args.folder.now) (g.F.Folder.told c.write.new.folder)
  readied =
      begun_readied c.args.work.now c.args.sides.now.source.root c.args.sides.now.target.root c.in_ok-journal.journal (g.F.Folder.told c.args.folder.now) (g.F.Folder.told c.enter.new.folder) (g.F.Folder.told c.write.new.folder)
      c.requires.apart (g.met.F.Folder.sound c.args.folder.now) c.enter.ensures.enters.moments c.write.ensures.moments

  still_walked : AreItemsToMove c.args.sides.now.names (g.F.Folder.told c.write.new.folder) c.args.sides.now.source c.args.items.now.own.items c.args.items.now.mapped.items
  still_walked =
      items_stay c.args.sides.now.names c.args.sides.now.source c.args.sides.now.target.root c.args.work.now c.args.items.now.own.items c.args.items.now.mapped.items (g.F.Folder.told c.args.folder.now) (g.F.Folder.told c.write.new.folder)
      c.requires.apart (g.met.F.Folder.sound c.args.folder.now) readied.moves c.requires.walked

  -- only its text is written
  text_written : WritesBeside c.args.sides.now.target.root (λ file. Contains (journal_text (new_journal c.args.sides.now.names c.args.sides.now.source.root c.args.sides.now.target.root c.args.items.now.own.items) ∷ []) file)
      (g.F.Folder.told c.args.folder.now) (g.F.Folder.told c.write.new.folder)
  text_written =
      let root = c.args.sides.now.target.root in
      let work = c.args.work.now in
      let told = g.F.Folder.told c.args.folder.now in
      let entered = g.F.Folder.told c.enter.new.folder in
      let written = g.F.Folder.told c.write.new.folder in
      let j = c.in_ok-journal.journal in
      subst (λ (k : Journal). WritesBeside root (λ file. Contains (journal_text k ∷ []) file) told written) is_new
      (beside_on root (λ file. ⊥) (λ file. Contains (journal_text j ∷ []) file) (λ file. Contains (journal_text j ∷ []) file) (λ file none. absurd none) (λ file text. text) told entered written
      (changing_writes work (IsWorkOrStage work) (IsLeftOver work) root c.requires.apart.target told entered c.enter.ensures.enters.moments) (journal_written work root c.requires.apart.target j entered written c.write.ensures.moments))

  -- a migration is begun once it is
  begun : (result : Result (Unit {0}) FolderFault) → OnOk result (HasWritten c.args.work.now c.in_ok-journal.journal (g.F.Folder.told c.enter.new.folder) (g.F.Folder.told c.write.new.folder))
      → LeadsEach c.args.sides.now.names c.args.sides.now.source c.args.sides.now.target c.args.work.now Unbegun Begun (g.F.Folder.told c.args.folder.now) (g.F.Folder.told c.write.new.folder) result
  begun result has_written =
      let cited : AreCited = record {
        shown = c.guarded_migrations_are_seen.ensures.alone;
        plans = c.walks_tell_the_tree.ensures.plan;
        apart = c.mapped_walks_tell_the_mapped_tree.ensures.apart;
        below = c.what_stands_is_found_step_by_step.ensures.below;
        enters = c.settling_and_entering_keep_migrations_guarded.ensures.enters;
        begins = c.journals_keep_migrations_guarded.ensures.begins;
        begun = c.journals_keep_migrations_guarded.ensures.begun;
      } in
      let rule = c.args.sides.now.names in
      let from = c.args.sides.now.source in
      let to = c.args.sides.now.target in
      let work = c.args.work.now in
      let items = c.args.items.now.own.items in
      let mapped = c.args.items.now.mapped.items in
      let told = g.F.Folder.told c.args.folder.now in
      let entered = g.F.Folder.told c.enter.new.folder in
      let walked = items_stay rule from to.root work items mapped told entered c.requires.apart (g.met.F.Folder.sound c.args.folder.now)
      (entered_moves work to.root (IsWorkOrStage work) (IsLeftOver work) told entered c.requires.apart.target c.enter.ensures.enters.moments) c.requires.walked in
      written_goes cited rule from to work items mapped told entered (g.F.Folder.told c.write.new.folder) c.in_ok-journal.journal result is_new c.requires.source c.requires.target c.in_ok-journal.ensures.digest c.requires.named walked
      (g.met.F.Folder.sound c.write.new.folder) c.enter.ensures.enters.moments c.write.ensures.moments has_written

pub returns-in_err-entered-clause-guard : goal.returns-in_err-entered-clause-guard
returns-in_err-entered-clause-guard g c m sides =
    let told = g.F.Folder.told c.args.folder.now in
    let entered = g.F.Folder.told c.enter.new.folder in
    goes_failed _ m Unbegun Unbegun Finished told entered c.enter.result c.from_residual.result c.from_residual.ensures.1
    (enters_goes c.settling_and_entering_keep_migrations_guarded.ensures.enters m Unbegun told entered c.enter.result
    (subst (λ w. ChangesAt w (IsWorkOrStage w) (IsLeftOver w) told entered) sides.work c.enter.ensures.enters.moments))

pub returns-in_err-entered-clause-moves : goal.returns-in_err-entered-clause-moves
returns-in_err-entered-clause-moves g c =
    let work = c.args.work.now in
    entered_moves work c.args.sides.now.target.root (IsWorkOrStage work) (IsLeftOver work) (g.F.Folder.told c.args.folder.now) (g.F.Folder.told c.enter.new.folder) c.requires.apart.target c.enter.ensures.enters.moments

pub returns-in_err-journal-clause-guard : goal.returns-in_err-journal-clause-guard
returns-in_err-journal-clause-guard g c m sides =
    let told = g.F.Folder.told c.args.folder.now in
    let entered = g.F.Folder.told c.enter.new.folder in
    goes_failed _ m Unbegun Unbegun Finished told entered c.enter.result c.from_residual-in_err-journal.result c.from_residual-in_err-journal.ensures.1
    (enters_goes c.settling_and_entering_keep_migrations_guarded.ensures.enters m Unbegun told entered c.enter.result
    (subst (λ w. ChangesAt w (IsWorkOrStage w) (IsLeftOver w) told entered) sides.work c.enter.ensures.enters.moments))

pub returns-in_err-journal-clause-moves : goal.returns-in_err-journal-clause-moves
returns-in_err-journal-clause-moves g c =
    let work = c.args.work.now in
    entered_moves work c.args.sides.now.target.root (IsWorkOrStage work) (IsLeftOver work) (g.F.Folder.told c.args.folder.now) (g.F.Folder.told c.enter.new.folder) c.requires.apart.target c.enter.ensures.enters.moments

pub returns-in_err-write-clause-moves : goal.returns-in_err-write-clause-moves
returns-in_err-write-clause-moves g c = (readied g (goal.at.returns-in_err-write-clause-moves g c).After-write).moves

pub go_on-requires-clause-walked : goal.go_on-requires-clause-walked
go_on-requires-clause-walked g c = still_walked g (goal.at.go_on-requires-clause-walked g c).After-write

pub go_on-requires-clause-ready : goal.go_on-requires-clause-ready
go_on-requires-clause-ready g c =
    let work = c.args.work.now in
    let entered = g.F.Folder.told c.enter.new.folder in
    let written = g.F.Folder.told c.write.new.folder in
    subst (λ w. IfSeen written (λ v. IsReady v w)) (sym c.in_ok-entered.ensures.path)
    (ready_stays work entered written (g.met.F.Folder.sound c.enter.new.folder)
    (written_beside work c.in_ok-journal.journal entered written c.write.ensures.moments)
    (λ v is. (c.in_ok-entered.ensures.enters.ready v is).ready))

pub go_on-requires-clause-work_folder : goal.go_on-requires-clause-work_folder
go_on-requires-clause-work_folder g c =
    let work = c.args.work.now in
    let entered = g.F.Folder.told c.enter.new.folder in
    let written = g.F.Folder.told c.write.new.folder in
    subst (λ w. IfSeen written (λ v. IsWorkFolder v w)) (sym c.in_ok-entered.ensures.path)
    (written_folder work c.in_ok-journal.journal entered written (g.met.F.Folder.sound c.enter.new.folder)
    (written_beside work c.in_ok-journal.journal entered written c.write.ensures.moments)
    c.in_ok-write.ensures.written (λ v is. fresh_folder v work (c.in_ok-entered.ensures.enters.ready v is)))

pub returns-clause-moves : goal.returns-clause-moves
returns-clause-moves g c =
    let root = c.args.sides.now.target.root in
    let written = g.F.Folder.told c.write.new.folder in
    let after = g.F.Folder.told c.go_on.new.folder in
    moves_on c.args.work.now (apart_from_both c.args.work.now root) root (g.F.Folder.told c.args.folder.now) written after (readied g (goal.at.returns-clause-moves g c).After-write).moves
    (subst (λ w. MovesOnly w root written after) c.in_ok-entered.ensures.path c.go_on.ensures.moves)

pub returns-in_err-write-clause-guard : goal.returns-in_err-write-clause-guard
returns-in_err-write-clause-guard g c m sides =
    goes_failed _ m Unbegun Begun Finished (g.F.Folder.told c.args.folder.now) (g.F.Folder.told c.write.new.folder) c.write.result c.from_residual-in_err-write.result c.from_residual-in_err-write.ensures.1
    (begun g (goal.at.returns-in_err-write-clause-guard g c).After-write c.write.result c.write.ensures.written m sides)

pub returns-clause-guard : goal.returns-clause-guard
returns-clause-guard g c m sides =
    let here = (goal.at.returns-clause-guard g c).After-write in
    let from = c.args.sides.now.source in
    let to = c.args.sides.now.target in
    let rule = c.args.sides.now.names in
    let items = c.args.items.now.own.items in
    let written = g.F.Folder.told c.write.new.folder in
    let after = g.F.Folder.told c.go_on.new.folder in
    let is = is_new g here in
    let one = begun g here (Ok tt) c.in_ok-write.ensures.written m sides in
    let goes = subst (λ k. LeadsTold from to c.in_ok-entered.entered k Begun Finished written after c.go_on.result) is (c.go_on.ensures.building (ap (λ (k : Journal). k.phase) is)) in
    goes_on m Unbegun Begun Finished (g.F.Folder.told c.args.folder.now) written after c.go_on.result one.0 one.1
    (told_goes c.guarded_migrations_are_seen.ensures.alone c.walks_tell_the_tree.ensures.plan _ rule from to c.args.work.now items Begun Finished written after c.go_on.result c.go_on.ensures.moves (still_walked g here).walked
    (subst (λ w. LeadsTold from to w (new_journal rule from.root to.root items) Begun Finished written after c.go_on.result) c.in_ok-entered.ensures.path goes) m sides)

pub go_on-requires-clause-stands : goal.go_on-requires-clause-stands
go_on-requires-clause-stands g c phase =
    (let same = sym (ap (λ (j : Journal). j.phase) c.in_ok-journal.ensures.new) ∙ phase in cc same)

pub go_on-requires-clause-source : goal.go_on-requires-clause-source
go_on-requires-clause-source g c = ap (λ (j : Journal). j.source) c.in_ok-journal.ensures.new ∙ c.root.ensures

pub go_on-requires-clause-target : goal.go_on-requires-clause-target
go_on-requires-clause-target g c = ap (λ (j : Journal). j.target) c.in_ok-journal.ensures.new ∙ c.root-2.ensures

pub go_on-requires-clause-names : goal.go_on-requires-clause-names
go_on-requires-clause-names g c = ap (λ (j : Journal). j.names) c.in_ok-journal.ensures.new

pub go_on-requires-clause-items : goal.go_on-requires-clause-items
go_on-requires-clause-items g c = (ap (λ (j : Journal). j.plan) c.in_ok-journal.ensures.new, ap (λ (j : Journal). j.items) c.in_ok-journal.ensures.new)

pub returns-clause-moved : goal.returns-clause-moved
returns-clause-moved g c =
    let from = c.args.sides.now.source in
    let to = c.args.sides.now.target in
    let after = g.F.Folder.told c.go_on.new.folder in
    subst (λ n. Moved n from to c.args.work.now after c.go_on.result) (ap (λ (j : Journal). j.names) c.in_ok-journal.ensures.new)
    (subst (λ w. Moved c.in_ok-journal.journal.names from to w after c.go_on.result) c.in_ok-entered.ensures.path c.go_on.ensures.moved)

pub returns-clause-placed : goal.returns-clause-placed
returns-clause-placed g c =
    let told = g.F.Folder.told c.args.folder.now in
    let written = g.F.Folder.told c.write.new.folder in
    let lacks = lacking [] c.args.items.now.mapped.items in
    if_ok_more (λ done. IfSeen written (λ v. done.placed ≡ lacks)) (λ done. IfSeen told (λ v. done.placed ≡ lacks)) c.go_on.result
    (λ done. then_known _ told written (readied g (goal.at.returns-clause-placed g c).After-write).moves (done.placed ≡ lacks)) c.go_on.ensures.placed

pub returns-in_err-entered-clause-cause : goal.returns-in_err-entered-clause-cause
returns-in_err-entered-clause-cause g c v seen =
    let work = c.args.work.now in
    let from = c.args.sides.now.source in
    let to = c.args.sides.now.target in
    let mapped = c.args.items.now.mapped.items in
    refused_as (λ answer. Unless answer (Moves (EntersAs v work) from to v mapped answer)) c.from_residual.result c.from_residual.ensures.1
    (work_refused of_work (EntersAs v work) (λ _. IsOfMoving (BothHaveOwnFolders from to v) (StopsAt (BothHaveOwnFolders from to v) from v mapped)) c.in_err-entered.field-0.0 (c.in_err-entered.ensures.enters.answer v seen))

pub returns-in_err-journal-clause-cause : goal.returns-in_err-journal-clause-cause
returns-in_err-journal-clause-cause g c v seen =
    let work = c.args.work.now in
    let from = c.args.sides.now.source in
    let to = c.args.sides.now.target in
    let mapped = c.args.items.now.mapped.items in
    let fault = c.in_err-journal.field-0.0 in
    refused_as (λ answer. Unless answer (Moves (EntersAs v work) from to v mapped answer)) c.from_residual-in_err-journal.result c.from_residual-in_err-journal.ensures.1
    (moves_pass (EntersAs v work) from to v mapped (Err fault) (c.in_ok-entered.ensures.enters.answer v seen)
    (never_more (BothHaveOwnFolders from to v) (StopsAt (BothHaveOwnFolders from to v) from v mapped) fault c.in_err-journal.ensures.moving))

pub returns-in_err-write-clause-cause : goal.returns-in_err-write-clause-cause
returns-in_err-write-clause-cause g c v seen =
    refused_as (λ answer. Unless answer (Moves (EntersAs v c.args.work.now) c.args.sides.now.source c.args.sides.now.target v c.args.items.now.mapped.items answer)) c.from_residual-in_err-write.result c.from_residual-in_err-write.ensures.1
    (folder_unless of_folder refl _ c.in_err-write.field-0.0)

pub returns-clause-cause : goal.returns-clause-cause
returns-clause-cause g c v seen =
    readied_stops c.args.sides.now.names c.args.sides.now.source c.args.sides.now.target c.args.work.now c.args.items.now.own.items c.args.items.now.mapped.items [] (g.F.Folder.told c.args.folder.now) (g.F.Folder.told c.write.new.folder)
    (readied g (goal.at.returns-clause-cause g c).After-write) (EntersAs v c.args.work.now) v c.go_on.result c.requires.walked c.requires.copying seen (c.in_ok-entered.ensures.enters.answer v seen) c.go_on.ensures.moving

pub returns-in_err-entered-clause-written : goal.returns-in_err-entered-clause-written
returns-in_err-entered-clause-written g c =
    let work = c.args.work.now in
    let told = g.F.Folder.told c.args.folder.now in
    let entered = g.F.Folder.told c.enter.new.folder in
    nothing_yet c.from_residual.result _ c.from_residual.ensures.1 (work_tested c.in_err-entered.field-0.0).1 _ _ _ _ _ _ _ _ (c.draws_compose.ensures.none _)
    (changing_writes work (IsWorkOrStage work) (IsLeftOver work) c.args.sides.now.target.root c.requires.apart.target told entered c.enter.ensures.enters.moments)

pub returns-in_err-journal-clause-written : goal.returns-in_err-journal-clause-written
returns-in_err-journal-clause-written g c =
    let work = c.args.work.now in
    let told = g.F.Folder.told c.args.folder.now in
    let entered = g.F.Folder.told c.enter.new.folder in
    nothing_yet c.from_residual-in_err-journal.result _ c.from_residual-in_err-journal.ensures.1 (stop_is_test c.in_err-journal.field-0.0 (Unit {0}) c.in_err-journal.ensures.moving) _ _ _ _ _ _ _ _ (c.draws_compose.ensures.none _)
    (changing_writes work (IsWorkOrStage work) (IsLeftOver work) c.args.sides.now.target.root c.requires.apart.target told entered c.enter.ensures.enters.moments)

pub returns-in_err-write-clause-written : goal.returns-in_err-write-clause-written
returns-in_err-write-clause-written g c =
    let sides = c.args.sides.now in
    let new = new_journal sides.names sides.source.root sides.target.root c.args.items.now.own.items in
    let first = journal_text new ∷ [] in
    texts_first c.from_residual-in_err-write.result _ c.from_residual-in_err-write.ensures.1 (folder_tested c.in_err-write.field-0.0).1 _ _ _ _ _ _ _ _ (λ file. Contains first file) (λ file text. in_first first (journal_text (done_of new) ∷ []) file text)
    (c.draws_compose.ensures.none _) (text_written g (goal.at.returns-in_err-write-clause-written g c).After-write)

pub returns-clause-written : goal.returns-clause-written
returns-clause-written g c =
    let here = (goal.at.returns-clause-written g c).After-write in
    let rule = c.args.sides.now.names in
    let from = c.args.sides.now.source in
    let to = c.args.sides.now.target in
    let items = c.args.items.now.own.items in
    let mapped = c.args.items.now.mapped.items in
    let new = new_journal rule from.root to.root items in
    let told = g.F.Folder.told c.args.folder.now in
    let written = g.F.Folder.told c.write.new.folder in
    let after = g.F.Folder.told c.go_on.new.folder in
    let left = g.R.Randoms.left c.args.random.now in
    let left2 = g.R.Randoms.left c.go_on.new.random in
    texts_then c.draws_compose.ensures.composed from to (lacked [] mapped) (journal_text new ∷ []) (journal_text (done_of new) ∷ []) left left left2 told written after c.go_on.result
    (lacked_kept rule from to c.args.work.now items mapped [] told written (readied g here) c.requires.walked) (c.draws_compose.ensures.none left) (text_written g here)
    (subst (λ (k : Journal). WritesBy c.go_on.result from to (lacked [] mapped) (done_texts k) left left2 written after) (is_new g here) (c.go_on.ensures.written none_ordered))

pub returns-clause-tidy : goal.returns-clause-tidy
returns-clause-tidy g c =
    let work = c.args.work.now in
    let entered = g.F.Folder.told c.enter.new.folder in
    let written = g.F.Folder.told c.write.new.folder in
    let after = g.F.Folder.told c.go_on.new.folder in
    let j = c.in_ok-journal.journal in
    let here = tidy_written work j entered written (g.met.F.Folder.sound c.enter.new.folder) (written_beside work j entered written c.write.ensures.moments) c.in_ok-write.ensures.written
    (λ v is. fresh_tidy v work (c.in_ok-entered.ensures.enters.ready v is)) in
    if_ok_more (λ done. StaysTidyWork work written after) (λ done. IfSeen after (λ v. IsTidyWork work v)) c.go_on.result (λ done stays. stays here)
    (subst (λ w. IfOk c.go_on.result (λ done. StaysTidyWork w written after)) c.in_ok-entered.ensures.path c.go_on.ensures.tidy)

pub returns-in_err-entered-clause-ends : goal.returns-in_err-entered-clause-ends
returns-in_err-entered-clause-ends g c =
    ends_uncompared _ _ c.args.sides.now.names c.args.sides.now.source c.args.sides.now.target (g.F.Folder.told c.enter.new.folder) c.from_residual.result _ c.from_residual.ensures.1 (work_tested c.in_err-entered.field-0.0).0

pub returns-in_err-journal-clause-ends : goal.returns-in_err-journal-clause-ends
returns-in_err-journal-clause-ends g c =
    ends_uncompared _ _ c.args.sides.now.names c.args.sides.now.source c.args.sides.now.target (g.F.Folder.told c.enter.new.folder) c.from_residual-in_err-journal.result _ c.from_residual-in_err-journal.ensures.1 c.in_err-journal.ensures.uncompared

pub returns-in_err-write-clause-ends : goal.returns-in_err-write-clause-ends
returns-in_err-write-clause-ends g c =
    ends_uncompared _ _ c.args.sides.now.names c.args.sides.now.source c.args.sides.now.target (g.F.Folder.told c.write.new.folder) c.from_residual-in_err-write.result _ c.from_residual-in_err-write.ensures.1 (folder_tested c.in_err-write.field-0.0).0

pub returns-clause-ends : goal.returns-clause-ends
returns-clause-ends g c =
    let from = c.args.sides.now.source in
    let to = c.args.sides.now.target in
    let work = c.args.work.now in
    let rule = c.args.sides.now.names in
    let items = c.args.items.now.own.items in
    let mapped = c.args.items.now.mapped.items in
    let told = g.F.Folder.told c.args.folder.now in
    let written = g.F.Folder.told c.write.new.folder in
    let after = g.F.Folder.told c.go_on.new.folder in
    let left = g.R.Randoms.left c.args.random.now in
    let left' = g.R.Randoms.left c.go_on.new.random in
    let ready = readied g (goal.at.returns-clause-ends g c).After-write in
    ends_more (CopiesAll rule from to [] mapped written after) (StayGood from to told after) (SharesFrom (IsFilled rule from to []) to work mapped left left' written after) (SharesFrom (IsFilled rule from to []) to work mapped left left' told after) rule from to after
    c.go_on.result (readied_good rule from to work items mapped [] told written ready after c.requires.copying) (readied_shares rule from to work items mapped [] told written ready after left left' c.draws_compose.ensures.composed (c.draws_compose.ensures.none left))
    (subst (λ w. EndsBy (CopiesAll rule from to [] mapped written after) (SharesFrom (IsFilled rule from to []) to w mapped left left' written after) rule from to after c.go_on.result) c.in_ok-entered.ensures.path c.go_on.ensures.ends)

pub returns-in_err-entered-clause-unready : goal.returns-in_err-entered-clause-unready
returns-in_err-entered-clause-unready g c =
    let work = c.args.work.now in
    inl (changing_writes work (IsWorkOrStage work) (IsLeftOver work) c.args.sides.now.target.root c.requires.apart.target (g.F.Folder.told c.args.folder.now) (g.F.Folder.told c.enter.new.folder) c.enter.ensures.enters.moments)

pub returns-in_err-journal-clause-unready : goal.returns-in_err-journal-clause-unready
returns-in_err-journal-clause-unready g c = inr (λ v seen. entered_empties v c.args.work.now (c.in_ok-entered.ensures.enters.answer v seen))

pub returns-in_err-write-clause-unready : goal.returns-in_err-write-clause-unready
returns-in_err-write-clause-unready g c = inr (λ v seen. entered_empties v c.args.work.now (c.in_ok-entered.ensures.enters.answer v seen))

pub returns-clause-unready : goal.returns-clause-unready
returns-clause-unready g c = inr (λ v seen. entered_empties v c.args.work.now (c.in_ok-entered.ensures.enters.answer v seen))

pub returns-in_err-entered-clause-drew : goal.returns-in_err-entered-clause-drew
returns-in_err-entered-clause-drew g c = drew_refused c.draws_compose.ensures.none (g.R.Randoms.left c.args.random.now) c.from_residual.result _ c.from_residual.ensures.1 (work_tested c.in_err-entered.field-0.0).1

pub returns-in_err-journal-clause-drew : goal.returns-in_err-journal-clause-drew
returns-in_err-journal-clause-drew g c = drew_refused c.draws_compose.ensures.none (g.R.Randoms.left c.args.random.now) c.from_residual-in_err-journal.result _ c.from_residual-in_err-journal.ensures.1 (stop_is_test c.in_err-journal.field-0.0 (Unit {0}) c.in_err-journal.ensures.moving)

pub returns-in_err-write-clause-drew : goal.returns-in_err-write-clause-drew
returns-in_err-write-clause-drew g c = drew_refused c.draws_compose.ensures.none (g.R.Randoms.left c.args.random.now) c.from_residual-in_err-write.result _ c.from_residual-in_err-write.ensures.1 (folder_tested c.in_err-write.field-0.0).1

pub returns-in_err-entered-clause-journal : goal.returns-in_err-entered-clause-journal
returns-in_err-entered-clause-journal g c =
    let told = g.F.Folder.told c.args.folder.now in
    let here = g.F.Folder.told c.enter.new.folder in
    unbrought_between c.args.sides.now.names c.args.sides.now.source c.args.sides.now.target c.args.work.now told here (λ j. texts_entered c.args.work.now j told here (g.met.F.Folder.sound c.args.folder.now) c.enter.ensures.enters.moments)

pub returns-in_err-journal-clause-journal : goal.returns-in_err-journal-clause-journal
returns-in_err-journal-clause-journal g c =
    let told = g.F.Folder.told c.args.folder.now in
    let here = g.F.Folder.told c.enter.new.folder in
    unbrought_between c.args.sides.now.names c.args.sides.now.source c.args.sides.now.target c.args.work.now told here (λ j. texts_entered c.args.work.now j told here (g.met.F.Folder.sound c.args.folder.now) c.enter.ensures.enters.moments)

pub returns-in_err-write-clause-journal : goal.returns-in_err-write-clause-journal
returns-in_err-write-clause-journal g c =
    let rule = c.args.sides.now.names in
    let from = c.args.sides.now.source in
    let to = c.args.sides.now.target in
    let work = c.args.work.now in
    let items = c.args.items.now.own.items in
    let told = g.F.Folder.told c.args.folder.now in
    let here = g.F.Folder.told c.enter.new.folder in
    let written = g.F.Folder.told c.write.new.folder in
    let Trees = HaveMappedTree rule from to in (
      items,
      subst (λ (j : Journal). BringsTexts Trees work j told written) (is_new g (goal.at.returns-in_err-write-clause-journal g c).After-write)
          (brings_then Trees work c.in_ok-journal.journal told here written (g.met.F.Folder.sound c.args.folder.now) (texts_entered work c.in_ok-journal.journal told here (g.met.F.Folder.sound c.args.folder.now) c.enter.ensures.enters.moments) (brings_written Trees work c.in_ok-journal.journal here written c.write.ensures.once)),
    )

pub returns-clause-journal : goal.returns-clause-journal
returns-clause-journal g c =
    let rule = c.args.sides.now.names in
    let from = c.args.sides.now.source in
    let to = c.args.sides.now.target in
    let work = c.args.work.now in
    let items = c.args.items.now.own.items in
    let j = c.in_ok-journal.journal in
    let told = g.F.Folder.told c.args.folder.now in
    let here = g.F.Folder.told c.enter.new.folder in
    let written = g.F.Folder.told c.write.new.folder in
    let after = g.F.Folder.told c.go_on.new.folder in
    let Trees = HaveMappedTree rule from to in (
      items,
      subst (λ (j : Journal). BringsTexts Trees work j told after) (is_new g (goal.at.returns-clause-journal g c).After-write)
          (brings_done Trees work j told written after (ap (λ (k : Journal). k.phase) (is_new g (goal.at.returns-clause-journal g c).After-write)) (g.met.F.Folder.sound c.args.folder.now) (g.met.F.Folder.sound c.write.new.folder)
          (brings_then (λ v. ⊥) work j told here written (g.met.F.Folder.sound c.args.folder.now) (texts_entered work j told here (g.met.F.Folder.sound c.args.folder.now) c.enter.ensures.enters.moments) (brings_written (λ v. ⊥) work j here written c.write.ensures.once))
          (subst (λ w. KeepsTexts Trees w j written after) c.in_ok-entered.ensures.path c.go_on.ensures.journal)),
    )
