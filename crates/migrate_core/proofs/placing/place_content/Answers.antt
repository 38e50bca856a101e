use Rattle.std.proofs.Common.{IsTrue, Err, Ok, arith, refl, sym, ap, subst, [], ◌∷◌, Result}
use Rattle.std.specs.List.{list_all}
use Rattle.chunk_files.specs.Decoding.{started}
use Rattle.content_writing.specs.Content.{still_coming}
use Rattle.vault_write.specs.VaultContents.{path_of, coming_of}
use Rattle.migration_spec.specs.Alone.{Begun}
use Rattle.plain_tree.specs.Names.{is_name}
use Rattle.vault_spec.specs.Making.{NewFile}
use Rattle.vault_spec.specs.Plan.{Planned}
use Rattle.vault_spec.specs.Vault.{format_of}
use Rattle.vault_write.specs.Calls.{New, MakesAt, MakesFile}
use Rattle.item_making.specs.Making.{is_apart}
use Rattle.migrate_core.proofs.Blaming.{blamed_file}
use Rattle.migrate_core.proofs.Leadings.{goes_failed}
use Rattle.migrate_core.proofs.Movings.{moves_nowhere}
use Rattle.migrate_core.proofs.Placings.{file_goes, made_moves, made_ready}
use Rattle.migrate_core.proofs.Planned.{content_elsewhere, content_is, content_ready, coming_told, IsContentOf}
use Rattle.migrate_core.proofs.Writings.{nothing_yet, only_nowhere}
use Rattle.migrate_core.proofs.WrittenItems.{file_copy, file_ends, one_begun, one_written}
use Rattle.migrate_core.specs.Written.{BringsOnlyTo}
use Rattle.migrate_core.proofs.Causing.{put_stop}
use Rattle.migrate_core.specs.Causes.{StopsAt}
use Rattle.migrate_core.proofs.Stopping.{file_stops, refusal_tells}
use Rattle.migrate_core.specs.declared.fault.MoveFault.TheVariants.{NoMemory}
use Rattle.migrate_core.specs.Copying.{Enters}
use Rattle.migrate_core.proofs.Copyings.{file_copies}
use Rattle.migrate_core.proofs.Sharing.{item_stops}
use Rattle.migrate_core.specs.Sharing.{IsMadeFor}
use Rattle.migrate_core.proofs.Drawing.{drew_all, drew_failed, drew_placing, drew_refused}
use Rattle.migrate_core.proofs.placing.place_content.Given.{Over}
use Rattle.migrate_core.proofs.placing.place_content.Goals as goal
use Rattle.migrate_core.proofs.placing.place_content.Goals.{In_ok-content, After-place_file_keeping-placed}
use Rattle.migration_sides.proofs.Chains.{fault_as}
use Rattle.migrate_core.specs.Leading.{LeadsEach}
use Rattle.migrate_core.specs.Moving.{MovesBeside}
use Rattle.item_making.specs.declared.fault.PutFault.{PutFault}

-- the content gives the item's file
gives : (g : Over) (c : In_ok-content g) → IsContentOf c.args.sides.now.source c.args.item.now c.in_ok-content.content
gives g c =
    content_is c.args.sides.now.source c.args.item.now (record { at = c.item.inside.at; decoding = started (format_of c.args.sides.now.source.vault).content }) c.in_ok-content.content
    (ap (λ (x : Planned). record { at = x.at; decoding = started (format_of c.args.sides.now.source.vault).content }) c.item.view_is) c.in_ok-content.ensures.reads c.in_ok-content.ensures.coming

-- once the file is placed, or that has failed
module _ (g : Over) (c : After-place_file_keeping-placed g) where
  moves : MovesBeside (is_apart c.args.work.now c.args.sides.now.target.root) c.args.work.now c.args.sides.now.target.root (g.F.Folder.told c.args.folder.now) (g.F.Folder.told c.place_file_keeping-placed.new.folder)
  moves =
      let w = c.place_file_keeping-placed.ensures.made.writing in
      made_moves c.args.sides.now.target c.args.work.now c.item.inside.path (NewFile w.content) w.ending w.drawn (g.F.Folder.told c.args.folder.now) (g.F.Folder.told c.place_file_keeping-placed.new.folder) c.place_file_keeping-placed.result
      c.place_file_keeping-placed.ensures.made.makes c.requires.apart.target

  goes : IsContentOf c.args.sides.now.source c.args.item.now c.in_ok-content.content → (result : Result (Unit {0}) PutFault)
      → MakesFile New c.args.sides.now.target c.args.work.now c.item.inside.path (still_coming (path_of c.in_ok-content.content) (g.F.Folder.told c.args.folder.now) (coming_of c.in_ok-content.content))
      (still_coming (path_of c.in_ok-content.content) (g.F.Folder.told c.args.folder.now) (coming_of c.place_file_keeping-placed.new.content)) (g.R.Randoms.left c.args.random.now) (g.R.Randoms.left c.place_file_keeping-placed.new.random) (g.F.Folder.told c.args.folder.now)
      (g.F.Folder.told c.place_file_keeping-placed.new.folder) result
      → LeadsEach c.args.sides.now.names c.args.sides.now.source c.args.sides.now.target c.args.work.now Begun Begun (g.F.Folder.told c.args.folder.now) (g.F.Folder.told c.place_file_keeping-placed.new.folder) result
  goes is_its_content result made m sides =
      let told = g.F.Folder.told c.args.folder.now in
      let told' = g.F.Folder.told c.place_file_keeping-placed.new.folder in
      let left = g.R.Randoms.left c.args.random.now in
      let left' = g.R.Randoms.left c.place_file_keeping-placed.new.random in
      let to = c.args.sides.now.target in
      let coming = still_coming (path_of c.in_ok-content.content) told (coming_of c.in_ok-content.content) in
      let after = still_coming (path_of c.in_ok-content.content) told (coming_of c.place_file_keeping-placed.new.content) in
      file_goes c.placing_keeps_migrations_guarded.ensures.one c.placing_keeps_migrations_guarded.ensures.next c.guarded_migrations_are_seen.ensures.alone m c.args.sides.now.names c.args.sides.now.source to c.args.work.now sides c.args.item.now
      told told' left left' result c.requires.item (g.met.F.Folder.sound c.place_file_keeping-placed.new.folder) c.mapped_walks_tell_the_mapped_tree.ensures.file c.files_fit_as_contents.ensures c.requires.file c.in_ok-content.content is_its_content after
      (subst (λ p. MakesFile New to c.args.work.now p coming after left left' told told' result) (ap (λ (x : Planned). x.path) c.item.view_is) made)

pub returns-in_err-content-clause-moves : goal.returns-in_err-content-clause-moves
returns-in_err-content-clause-moves g c = moves_nowhere c.args.work.now _ c.args.sides.now.target.root _ _ refl

pub place_file_keeping-placed-requires-clause-ready : goal.place_file_keeping-placed-requires-clause-ready
place_file_keeping-placed-requires-clause-ready g c =
    let from = c.args.sides.now.source in
    content_ready c.files_fit_as_contents.ensures c.args.sides.now.names from c.args.item.now c.in_ok-content.content (gives g (goal.at.place_file_keeping-placed-requires-clause-ready g c).In_ok-content) (g.F.Folder.told c.args.folder.now) c.requires.item c.requires.file

pub place_file_keeping-placed-requires-clause-elsewhere : goal.place_file_keeping-placed-requires-clause-elsewhere
place_file_keeping-placed-requires-clause-elsewhere g c =
    let from = c.args.sides.now.source in
    content_elsewhere c.args.sides.now.names from c.args.sides.now.target.root c.args.work.now c.args.item.now c.in_ok-content.content (gives g (goal.at.place_file_keeping-placed-requires-clause-elsewhere g c).In_ok-content) c.requires.apart (g.F.Folder.told c.args.folder.now) c.requires.item

pub returns-clause-guard : goal.returns-clause-guard
returns-clause-guard g c m sides = goes g (goal.at.returns-clause-guard g c).After-place_file_keeping-placed (gives g (goal.at.returns-clause-guard g c).In_ok-content) (Ok tt) c.in_ok-placed.ensures.made m sides

pub returns-in_err-placed-clause-guard : goal.returns-in_err-placed-clause-guard
returns-in_err-placed-clause-guard g c m sides =
    goes_failed _ m Begun Begun Begun (g.F.Folder.told c.args.folder.now) (g.F.Folder.told c.place_file_keeping-placed.new.folder) c.place_file_keeping-placed.result c.from_residual-in_err-placed.result c.from_residual-in_err-placed.ensures.1
    (goes g (goal.at.returns-in_err-placed-clause-guard g c).After-place_file_keeping-placed (gives g (goal.at.returns-in_err-placed-clause-guard g c).In_ok-content) c.place_file_keeping-placed.result c.place_file_keeping-placed.ensures.made m sides)

pub returns-clause-moves : goal.returns-clause-moves
returns-clause-moves g c = moves g (goal.at.returns-clause-moves g c).After-place_file_keeping-placed

pub returns-in_err-placed-clause-moves : goal.returns-in_err-placed-clause-moves
returns-in_err-placed-clause-moves g c = moves g (goal.at.returns-in_err-placed-clause-moves g c).After-place_file_keeping-placed

pub returns-clause-ready : goal.returns-clause-ready
returns-clause-ready g c =
    let w = c.in_ok-placed.ensures.made.writing in
    made_ready c.args.sides.now.target c.args.work.now c.item.inside.path (NewFile w.content) w.ending w.drawn (g.F.Folder.told c.args.folder.now) (g.F.Folder.told c.place_file_keeping-placed.new.folder) (Ok tt)
    c.in_ok-placed.ensures.made.makes

pub returns-in_err-placed-clause-blamed : goal.returns-in_err-placed-clause-blamed
returns-in_err-placed-clause-blamed g c =
    let made = c.in_err-placed.ensures in
    fault_as _ c.from_residual-in_err-placed.result c.from_residual-in_err-placed.ensures.1
    (blamed_file _ c.in_err-placed.field-0.0 made.fault (λ is. omega (arith, made.source.1 (ap Err is))) (λ is. made.failed.1 (ap Err is)) (λ is. made.random.1 (ap Err is)))

pub returns-in_err-content-clause-written : goal.returns-in_err-content-clause-written
returns-in_err-content-clause-written g c =
    nothing_yet c.from_residual.result NoMemory c.from_residual.ensures.1 tt _ _ _ _ _ _ _ _ (c.draws_compose.ensures.none _) (only_nowhere (BringsOnlyTo c.args.sides.now.target.root (λ at. ⊥)) (λ file. ⊥) _ _ refl)

pub returns-in_err-placed-clause-written : goal.returns-in_err-placed-clause-written
returns-in_err-placed-clause-written g c =
    let rule = c.args.sides.now.names in
    let from = c.args.sides.now.source in
    let item = c.args.item.now in
    let told = g.F.Folder.told c.args.folder.now in
    let made = c.in_err-placed.ensures.made in
    let w = made.writing in
    let so = coming_told from item c.in_ok-content.content (gives g (goal.at.returns-in_err-placed-clause-written g c).In_ok-content) told (record { bytes = w.content; ending = w.ending }) made.takes.told in
    one_begun from c.args.sides.now.target c.args.work.now c.requires.apart.target item (record { path = c.item.inside.path; item = NewFile w.content; drawn = w.drawn }) w.ending (g.R.Randoms.left c.args.random.now) (g.R.Randoms.left c.place_file_keeping-placed.new.random)
    told (g.F.Folder.told c.place_file_keeping-placed.new.folder) made.takes.were_drawn
    (file_copy c.files_fit_as_contents.ensures rule from item told c.item.inside.path w.content w.drawn w.ending (ap (λ (x : Planned). x.path) c.item.view_is) c.requires.file c.requires.item so)
    (file_ends c.files_fit_as_contents.ensures rule from item told w.content w.ending c.requires.file c.requires.item so) c.from_residual-in_err-placed.result c.in_err-placed.field-0.0 c.from_residual-in_err-placed.ensures.1 made.makes

pub returns-clause-written : goal.returns-clause-written
returns-clause-written g c =
    let rule = c.args.sides.now.names in
    let from = c.args.sides.now.source in
    let item = c.args.item.now in
    let told = g.F.Folder.told c.args.folder.now in
    let made = c.in_ok-placed.ensures.made in
    let w = made.writing in
    let so = coming_told from item c.in_ok-content.content (gives g (goal.at.returns-clause-written g c).In_ok-content) told (record { bytes = w.content; ending = w.ending }) made.takes.told in
    one_written from c.args.sides.now.target c.args.work.now c.requires.apart.target item (record { path = c.item.inside.path; item = NewFile w.content; drawn = w.drawn }) w.ending (g.R.Randoms.left c.args.random.now) (g.R.Randoms.left c.place_file_keeping-placed.new.random)
    told (g.F.Folder.told c.place_file_keeping-placed.new.folder) made.takes.were_drawn
    (file_copy c.files_fit_as_contents.ensures rule from item told c.item.inside.path w.content w.drawn w.ending (ap (λ (x : Planned). x.path) c.item.view_is) c.requires.file c.requires.item so)
    (file_ends c.files_fit_as_contents.ensures rule from item told w.content w.ending c.requires.file c.requires.item so) made.makes

pub returns-in_err-content-clause-moving : goal.returns-in_err-content-clause-moving
returns-in_err-content-clause-moving g c =
    fault_as _ c.from_residual.result c.from_residual.ensures.1 (λ v seen. tt)

pub returns-in_err-placed-clause-moving : goal.returns-in_err-placed-clause-moving
returns-in_err-placed-clause-moving g c =
    let from = c.args.sides.now.source in
    let told = g.F.Folder.told c.args.folder.now in
    let to = c.args.sides.now.target in
    let item = c.args.item.now in
    let told' = g.F.Folder.told c.place_file_keeping-placed.new.folder in
    let content = c.in_ok-content.content in
    let e = c.in_err-placed.ensures in
    let made = e.made in
    let w = made.writing in
    let why = c.in_err-placed.field-0.0 in
    let makes = subst (λ q. MakesAt New to c.args.work.now q (NewFile w.content) w.ending w.drawn told told' (Err why)) (ap (λ (x : Planned). x.path) c.item.view_is) made.makes in
    fault_as _ c.from_residual-in_err-placed.result c.from_residual-in_err-placed.ensures.1
    (λ v seen. put_stop (Enters to item v) (StopsAt (Enters to item v) from v (item ∷ [])) why
    (file_stops _ c.files_fit_as_contents.ensures c.args.sides.now.names from to item told w.content w.ending why c.requires.file (λ is. omega (arith, e.source.1 (ap Err is))) c.requires.allowed e.fault c.requires.item
    (coming_told from item content (gives g (goal.at.returns-in_err-placed-clause-moving g c).In_ok-content) told (record { bytes = w.content; ending = w.ending }) made.takes.told)
    (refusal_tells to c.args.work.now item.path (NewFile w.content) w.ending w.drawn told told' why makes) v seen))

pub returns-clause-copies : goal.returns-clause-copies
returns-clause-copies g c =
    let from = c.args.sides.now.source in
    let to = c.args.sides.now.target in
    let work = c.args.work.now in
    let told = g.F.Folder.told c.args.folder.now in
    let told' = g.F.Folder.told c.place_file_keeping-placed.new.folder in
    let item = c.args.item.now in
    let content = c.in_ok-content.content in
    let made = c.in_ok-placed.ensures.made in
    let w = made.writing in
    let makes = subst (λ q. MakesAt New to work q (NewFile w.content) w.ending w.drawn told told' (Ok tt)) (ap (λ (x : Planned). x.path) c.item.view_is) made.makes in
    file_copies c.args.sides.now.names from to work item told told' c.requires.apart (g.met.F.Folder.sound c.args.folder.now)
    (made_moves to work item.path (NewFile w.content) w.ending w.drawn told told' (Ok tt) makes c.requires.apart.target) c.requires.item c.mapped_walks_tell_the_mapped_tree.ensures.file c.files_fit_as_contents.ensures c.requires.file w.content w.drawn w.ending
    (coming_told from item content (gives g (goal.at.returns-clause-copies g c).In_ok-content) told (record { bytes = w.content; ending = w.ending }) made.takes.told) makes

pub returns-in_err-placed-clause-stops : goal.returns-in_err-placed-clause-stops
returns-in_err-placed-clause-stops g c =
    let from = c.args.sides.now.source in
    let to = c.args.sides.now.target in
    let item = c.args.item.now in
    let told = g.F.Folder.told c.args.folder.now in
    let told' = g.F.Folder.told c.place_file_keeping-placed.new.folder in
    let left = g.R.Randoms.left c.args.random.now in
    let left' = g.R.Randoms.left c.place_file_keeping-placed.new.random in
    let why = c.in_err-placed.field-0.0 in
    let made = c.in_err-placed.ensures.made in
    let w = made.writing in
    fault_as _ c.from_residual-in_err-placed.result c.from_residual-in_err-placed.ensures.1
    (item_stops c.what_stands_is_found_step_by_step.ensures.behind c.files_have_their_contents.ensures c.what_is_found_stands.ensures.enters c.args.sides.now.names
    from to (c.items_keep_vaults.ensures to.vault) c.args.work.now item (NewFile w.content) w.ending w.drawn left left' made.takes.were_drawn told told'
    (subst (λ p. IsTrue (list_all is_name p)) (ap (λ (x : Planned). x.path) c.item.view_is) c.names-named.ensures.named) (subst (λ kind. IsMadeFor kind (NewFile w.content)) (sym c.requires.file) (w.content, refl)) c.requires.ready why
    (subst (λ q. MakesAt New to c.args.work.now q (NewFile w.content) w.ending w.drawn told told' (Err why)) (ap (λ (x : Planned). x.path) c.item.view_is) made.makes))

pub returns-in_err-content-clause-drew : goal.returns-in_err-content-clause-drew
returns-in_err-content-clause-drew g c = drew_refused c.draws_compose.ensures.none (g.R.Randoms.left c.args.random.now) c.from_residual.result _ c.from_residual.ensures.1 tt

pub returns-in_err-placed-clause-drew : goal.returns-in_err-placed-clause-drew
returns-in_err-placed-clause-drew g c =
    let left = g.R.Randoms.left c.args.random.now in
    let left' = g.R.Randoms.left c.place_file_keeping-placed.new.random in
    let made = c.in_err-placed.ensures.made in
    let w = made.writing in
    drew_failed left left' c.from_residual-in_err-placed.result c.from_residual-in_err-placed.ensures.1
    (drew_placing c.args.sides.now.target c.args.work.now c.item.inside.path (NewFile w.content) w.ending w.drawn (g.F.Folder.told c.args.folder.now) (g.F.Folder.told c.place_file_keeping-placed.new.folder) left left'
    c.in_err-placed.field-0.0 made.takes.were_drawn made.makes)

pub returns-clause-drew : goal.returns-clause-drew
returns-clause-drew g c =
    let made = c.in_ok-placed.ensures.made in
    drew_all tt (g.R.Randoms.left c.args.random.now) (g.R.Randoms.left c.place_file_keeping-placed.new.random) made.writing.drawn made.takes.were_drawn
