use Rattle.std.proofs.Common.{IsTrue, Err, Ok, refl, sym, ap, ◌∙◌, subst, [], ◌∷◌, Result}
use Rattle.std.specs.List.{list_all}
use Rattle.item_making.specs.Ending.{Whole}
use Rattle.migration_spec.specs.Alone.{Begun}
use Rattle.plain_tree.specs.Names.{is_name}
use Rattle.vault_spec.specs.Making.{NewDirectory}
use Rattle.vault_spec.specs.Plan.{Planned}
use Rattle.migrate_core.proofs.Leadings.{goes_failed}
use Rattle.migrate_core.proofs.Placings.{directory_goes, made_moves, made_ready}
use Rattle.migrate_core.proofs.Causing.{put_stop}
use Rattle.migrate_core.proofs.WrittenItems.{directory_copy, directory_ends, one_begun, one_written}
use Rattle.migrate_core.proofs.Stopping.{directory_stops, refusal_tells}
use Rattle.migrate_core.specs.Causes.{StopsAt}
use Rattle.migrate_core.specs.Copying.{Enters}
use Rattle.migrate_core.proofs.Copyings.{directory_copies}
use Rattle.migrate_core.proofs.Sharing.{item_stops}
use Rattle.migrate_core.specs.Sharing.{IsMadeFor}
use Rattle.vault_write.specs.Calls.{MakesAt, MakesDirectory, New}
use Rattle.migrate_core.proofs.Drawing.{drew_all, drew_failed, drew_placing}
use Rattle.migrate_core.proofs.placing.place.Given.{Over}
use Rattle.migrate_core.proofs.placing.place.Goals as goal
use Rattle.migrate_core.proofs.placing.place.Goals.{After-place_dir_keeping}
use Rattle.migration_sides.proofs.Chains.{fault_as}
use Rattle.migrate_core.specs.Leading.{LeadsEach}
use Rattle.migrate_core.specs.Moving.{MovesBeside}
use Rattle.item_making.specs.Making.{is_apart}
use Rattle.item_making.specs.declared.fault.PutFault.{PutFault}

-- once the directory is placed, or that has failed
module _ (g : Over) (c : After-place_dir_keeping g) where
  moves : MovesBeside (is_apart c.args.work.now c.args.sides.now.target.root) c.args.work.now c.args.sides.now.target.root (g.F.Folder.told c.args.folder.now) (g.F.Folder.told c.place_dir_keeping.new.folder)
  moves =
      made_moves c.args.sides.now.target c.args.work.now c.item.inside.path NewDirectory Whole c.place_dir_keeping.ensures.made.drawn (g.F.Folder.told c.args.folder.now) (g.F.Folder.told c.place_dir_keeping.new.folder) c.place_dir_keeping.result
      c.place_dir_keeping.ensures.made.makes c.requires.apart.target

  goes : (result : Result (Unit {0}) PutFault)
      → MakesDirectory c.args.sides.now.target c.args.work.now c.item.inside.path (g.R.Randoms.left c.args.random.now) (g.R.Randoms.left c.place_dir_keeping.new.random) (g.F.Folder.told c.args.folder.now) (g.F.Folder.told c.place_dir_keeping.new.folder) result
      → LeadsEach c.args.sides.now.names c.args.sides.now.source c.args.sides.now.target c.args.work.now Begun Begun (g.F.Folder.told c.args.folder.now) (g.F.Folder.told c.place_dir_keeping.new.folder) result
  goes result made m sides =
      let told = g.F.Folder.told c.args.folder.now in
      let told' = g.F.Folder.told c.place_dir_keeping.new.folder in
      let left = g.R.Randoms.left c.args.random.now in
      let left' = g.R.Randoms.left c.place_dir_keeping.new.random in
      let to = c.args.sides.now.target in
      directory_goes c.placing_keeps_migrations_guarded.ensures.one c.placing_keeps_migrations_guarded.ensures.next c.guarded_migrations_are_seen.ensures.alone m c.args.sides.now.names c.args.sides.now.source to c.args.work.now sides c.args.item.now
      told told' left left' result c.requires.item (g.met.F.Folder.sound c.place_dir_keeping.new.folder) c.mapped_walks_tell_the_mapped_tree.ensures.directory (sym (ap (λ (x : Planned). x.node) c.item.view_is) ∙ c.in-Dir.is)
      (subst (λ p. MakesDirectory to c.args.work.now p left left' told told' result) (ap (λ (x : Planned). x.path) c.item.view_is) made)

pub returns-in_ok-place_dir_keeping-in-Dir-clause-guard : goal.returns-in_ok-place_dir_keeping-in-Dir-clause-guard
returns-in_ok-place_dir_keeping-in-Dir-clause-guard g c m sides = goes g (goal.at.returns-in_ok-place_dir_keeping-in-Dir-clause-guard g c).After-place_dir_keeping (Ok tt) c.in_ok-place_dir_keeping-in-Dir.ensures.made m sides

pub returns-in_err-place_dir_keeping-in-Dir-clause-guard : goal.returns-in_err-place_dir_keeping-in-Dir-clause-guard
returns-in_err-place_dir_keeping-in-Dir-clause-guard g c m sides =
    goes_failed _ m Begun Begun Begun (g.F.Folder.told c.args.folder.now) (g.F.Folder.told c.place_dir_keeping.new.folder) c.place_dir_keeping.result c.from_residual.result c.from_residual.ensures.1
    (goes g (goal.at.returns-in_err-place_dir_keeping-in-Dir-clause-guard g c).After-place_dir_keeping c.place_dir_keeping.result c.place_dir_keeping.ensures.made m sides)

pub returns-in_ok-place_dir_keeping-in-Dir-clause-moves : goal.returns-in_ok-place_dir_keeping-in-Dir-clause-moves
returns-in_ok-place_dir_keeping-in-Dir-clause-moves g c = moves g (goal.at.returns-in_ok-place_dir_keeping-in-Dir-clause-moves g c).After-place_dir_keeping

pub returns-in_err-place_dir_keeping-in-Dir-clause-moves : goal.returns-in_err-place_dir_keeping-in-Dir-clause-moves
returns-in_err-place_dir_keeping-in-Dir-clause-moves g c = moves g (goal.at.returns-in_err-place_dir_keeping-in-Dir-clause-moves g c).After-place_dir_keeping

pub returns-in_ok-place_dir_keeping-in-Dir-clause-ready : goal.returns-in_ok-place_dir_keeping-in-Dir-clause-ready
returns-in_ok-place_dir_keeping-in-Dir-clause-ready g c =
    made_ready c.args.sides.now.target c.args.work.now c.item.inside.path NewDirectory Whole c.in_ok-place_dir_keeping-in-Dir.ensures.made.drawn (g.F.Folder.told c.args.folder.now) (g.F.Folder.told c.place_dir_keeping.new.folder) (Ok tt)
    c.in_ok-place_dir_keeping-in-Dir.ensures.made.makes

pub returns-in_err-place_dir_keeping-in-Dir-clause-written : goal.returns-in_err-place_dir_keeping-in-Dir-clause-written
returns-in_err-place_dir_keeping-in-Dir-clause-written g c =
    let from = c.args.sides.now.source in
    let item = c.args.item.now in
    let told = g.F.Folder.told c.args.folder.now in
    let node = sym (ap (λ (x : Planned). x.node) c.item.view_is) ∙ c.in-Dir.is in
    let made = c.in_err-place_dir_keeping-in-Dir.ensures.made in
    one_begun from c.args.sides.now.target c.args.work.now c.requires.apart.target item (record { path = c.item.inside.path; item = NewDirectory; drawn = made.drawn }) Whole (g.R.Randoms.left c.args.random.now) (g.R.Randoms.left c.place_dir_keeping.new.random)
    told (g.F.Folder.told c.place_dir_keeping.new.folder) made.were_drawn (directory_copy from item told c.item.inside.path made.drawn (ap (λ (x : Planned). x.path) c.item.view_is) node) (directory_ends from item told node)
    c.from_residual.result c.in_err-place_dir_keeping-in-Dir.field-0.0 c.from_residual.ensures.1 made.makes

pub returns-in_ok-place_dir_keeping-in-Dir-clause-written : goal.returns-in_ok-place_dir_keeping-in-Dir-clause-written
returns-in_ok-place_dir_keeping-in-Dir-clause-written g c =
    let from = c.args.sides.now.source in
    let item = c.args.item.now in
    let told = g.F.Folder.told c.args.folder.now in
    let node = sym (ap (λ (x : Planned). x.node) c.item.view_is) ∙ c.in-Dir.is in
    let made = c.in_ok-place_dir_keeping-in-Dir.ensures.made in
    one_written from c.args.sides.now.target c.args.work.now c.requires.apart.target item (record { path = c.item.inside.path; item = NewDirectory; drawn = made.drawn }) Whole (g.R.Randoms.left c.args.random.now) (g.R.Randoms.left c.place_dir_keeping.new.random)
    told (g.F.Folder.told c.place_dir_keeping.new.folder) made.were_drawn (directory_copy from item told c.item.inside.path made.drawn (ap (λ (x : Planned). x.path) c.item.view_is) node) (directory_ends from item told node) made.makes

pub returns-in_err-place_dir_keeping-in-Dir-clause-moving : goal.returns-in_err-place_dir_keeping-in-Dir-clause-moving
returns-in_err-place_dir_keeping-in-Dir-clause-moving g c =
    let from = c.args.sides.now.source in
    let told = g.F.Folder.told c.args.folder.now in
    let item = c.args.item.now in
    let why = c.in_err-place_dir_keeping-in-Dir.field-0.0 in
    let to = c.args.sides.now.target in
    let told' = g.F.Folder.told c.place_dir_keeping.new.folder in
    let left = g.R.Randoms.left c.args.random.now in
    let left' = g.R.Randoms.left c.place_dir_keeping.new.random in
    let made = subst (λ q. MakesDirectory to c.args.work.now q left left' told told' (Err why)) (ap (λ (x : Planned). x.path) c.item.view_is) c.in_err-place_dir_keeping-in-Dir.ensures.made in
    fault_as _ c.from_residual.result c.from_residual.ensures.1
    (λ v seen. put_stop (Enters to item v) (StopsAt (Enters to item v) from v (item ∷ [])) why
    (directory_stops from to item v Whole c.requires.allowed why c.in_err-place_dir_keeping-in-Dir.ensures.fault
    (refusal_tells to c.args.work.now item.path NewDirectory Whole made.drawn told told' why made.makes v seen)))

pub returns-in_ok-place_dir_keeping-in-Dir-clause-copies : goal.returns-in_ok-place_dir_keeping-in-Dir-clause-copies
returns-in_ok-place_dir_keeping-in-Dir-clause-copies g c =
    let from = c.args.sides.now.source in
    let to = c.args.sides.now.target in
    let work = c.args.work.now in
    let told = g.F.Folder.told c.args.folder.now in
    let told' = g.F.Folder.told c.place_dir_keeping.new.folder in
    let left = g.R.Randoms.left c.args.random.now in
    let left' = g.R.Randoms.left c.place_dir_keeping.new.random in
    let made = subst (λ q. MakesDirectory to work q left left' told told' (Ok tt)) (ap (λ (x : Planned). x.path) c.item.view_is) c.in_ok-place_dir_keeping-in-Dir.ensures.made in
    directory_copies c.args.sides.now.names from to work c.args.item.now told told' c.requires.apart (g.met.F.Folder.sound c.args.folder.now)
    (made_moves to work c.args.item.now.path NewDirectory Whole made.drawn told told' (Ok tt) made.makes c.requires.apart.target) c.requires.item c.mapped_walks_tell_the_mapped_tree.ensures.directory
    (sym (ap (λ (x : Planned). x.node) c.item.view_is) ∙ c.in-Dir.is) left left' made

pub returns-in_err-place_dir_keeping-in-Dir-clause-stops : goal.returns-in_err-place_dir_keeping-in-Dir-clause-stops
returns-in_err-place_dir_keeping-in-Dir-clause-stops g c =
    let from = c.args.sides.now.source in
    let to = c.args.sides.now.target in
    let item = c.args.item.now in
    let told = g.F.Folder.told c.args.folder.now in
    let told' = g.F.Folder.told c.place_dir_keeping.new.folder in
    let left = g.R.Randoms.left c.args.random.now in
    let left' = g.R.Randoms.left c.place_dir_keeping.new.random in
    let why = c.in_err-place_dir_keeping-in-Dir.field-0.0 in
    let made = c.in_err-place_dir_keeping-in-Dir.ensures.made in
    let node = sym (ap (λ (x : Planned). x.node) c.item.view_is) ∙ c.in-Dir.is in
    fault_as _ c.from_residual.result c.from_residual.ensures.1
    (item_stops c.what_stands_is_found_step_by_step.ensures.behind c.files_have_their_contents.ensures c.what_is_found_stands.ensures.enters c.args.sides.now.names
    from to (c.items_keep_vaults.ensures to.vault) c.args.work.now item NewDirectory Whole made.drawn left left' made.were_drawn told told'
    (subst (λ p. IsTrue (list_all is_name p)) (ap (λ (x : Planned). x.path) c.item.view_is) c.names-named.ensures.named) (subst (λ kind. IsMadeFor kind NewDirectory) (sym node) refl) c.requires.ready why
    (subst (λ q. MakesAt New to c.args.work.now q NewDirectory Whole made.drawn told told' (Err why)) (ap (λ (x : Planned). x.path) c.item.view_is) made.makes))

pub returns-in_ok-place_dir_keeping-in-Dir-clause-drew : goal.returns-in_ok-place_dir_keeping-in-Dir-clause-drew
returns-in_ok-place_dir_keeping-in-Dir-clause-drew g c =
    let made = c.in_ok-place_dir_keeping-in-Dir.ensures.made in
    drew_all tt (g.R.Randoms.left c.args.random.now) (g.R.Randoms.left c.place_dir_keeping.new.random) made.drawn made.were_drawn

pub returns-in_err-place_dir_keeping-in-Dir-clause-drew : goal.returns-in_err-place_dir_keeping-in-Dir-clause-drew
returns-in_err-place_dir_keeping-in-Dir-clause-drew g c =
    let left = g.R.Randoms.left c.args.random.now in
    let left' = g.R.Randoms.left c.place_dir_keeping.new.random in
    let made = c.in_err-place_dir_keeping-in-Dir.ensures.made in
    drew_failed left left' c.from_residual.result c.from_residual.ensures.1
    (drew_placing c.args.sides.now.target c.args.work.now c.item.inside.path NewDirectory Whole made.drawn (g.F.Folder.told c.args.folder.now) (g.F.Folder.told c.place_dir_keeping.new.folder) left left'
    c.in_err-place_dir_keeping-in-Dir.field-0.0 made.were_drawn made.makes)
