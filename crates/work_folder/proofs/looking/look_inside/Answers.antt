use Rattle.std.proofs.Common.{◌≡◌, Ok, subst}
use Rattle.std.proofs.lemmas.Result.{err_from_is_err_and}
use Rattle.folder_spec.specs.Listing.{Item, IsListing}
use Rattle.std.specs.Prelude.{List}
use Rattle.folder_spec.specs.View.{Folder}
use Rattle.folder_model.proofs.Counting.{never_falls}
use Rattle.work_folder.specs.Looking.{TestsEntries}
use Rattle.work_folder.specs.Picking.{Picks}
use Rattle.work_folder.proofs.Looks.{fell_exit, answer_exit}
use Rattle.work_folder.proofs.Picks.{listed, picks_not_failed}
use Rattle.work_folder.proofs.looking.look_inside.Goals as goal

pub returns-in_err-entries : goal.returns-in_err-entries
returns-in_err-entries g c =
    let p = err_from_is_err_and c.from_residual.result c.from_residual.ensures.1 in
    rw (p.1, p.2)
    (fell_exit (List Item) (λ v answer. TestsEntries c.args.old v c.args.at.now answer) (g.F.Folder.told c.args.folder.now) (g.F.Folder.told c.list.new.self)
    (g.F.Folder.faults c.args.folder.now) (g.F.Folder.faults c.list.new.self) (λ v. v c.args.at.now ≡ Folder) (λ v items. IsListing v c.args.at.now items)
    c.in_err-entries.field-0.0 c.in_err-entries.ensures.told c.requires c.in_err-entries.ensures.answer c.in_err-entries.ensures.counts)

pub returns : goal.returns
returns g c =
    let t0 = g.F.Folder.told c.args.folder.now in
    let n0 = g.F.Folder.faults c.args.folder.now in
    let n1 = g.F.Folder.faults c.list.new.self in
    let items = c.in_ok-entries.entries.items in
    let old = c.args.old in
    let at = c.args.at.now in
    let picked = subst (λ xs. Picks old at xs c.pick.result) c.as_slice.ensures.value c.pick.ensures in
    answer_exit (λ v answer. TestsEntries old v at answer) t0 (g.F.Folder.told c.list.new.self) n0 n1 c.pick.result c.in_ok-entries.ensures.told
    (never_falls t0 n0 n1 (Ok c.in_ok-entries.entries) c.in_ok-entries.ensures.counts) (picks_not_failed old at items c.pick.result picked)
    (λ v is. listed old v at items (c.in_ok-entries.ensures.answer v is).1 c.pick.result picked)
