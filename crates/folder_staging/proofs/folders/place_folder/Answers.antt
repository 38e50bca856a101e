use Rattle.std.proofs.Common.{Err, sym, ap, ◌∙◌, subst}
use Rattle.std.proofs.lemmas.Result.{err_from_is_err_and}
use Rattle.folder_spec.specs.Event.{Settle}
use Rattle.folder_model.proofs.Counting.{counts_after}
use Rattle.folder_staging.specs.Folders.{PlacesFolder}
use Rattle.folder_staging.proofs.Wholes.{places_folder}
use Rattle.folder_staging.proofs.folders.place_folder.Goals as goal

pub returns-in_err-publish_folder-clause-placed : goal.returns-in_err-publish_folder-clause-placed
returns-in_err-publish_folder-clause-placed g c =
    let t = g.F.Folder.told c.args.folder.now in
    let u = g.F.Folder.told c.publish_folder.new.folder in
    let p = err_from_is_err_and c.from_residual.result c.from_residual.ensures.1 in
    subst (PlacesFolder c.args.staged.now c.args.at.now t u) (sym (p.1 ∙ ap Err p.2))
    (λ before contents made sound h. ((c.in_err-publish_folder.ensures.published before contents made sound h).0, tt))

pub returns-clause-placed : goal.returns-clause-placed
returns-clause-placed g c =
    places_folder c.args.staged.now c.args.at.now (g.F.Folder.told c.args.folder.now) (g.F.Folder.told c.publish_folder.new.folder) (g.F.Folder.told c.settle.new.self)
    c.settle.result c.requires.apart.apart c.in_ok-publish_folder.ensures.published c.settle.ensures.changes

pub returns-clause-counts : goal.returns-clause-counts
returns-clause-counts g c =
    counts_after Settle (g.F.Folder.told c.publish_folder.new.folder) (g.F.Folder.told c.settle.new.self) (g.F.Folder.faults c.args.folder.now)
    (g.F.Folder.faults c.publish_folder.new.folder) (g.F.Folder.faults c.settle.new.self) c.settle.result c.in_ok-publish_folder.ensures.counts (λ a is. tt)
    c.settle.ensures.changes c.settle.ensures.counts
