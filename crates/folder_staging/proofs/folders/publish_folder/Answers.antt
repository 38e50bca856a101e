use Rattle.std.proofs.Common.{arith}
use Rattle.folder_spec.specs.Event.{Rename}
use Rattle.folder_model.proofs.Counting.{counts_after}
use Rattle.folder_staging.proofs.Wholes.{publishes_folder, folder_allowed}
use Rattle.folder_staging.proofs.folders.publish_folder.Goals as goal

pub returns-clause-published : goal.returns-clause-published
returns-clause-published g c =
    publishes_folder c.args.staged.now c.args.at.now (g.F.Folder.told c.args.folder.now) (g.F.Folder.told c.rename.new.self) c.rename.result c.requires.apart.apart c.requires.apart.beside
    (folder_allowed (g.F.Folder.told c.args.folder.now) c.args.staged.now c.args.at.now c.requires) c.rename.ensures.changes

pub returns-clause-counts : goal.returns-clause-counts
returns-clause-counts g c =
    let t = g.F.Folder.told c.args.folder.now in
    let n = g.F.Folder.faults c.args.folder.now in
    counts_after (Rename c.args.staged.now c.args.at.now) t (g.F.Folder.told c.rename.new.self) n n (g.F.Folder.faults c.rename.new.self) c.rename.result (omega arith)
    (folder_allowed t c.args.staged.now c.args.at.now c.requires) c.rename.ensures.changes c.rename.ensures.counts
