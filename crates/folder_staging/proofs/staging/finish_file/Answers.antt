use Rattle.std.proofs.Common.{arith}
use Rattle.folder_spec.specs.Event.{Sync}
use Rattle.folder_model.proofs.Counting.{counts_after}
use Rattle.folder_staging.proofs.Pieces.{finishes_from, file_allowed}
use Rattle.folder_staging.proofs.staging.finish_file.Goals as goal

pub returns-clause-finished : goal.returns-clause-finished
returns-clause-finished g c =
    finishes_from c.args.at.now (g.F.Folder.told c.args.folder.now) (g.F.Folder.told c.sync.new.self) c.sync.result c.sync.ensures.changes

pub returns-clause-counts : goal.returns-clause-counts
returns-clause-counts g c =
    let t = g.F.Folder.told c.args.folder.now in
    let n = g.F.Folder.faults c.args.folder.now in
    counts_after (Sync c.args.at.now) t (g.F.Folder.told c.sync.new.self) n n (g.F.Folder.faults c.sync.new.self) c.sync.result (omega arith)
    (file_allowed t c.args.at.now c.requires) c.sync.ensures.changes c.sync.ensures.counts
