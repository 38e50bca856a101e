use Rattle.std.proofs.Common.{arith}
use Rattle.folder_spec.specs.Event.{Append}
use Rattle.folder_model.proofs.Counting.{counts_after}
use Rattle.folder_staging.proofs.Pieces.{adds_from, file_allowed}
use Rattle.folder_staging.proofs.staging.add_piece.Goals as goal

pub returns-clause-added : goal.returns-clause-added
returns-clause-added g c =
    adds_from c.args.at.now c.args.piece.now (g.F.Folder.told c.args.folder.now) (g.F.Folder.told c.append.new.self) c.append.result c.append.ensures.changes

pub returns-clause-counts : goal.returns-clause-counts
returns-clause-counts g c =
    let t = g.F.Folder.told c.args.folder.now in
    let n = g.F.Folder.faults c.args.folder.now in
    counts_after (Append c.args.at.now c.args.piece.now) t (g.F.Folder.told c.append.new.self) n n (g.F.Folder.faults c.append.new.self) c.append.result (omega arith)
    (file_allowed t c.args.at.now c.requires) c.append.ensures.changes c.append.ensures.counts
