use Rattle.std.proofs.Common.{arith}
use Rattle.folder_spec.specs.Event.{MakeDir}
use Rattle.folder_model.proofs.Counting.{counts_after}
use Rattle.folder_staging.proofs.Wholes.{begins_folder, free_place}
use Rattle.folder_staging.proofs.folders.begin_folder.Goals as goal

pub returns-clause-begun : goal.returns-clause-begun
returns-clause-begun g c =
    begins_folder c.args.at.now (g.F.Folder.told c.args.folder.now) (g.F.Folder.told c.make_dir.new.self) c.make_dir.result (g.met.F.Folder.sound c.args.folder.now)
    c.make_dir.ensures.changes

pub returns-clause-counts : goal.returns-clause-counts
returns-clause-counts g c =
    let t = g.F.Folder.told c.args.folder.now in
    let n = g.F.Folder.faults c.args.folder.now in
    counts_after (MakeDir c.args.at.now) t (g.F.Folder.told c.make_dir.new.self) n n (g.F.Folder.faults c.make_dir.new.self) c.make_dir.result (omega arith)
    (free_place t c.args.at.now c.requires) c.make_dir.ensures.changes c.make_dir.ensures.counts
