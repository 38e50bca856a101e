use Rattle.std.proofs.Common.{arith, []}
use Rattle.folder_spec.specs.Event.{MakeDir}
use Rattle.folder_spec.specs.Seen.{seen}
use Rattle.folder_spec.proofs.Seen.{free_seen, seen_of}
use Rattle.folder_model.proofs.Counting.{counts_after}
use Rattle.vault_write.proofs.Adding.{adds_made}
use Rattle.vault_write.proofs.Placed.{made_shown}
use Rattle.vault_write.proofs.stage.make_folder.Goals as goal

pub returns-clause-made : goal.returns-clause-made
returns-clause-made g c = λ work.
    adds_made work c.args.at.now [] (g.F.Folder.told c.args.folder.now) (g.F.Folder.told c.make_dir.new.self) c.make_dir.result c.requires c.make_dir.ensures.changes

pub returns-clause-counts : goal.returns-clause-counts
returns-clause-counts g c =
    let t = g.F.Folder.told c.args.folder.now in
    let n = g.F.Folder.faults c.args.folder.now in
    counts_after (MakeDir c.args.at.now) t (g.F.Folder.told c.make_dir.new.self) n n (g.F.Folder.faults c.make_dir.new.self) c.make_dir.result (omega arith)
    (λ a is. free_seen a.state c.args.at.now (c.requires (seen a.state) (seen_of t a is))) c.make_dir.ensures.changes c.make_dir.ensures.counts

pub returns-clause-shown : goal.returns-clause-shown
returns-clause-shown g c =
    made_shown c.args.at.now (g.F.Folder.told c.args.folder.now) (g.F.Folder.told c.make_dir.new.self) c.make_dir.result (g.met.F.Folder.sound c.args.folder.now) c.make_dir.ensures.changes
