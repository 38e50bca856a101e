use Rattle.vault_write.proofs.Counted.{kind_counts}
use Rattle.vault_write.proofs.slot.kind_at.Goals as goal

pub returns-clause-counts : goal.returns-clause-counts
returns-clause-counts g c =
    kind_counts (g.F.Folder.told c.args.folder.now) (g.F.Folder.faults c.args.folder.now) (g.F.Folder.faults c.kind.new.self) c.args.at.now c.kind.result c.kind.ensures.answer c.kind.ensures.counts
