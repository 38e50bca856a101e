use Rattle.std.proofs.Common.{◌≡◌}
use Rattle.folder_spec.specs.declared.Kind.{Kind}
use Rattle.folder_spec.specs.View.{kind_found}
use Rattle.vault_read.proofs.Counts.{counts_of}
use Rattle.vault_read.proofs.looking.kind_under.Goals as goal

pub returns-clause-counts : goal.returns-clause-counts
returns-clause-counts g c =
    counts_of Kind (g.F.Folder.told c.args.folder.now) (g.F.Folder.faults c.args.folder.now) (g.F.Folder.faults c.kind.new.self) (λ v. Unit {0})
    (λ v kind. kind ≡ kind_found (v c.in_ok-at.at)) c.kind.result (λ v is. tt) c.kind.ensures.answer c.kind.ensures.counts
