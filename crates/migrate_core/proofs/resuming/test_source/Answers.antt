use Rattle.std.proofs.Common.{◌≡◌, Ok, arith}
use Rattle.folder_model.proofs.Counting.{counts_at_fault, never_falls}
use Rattle.folder_spec.specs.View.{kind_found}
use Rattle.folder_spec.specs.declared.Kind.{Kind}
use Rattle.migrate_core.proofs.Blaming.{blamed_folder}
use Rattle.migrate_core.proofs.resuming.test_source.Goals as goal
use Rattle.migration_sides.proofs.Chains.{fault_as}

pub returns-in_err-kind-clause-blamed : goal.returns-in_err-kind-clause-blamed
returns-in_err-kind-clause-blamed g c =
    let n0 = g.F.Folder.faults c.args.folder.now in
    let n1 = g.F.Folder.faults c.kind.new.self in
    let fault = c.in_err-kind.field-0.0 in
    fault_as _ c.from_residual-in_err-kind.result c.from_residual-in_err-kind.ensures.1
    (blamed_folder Kind n0 n0 n1 fault (omega arith)
    (counts_at_fault Kind Kind (g.F.Folder.told c.args.folder.now) n0 n0 n1 (λ v. Unit {0}) (λ v kind. kind ≡ kind_found (v c.in_ok-old.old)) fault (omega arith) (λ v is. tt)
    c.in_err-kind.ensures.answer c.in_err-kind.ensures.counts))

pub returns-in_err-kind-2-clause-blamed : goal.returns-in_err-kind-2-clause-blamed
returns-in_err-kind-2-clause-blamed g c =
    let n0 = g.F.Folder.faults c.args.folder.now in
    let n1 = g.F.Folder.faults c.kind.new.self in
    let n2 = g.F.Folder.faults c.kind-else-ne.new.self in
    let fault = c.in_err-kind-2.field-0.0 in
    fault_as _ c.from_residual-in_err-kind-2.result c.from_residual-in_err-kind-2.ensures.1
    (blamed_folder Kind n0 n1 n2 fault (never_falls {T = Kind} (g.F.Folder.told c.args.folder.now) n0 n1 (Ok c.in_ok-kind.field-0) c.in_ok-kind.ensures.counts)
    (counts_at_fault Kind Kind (g.F.Folder.told c.kind.new.self) n1 n1 n2 (λ v. Unit {0}) (λ v kind. kind ≡ kind_found (v c.args.journal.now.source)) fault (omega arith) (λ v is. tt)
    c.in_err-kind-2.ensures.answer c.in_err-kind-2.ensures.counts))
