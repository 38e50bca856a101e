use Rattle.std.proofs.Common.{arith, refl}
use Rattle.retire_core.proofs.Blaming.{blamed_kind}
use Rattle.migration_sides.proofs.Chains.{fault_as, refused_as}
use Rattle.migration_sides.proofs.Told.{folder_unless}
use Rattle.retire_core.specs.Causes.{TestsFree, Unless}
use Rattle.retire_core.specs.Faults.{of_folder}
use Rattle.retire_core.proofs.retiring.test_free.Goals as goal

pub returns-in_err-kind-clause-blamed : goal.returns-in_err-kind-clause-blamed
returns-in_err-kind-clause-blamed g c =
    let n0 = g.F.Folder.faults c.args.folder.now in
    fault_as _ c.from_residual-in_err-kind.result c.from_residual-in_err-kind.ensures.1
    (blamed_kind (g.F.Folder.told c.args.folder.now) c.in_ok-old.old n0 n0 (g.F.Folder.faults c.kind.new.self) c.in_err-kind.field-0.0 (omega arith) c.in_err-kind.ensures.answer c.in_err-kind.ensures.counts)

pub returns-in_err-kind-clause-cause : goal.returns-in_err-kind-clause-cause
returns-in_err-kind-clause-cause g c v seen =
    refused_as (λ answer. Unless answer (TestsFree c.args.work.now v answer)) c.from_residual-in_err-kind.result c.from_residual-in_err-kind.ensures.1
    (folder_unless of_folder refl _ c.in_err-kind.field-0.0)
