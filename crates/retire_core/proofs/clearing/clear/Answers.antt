use Rattle.retire_core.proofs.Cleared.{only_then}
use Rattle.retire_core.proofs.Going.{retiring_then}
use Rattle.migration_sides.proofs.Chains.{passed_is, refused_as, fault_as}
use Rattle.retire_core.proofs.Causing.{ends}
use Rattle.retire_core.specs.Causes.{TestsRemovals, Unless, IsOfFolder}
use Rattle.retire_core.specs.declared.fault.RetireFault.TheVariants.{Failed, NoMemory}
use Rattle.std.proofs.Common.{Ok}
use Rattle.retire_core.specs.Faults.{IsOfRemoval}
use Rattle.retire_core.proofs.Blaming.{folder_removal, if_err_both}
use Rattle.retire_core.proofs.clearing.clear.Goals as goal
use Rattle.retire_core.proofs.InTurn.{beside_then, keeps_beside, last_keeps}

pub returns-clause-guard : goal.returns-clause-guard
returns-clause-guard g c = λ migration same.
    retiring_then migration (g.F.Folder.told c.args.folder.now) (g.F.Folder.told c.clear_beside.new.folder) (g.F.Folder.told c.clear_rest.new.folder) (c.clear_beside.ensures.guard migration same) (c.clear_rest.ensures.guard migration same)

pub returns-clause-clears : goal.returns-clause-clears
returns-clause-clears g c =
    only_then c.args.work.now (g.F.Folder.told c.args.folder.now) (g.F.Folder.told c.clear_beside.new.folder) (g.F.Folder.told c.clear_rest.new.folder) c.clear_beside.ensures.clears c.clear_rest.ensures.clears

pub returns-in_err-clear_beside-clause-cause : goal.returns-in_err-clear_beside-clause-cause
returns-in_err-clear_beside-clause-cause g c v seen =
    refused_as (λ answer. Unless answer (TestsRemovals c.args.work.now v answer)) c.from_residual.result c.from_residual.ensures.1
    (c.in_err-clear_beside.ensures.cause v seen)

pub returns-clause-cause : goal.returns-clause-cause
returns-clause-cause g c v seen =
    ends (TestsRemovals c.args.work.now v) c.clear_rest.result c.clear_rest.ensures.fails (passed_is Failed NoMemory tt (TestsRemovals c.args.work.now v (Ok tt)) (c.in_ok-clear_beside.ensures.cause v seen))

pub returns-in_err-clear_beside-clause-refused : goal.returns-in_err-clear_beside-clause-refused
returns-in_err-clear_beside-clause-refused g c = fault_as _ c.from_residual.result c.from_residual.ensures.1 c.in_err-clear_beside.ensures.refused

pub returns-clause-refused : goal.returns-clause-refused
returns-clause-refused g c = if_err_both IsOfFolder IsOfRemoval c.clear_rest.result folder_removal c.clear_rest.ensures.fails

pub returns-in_err-clear_beside-clause-beside : goal.returns-in_err-clear_beside-clause-beside
returns-in_err-clear_beside-clause-beside g c = keeps_beside c.args.work.now (g.F.Folder.told c.args.folder.now) (g.F.Folder.told c.clear_beside.new.folder) c.clear_beside.ensures.journal

pub returns-clause-beside : goal.returns-clause-beside
returns-clause-beside g c =
    let work = c.args.work.now in
    let here = g.F.Folder.told c.clear_beside.new.folder in
    let after = g.F.Folder.told c.clear_rest.new.folder in
    beside_then work (g.F.Folder.told c.args.folder.now) here after c.clear_beside.ensures.journal (last_keeps work here after c.in_ok-clear_beside.ensures.cleared c.clear_rest.ensures.clears)
