use Rattle.std.proofs.Common.{OnOk, subst, sym}
use Rattle.folder_spec.specs.Seen.{IfSeen, IsSeen}
use Rattle.migration_sides.proofs.Chains.{fault_as, refused_as}
use Rattle.retire_core.proofs.Blaming.{blamed_step}
use Rattle.retire_core.proofs.Causing.{both_clean, unclean}
use Rattle.retire_core.specs.Causes.{TestsVaults, Unless}
use Rattle.port_model.specs.Counts.{CountRose}
use Rattle.retire_core.specs.Retiring.{AreHeld}
use Rattle.retire_core.proofs.holding.test_held.Goals as goal

pub returns-in_err-plans-clause-blamed : goal.returns-in_err-plans-clause-blamed
returns-in_err-plans-clause-blamed g c =
    fault_as _ c.from_residual.result c.from_residual.ensures.1 (blamed_step (CountRose (g.F.Folder.faults c.args.folder.now) (g.F.Folder.faults c.walk_both.new.folder)) c.in_err-plans.field-0.0 c.in_err-plans.ensures.blamed)

pub returns-in_err-plans-clause-cause : goal.returns-in_err-plans-clause-cause
returns-in_err-plans-clause-cause g c v seen =
    let sides = c.args.sides.now in
    refused_as (λ answer. Unless answer (TestsVaults sides.names sides.source sides.target v answer)) c.from_residual.result c.from_residual.ensures.1
    (unclean sides.names sides.source sides.target v c.in_err-plans.field-0.0 (c.in_err-plans.ensures.cause v seen))

pub returns-clause-held : goal.returns-clause-held
returns-clause-held g c =
    subst (λ t. OnOk c.compare.result (IfSeen t (λ v. AreHeld c.args.sides.now.names c.args.sides.now.source c.args.sides.now.target v))) c.walk_both.ensures.told c.compare.ensures.held

pub returns-clause-cause : goal.returns-clause-cause
returns-clause-cause g c v seen =
    let sides = c.args.sides.now in
    both_clean sides.names sides.source sides.target v c.in_ok-plans.plans.source.items c.in_ok-plans.plans.target.items c.compare.result (c.in_ok-plans.ensures.passed_source v seen)
    (c.in_ok-plans.ensures.passed_target v seen) (c.compare.ensures.cause v (subst (λ t. IsSeen t v) (sym c.walk_both.ensures.told) seen))
