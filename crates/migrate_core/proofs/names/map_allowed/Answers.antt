use Rattle.std.proofs.Common.{Err, Ok, subst}
use Rattle.migration_sides.proofs.Chains.{fault_as, own_passes, own_refused, then_refused}
use Rattle.migration_sides.specs.Tests.{Then, nothing_follows}
use Rattle.tree_match.specs.Mapping.{MapsTo}
use Rattle.vault_spec.specs.Vault.{format_of}
use Rattle.vault_walk.specs.declared.plan.Plan.{Plan}
use Rattle.migrate_core.proofs.Blaming.{map_begins}
use Rattle.migrate_core.proofs.MappedNames.{each_allowed}
use Rattle.migrate_core.specs.Causes.{Answer, TestsNames, Unless}
use Rattle.migrate_core.specs.Faults.{of_map}
use Rattle.migrate_core.specs.Sides.{AllowsEachMapped}
use Rattle.migrate_core.specs.declared.fault.MoveFault.TheVariants.{Failed, NoMemory}
use Rattle.migrate_core.proofs.names.map_allowed.Goals as goal
use Rattle.migrate_core.proofs.Tested.{map_tested}

pub returns-in_err-test_names-clause-cause : goal.returns-in_err-test_names-clause-cause
returns-in_err-test_names-clause-cause c =
    let rule = c.args.sides.now.names in
    let f = format_of c.args.sides.now.target.vault in
    let items = c.args.plan.now.items in
    let fault = c.in_err-test_names.field-0.0 in
    let next : Unit {0} → Answer (Unit {0}) → Type 0 = λ _. Then of_map (MapsTo rule items) (λ (plan : Plan). nothing_follows plan.items) in
    fault_as _ c.from_residual.result c.from_residual.ensures.1
    (own_refused Failed NoMemory (TestsNames rule f items) next fault (subst (λ xs. Unless {X = Unit {0}} (Err fault) (TestsNames rule f xs (Err fault))) c.as_slice.ensures c.in_err-test_names.ensures.cause))

pub returns-in_err-map_plan-clause-cause : goal.returns-in_err-map_plan-clause-cause
returns-in_err-map_plan-clause-cause c =
    let rule = c.args.sides.now.names in
    let f = format_of c.args.sides.now.target.vault in
    let items = c.args.plan.now.items in
    let why = c.in_err-map_plan.field-0.0 in
    let next : Unit {0} → Answer (Unit {0}) → Type 0 = λ _. Then of_map (MapsTo rule items) (λ (plan : Plan). nothing_follows plan.items) in
    fault_as _ c.from_residual-in_err-map_plan.result c.from_residual-in_err-map_plan.ensures.1
    (own_passes Failed NoMemory (TestsNames rule f items) next (Err (of_map why)) tt (subst (λ xs. Unless {X = Unit {0}} (Ok tt) (TestsNames rule f xs (Ok tt))) c.as_slice.ensures c.in_ok-test_names.ensures.cause)
    (then_refused Failed NoMemory of_map (MapsTo rule items) (λ (plan : Plan). nothing_follows plan.items) why c.in_err-map_plan.ensures))

pub returns-in_err-map_plan-clause-tested : goal.returns-in_err-map_plan-clause-tested
returns-in_err-map_plan-clause-tested c =
    fault_as _ c.from_residual-in_err-map_plan.result c.from_residual-in_err-map_plan.ensures.1 (map_tested c.in_err-map_plan.field-0.0).1

pub returns-in_err-map_plan-clause-uncompared : goal.returns-in_err-map_plan-clause-uncompared
returns-in_err-map_plan-clause-uncompared c =
    fault_as _ c.from_residual-in_err-map_plan.result c.from_residual-in_err-map_plan.ensures.1 (map_tested c.in_err-map_plan.field-0.0).0

pub returns-in_err-map_plan-clause-blamed : goal.returns-in_err-map_plan-clause-blamed
returns-in_err-map_plan-clause-blamed c =
    fault_as _ c.from_residual-in_err-map_plan.result c.from_residual-in_err-map_plan.ensures.1 (map_begins c.in_err-map_plan.field-0.0)

pub returns-clause-allowed : goal.returns-clause-allowed
returns-clause-allowed c =
    let rule = c.args.sides.now.names in
    let f = format_of c.args.sides.now.target.vault in
    each_allowed rule f c.args.plan.now.items c.in_ok-map_plan.field-0.items c.in_ok-map_plan.ensures.1 (subst (AllowsEachMapped rule f) c.as_slice.ensures c.in_ok-test_names.ensures.allowed)

pub returns-clause-named : goal.returns-clause-named
returns-clause-named c = subst (AllowsEachMapped c.args.sides.now.names (format_of c.args.sides.now.target.vault)) c.as_slice.ensures c.in_ok-test_names.ensures.allowed
