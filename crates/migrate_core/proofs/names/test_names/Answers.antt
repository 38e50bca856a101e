use Rattle.std.proofs.Common.{◌∙◌, ◌≡◌, ◌⊎◌, inr, ap, subst, arith, below_more}
use Rattle.std.proofs.lemmas.List.{get_or_default}
use Rattle.vault_spec.specs.Plan.{Planned}
use Rattle.vault_spec.specs.Vault.{format_of}
use Rattle.migrate_core.specs.Sides.{AllowsMappedLast}
use Rattle.migrate_core.specs.Causes.{ForbidsMappedLast, TestsNames, Unless}
use Rattle.migrate_core.proofs.Causing.{names_pass, names_refused}
use Rattle.migrate_core.specs.declared.fault.MoveFault.TheVariants.{NoMemory, NotAllowed}
use Rattle.migrate_core.proofs.names.test_names.Goals as goal
use Rattle.migration_sides.proofs.Chains.{refused_as}

pub loop-item-preserved : goal.loop-item-preserved
loop-item-preserved c =
    let x = c.item-item.result in
    let path = λ (y : Planned). y.path in
    below_more _ _ c.loop-item.invariant (λ other.
    subst (AllowsMappedLast c.args.names (format_of c.args.vault.now.vault)) (ap path (c.item.view_is ∙ c.item-item.is ∙ get_or_default c.args.items.now c.loop-item.item-index x other c.loop-item-test.true)) c.in_ok-test_name.ensures.allowed)

pub returns-clause-allowed : goal.returns-clause-allowed
returns-clause-allowed c = λ item among.
    subst (λ (y : Planned). AllowsMappedLast c.args.names (format_of c.args.vault.now.vault) y.path) among.2 (c.loop-item.invariant among.0 (omega (arith, among.1, c.loop-item-test.false)) item)

pub returns-clause-cause : goal.returns-clause-cause
returns-clause-cause c =
    let f = format_of c.args.vault.now.vault in
    inr (inr (names_pass c.args.names f c.args.items.now
    (λ item among. subst (λ (y : Planned). AllowsMappedLast c.args.names f y.path) among.2 (c.loop-item.invariant among.0 (omega (arith, among.1, c.loop-item-test.false)) item))))

pub returns-in_err-test_name-clause-cause : goal.returns-in_err-test_name-clause-cause
returns-in_err-test_name-clause-cause c =
    let f = format_of c.args.vault.now.vault in
    let fault = c.in_err-test_name.field-0.0 in
    refused_as (λ answer. Unless answer (TestsNames c.args.names f c.args.items.now answer)) c.from_residual.result c.from_residual.ensures.1
    (names_refused c.args.names f c.args.items.now c.loop-item.item-index c.item-item.result fault c.loop-item.invariant c.loop-item-test.true c.item-item.is
    (subst (λ path. (fault ≡ NoMemory) ⊎ (ForbidsMappedLast c.args.names f path × (fault ≡ NotAllowed path))) (ap (λ (x : Planned). x.path) c.item.view_is) c.in_err-test_name.ensures.forbids))
