use Rattle.std.proofs.Common.{Err, List, Ok, refl, subst, sym}
use Rattle.migration_sides.specs.Tests.{nothing_follows}
use Rattle.tree_match.specs.Mapping.{MapsTo}
use Rattle.vault_spec.specs.Plan.{Planned}
use Rattle.vault_spec.specs.Vault.{format_of}
use Rattle.migrate_core.proofs.Causing.{Passed, PassedWith, mapped_pass, mapped_refused, match_on, matching_refused}
use Rattle.migrate_core.proofs.Limits.{uncompared}
use Rattle.migrate_core.specs.Causes.{Answer, Refuses, TestsItems, TestsMapped, TestsMatch, TestsNames, TestsTold, Unless}
use Rattle.migrate_core.specs.Limits.{PassesLimit}
use Rattle.migrate_core.proofs.resuming.test_plans.Goals as goal
use Rattle.migration_sides.proofs.Chains.{fault_as, own_passes, own_refused, passed_is}
use Rattle.migrate_core.specs.declared.fault.MoveFault.TheVariants.{Failed, NoMemory}
use Rattle.vault_spec.specs.Opened.{OpenedVault}
use Rattle.move_journal.specs.declared.journal.Journal.{Journal}
use Rattle.folder_spec.specs.View.{View}
use Rattle.migrate_core.specs.declared.fault.MoveFault.{MoveFault}

-- behind the test of what the journal tells
abbrev matches : (from to : OpenedVault) (there : List Planned) → View → List Planned → Answer (Unit {0}) → Type 0
matches from to there v mapped = TestsMatch to there from mapped v (nothing_follows mapped)

told_passes : (from to : OpenedVault) (journal : Journal) (items there : List Planned) (v : View) (fault : MoveFault) → Unless {X = Unit {0}} (Ok tt) (TestsTold journal items (Ok tt))
    → Unless {X = Unit {0}} (Err fault) (TestsMapped journal.names (format_of to.vault) items (matches from to there v) (Err fault)) → Refuses (TestsItems from to journal v items there nothing_follows) fault
told_passes from to journal items there v fault = own_passes Failed NoMemory (TestsTold journal items) (λ _. TestsMapped journal.names (format_of to.vault) items (matches from to there v)) (Err fault) tt

pub returns-in_err-test_changed-clause-cause : goal.returns-in_err-test_changed-clause-cause
returns-in_err-test_changed-clause-cause g c =
    let from = c.args.sides.now.source in
    let to = c.args.sides.now.target in
    let items = c.args.plans.now.source.items in
    let there = c.args.plans.now.target.items in
    let journal = c.args.journal.now in
    fault_as _ c.from_residual.result c.from_residual.ensures.1
    (λ v seen. own_refused Failed NoMemory (TestsTold journal items) (λ _. TestsMapped journal.names (format_of to.vault) items (matches from to there v)) c.in_err-test_changed.field-0.0 c.in_err-test_changed.ensures.cause)

pub returns-in_err-mapped-clause-cause : goal.returns-in_err-mapped-clause-cause
returns-in_err-mapped-clause-cause g c =
    let from = c.args.sides.now.source in
    let to = c.args.sides.now.target in
    let items = c.args.plans.now.source.items in
    let there = c.args.plans.now.target.items in
    let journal = c.args.journal.now in
    let f = format_of to.vault in
    let fault = c.in_err-mapped.field-0.0 in
    fault_as _ c.from_residual-in_err-mapped.result c.from_residual-in_err-mapped.ensures.1
    (λ v seen. told_passes from to journal items there v fault c.in_ok-test_changed.ensures.cause
    (mapped_refused journal.names f items (matches from to there v) fault (subst (λ n. Refuses (TestsMapped n f items nothing_follows) fault) (sym c.requires.names) c.in_err-mapped.ensures.cause)))

pub returns-in_err-test_held-clause-cause : goal.returns-in_err-test_held-clause-cause
returns-in_err-test_held-clause-cause g c =
    let from = c.args.sides.now.source in
    let to = c.args.sides.now.target in
    let items = c.args.plans.now.source.items in
    let there = c.args.plans.now.target.items in
    let journal = c.args.journal.now in
    let f = format_of to.vault in
    let plan = c.in_ok-mapped.mapped in
    let fault = c.in_err-test_held.field-0.0 in
    fault_as _ c.from_residual-in_err-test_held.result c.from_residual-in_err-test_held.ensures.1
    (λ v seen. told_passes from to journal items there v fault c.in_ok-test_changed.ensures.cause
    (mapped_pass journal.names f items (matches from to there v) (Err fault) plan (subst (λ n. TestsNames n f items (Ok tt)) (sym c.requires.names) c.in_ok-mapped.ensures.passed)
    (subst (λ n. MapsTo n items (Ok plan)) (sym c.requires.names) c.in_ok-mapped.ensures.maps)
    (matching_refused to there from plan.items v (nothing_follows plan.items) fault (c.in_err-test_held.ensures.cause v seen))))

pub returns-clause-passed : goal.returns-clause-passed
returns-clause-passed g c v seen =
    let from = c.args.sides.now.source in
    let to = c.args.sides.now.target in
    let items = c.args.plans.now.source.items in
    let there = c.args.plans.now.target.items in
    let journal = c.args.journal.now in
    let f = format_of to.vault in
    let plan = c.in_ok-mapped.mapped in
    let held = passed_is Failed NoMemory tt (TestsMatch to there from plan.items v Passed (Ok tt)) (c.in_ok-test_held.ensures.cause v seen) in (
      Ok tt,
      passed_is Failed NoMemory tt (TestsTold journal items (Ok tt)) c.in_ok-test_changed.ensures.cause,
      (
        Ok tt,
        subst (λ n. TestsNames n f items (Ok tt)) (sym c.requires.names) c.in_ok-mapped.ensures.passed,
        (
          Ok plan,
          subst (λ n. MapsTo n items (Ok plan)) (sym c.requires.names) c.in_ok-mapped.ensures.maps,
          match_on to there from plan.items v (PassedWith plan.items plan.items) (Ok tt) (refl, refl) held,
        ),
      ),
    )

pub returns-in_err-test_changed-clause-limit : goal.returns-in_err-test_changed-clause-limit
returns-in_err-test_changed-clause-limit g c =
    let rule = c.args.sides.now.names in
    let from = c.args.sides.now.source in
    let to = c.args.sides.now.target in
    fault_as _ c.from_residual.result c.from_residual.ensures.1 (λ v is. uncompared (PassesLimit rule from to v) c.in_err-test_changed.field-0.0 c.in_err-test_changed.ensures.uncompared)

pub returns-in_err-mapped-clause-limit : goal.returns-in_err-mapped-clause-limit
returns-in_err-mapped-clause-limit g c =
    let rule = c.args.sides.now.names in
    let from = c.args.sides.now.source in
    let to = c.args.sides.now.target in
    fault_as _ c.from_residual-in_err-mapped.result c.from_residual-in_err-mapped.ensures.1 (λ v is. uncompared (PassesLimit rule from to v) c.in_err-mapped.field-0.0 c.in_err-mapped.ensures.uncompared)

pub returns-in_err-test_held-clause-limit : goal.returns-in_err-test_held-clause-limit
returns-in_err-test_held-clause-limit g c =
    fault_as _ c.from_residual-in_err-test_held.result c.from_residual-in_err-test_held.ensures.1 c.in_err-test_held.ensures.limit

pub test_held-requires-clause-source : goal.test_held-requires-clause-source
test_held-requires-clause-source g c = record { own = c.args.plans.now.source.items; walked = c.requires.source; mapped = c.in_ok-mapped.ensures.mapped }
