use Rattle.vault_spec.specs.Vault.{format_of}
use Rattle.migrate_core.specs.Faults.{of_match}
use Rattle.migrate_core.proofs.Causing.{Passed, none_differs}
use Rattle.migration_sides.specs.Tests.{Then, own}
use Rattle.tree_match.specs.Trees.{Compares}
use Rattle.migrate_core.proofs.Planned.{mapped_files}
use Rattle.migrate_core.specs.Causes.{Answer, TestsHeld, TestsMatch, Unless}
use Rattle.tree_match.specs.declared.answer.Match.{Match}
use Rattle.tree_match.specs.Matching.{matched}
use Rattle.std.proofs.Common.{Err, Ok, ap, inr, refl, subst, sym}
use Rattle.migrate_core.specs.declared.fault.MoveFault.TheVariants.{Differ, Failed, NoMemory}
use Rattle.migrate_core.proofs.Limits.{by_match, target_first}
use Rattle.migrate_core.specs.Limits.{PassesLimit}
use Rattle.migrate_core.proofs.resuming.test_held.Goals as goal
use Rattle.migration_sides.proofs.Chains.{fault_as, own_passes, own_refused, refused_as, then_passes, then_refused}

pub holds_all-requires-clause-a : goal.holds_all-requires-clause-a
holds_all-requires-clause-a g c = λ v seen. record { ordered = c.requires.target.ordered v seen; files = c.requires.target.files v seen }

pub holds_all-requires-clause-b : goal.holds_all-requires-clause-b
holds_all-requires-clause-b g c = λ v seen. record {
  ordered = c.requires.source.mapped.ordered;
  files = mapped_files c.args.sides.now.names c.args.sides.now.source c.args.mapped.now.items (g.F.Folder.told c.args.folder.now) c.requires.source v seen;
}

pub returns-in_err-holds_all-clause-cause : goal.returns-in_err-holds_all-clause-cause
returns-in_err-holds_all-clause-cause g c v seen =
    let from = c.args.sides.now.source in
    let to = c.args.sides.now.target in
    let held = λ (m : Match). Then own (TestsHeld m) (λ _. Passed) in
    refused_as (λ answer. Unless answer (TestsMatch to c.args.target.now.items from c.args.mapped.now.items v Passed answer)) c.from_residual.result c.from_residual.ensures.1
    (then_refused Failed NoMemory of_match (Compares to c.args.target.now.items from c.args.mapped.now.items v) held c.in_err-holds_all.field-0.0 (c.in_err-holds_all.ensures.answers v seen))

pub returns-in-Same : goal.returns-in-Same
returns-in-Same g c =
    let from = c.args.sides.now.source in
    let to = c.args.sides.now.target in
    let items = c.args.target.now.items in
    let others = c.args.mapped.now.items in
    let m = c.in_ok-holds_all.field-0 in
    let held : Match → Answer (Unit {0}) → Type 0 = λ m. Then own (TestsHeld m) (λ _. Passed) in
    record {
      told = c.in_ok-holds_all.ensures.looks.told;
      grows = c.in_ok-holds_all.ensures.looks.blames.grows;
      tested = tt;
      limit = tt;
      blamed = tt;
      cause = λ v seen. then_passes Failed NoMemory of_match (Compares to items from others v) held (Ok tt) m (c.in_ok-holds_all.ensures.answers v seen)
          (own_passes Failed NoMemory (TestsHeld m) (λ _. Passed) (Ok tt) tt (inr (inr (none_differs m c.in-Same.is))) (inr (inr refl)));
    }

pub returns-clause-cause : goal.returns-clause-cause
returns-clause-cause g c v seen =
    let from = c.args.sides.now.source in
    let to = c.args.sides.now.target in
    let items = c.args.target.now.items in
    let others = c.args.mapped.now.items in
    let m = c.in_ok-holds_all.field-0 in
    let held : Match → Answer (Unit {0}) → Type 0 = λ m. Then own (TestsHeld m) (λ _. Passed) in
    let path = c.in-Differs.path in
    let place = c.where_in.result in
    then_passes Failed NoMemory of_match (Compares to items from others v) held (Err (Differ path place)) m (c.in_ok-holds_all.ensures.answers v seen)
    (own_refused Failed NoMemory (TestsHeld m) (λ _. Passed) (Differ path place)
    (inr (inr (subst (λ x. TestsHeld x (Err (Differ path place))) (sym c.in-Differs.is) (ap (λ w. Err (Differ path w)) c.where_in.ensures)))))

pub returns-in_err-holds_all-clause-limit : goal.returns-in_err-holds_all-clause-limit
returns-in_err-holds_all-clause-limit g c =
    let from = c.args.sides.now.source in
    let to = c.args.sides.now.target in
    let rule = c.args.sides.now.names in
    let items = c.args.mapped.now.items in
    let others = c.args.target.now.items in
    let told = g.F.Folder.told c.args.folder.now in
    fault_as _ c.from_residual.result c.from_residual.ensures.1
    (λ v is. by_match (PassesLimit rule from to v) (matched (format_of to.vault).content others (format_of from.vault).content items v) c.in_err-holds_all.field-0.0 (c.in_err-holds_all.ensures.answers v is)
    (target_first rule from to items others told v c.requires.source c.requires.target is))
