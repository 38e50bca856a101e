use Rattle.std.proofs.Common.{◌∙◌, ap, subst, sym, Err, Ok, inr, refl}
use Rattle.migration_sides.proofs.Chains.{refused_as, then_passes, then_refused}
use Rattle.tree_match.specs.Comparing.{Is}
use Rattle.tree_match.specs.Trees.{AndFurther, AsSame, Compares, HoldsAllBy, side_of}
use Rattle.retire_core.proofs.Causing.{is_mapped, unmapped}
use Rattle.retire_core.specs.Causes.{TestsMapped, TestsMatch, Unless}
use Rattle.retire_core.specs.Faults.{of_match}
use Rattle.retire_core.specs.declared.fault.RetireFault.TheVariants.{Differ, Failed, NoMemory}
use Rattle.retire_core.proofs.holding.compare.Goals as goal

pub holds_all-requires-clause-a : goal.holds_all-requires-clause-a
holds_all-requires-clause-a g c v is =
    let plan = c.args.plans.now.source in
    c.mapped_plans_can_be_compared.ensures v c.args.sides.now.names plan.items c.in_ok-mapped.mapped.items (record { ordered = c.requires.source.ordered v is; files = c.requires.source.files v is }) c.in_ok-mapped.ensures.1

pub holds_all-requires-clause-b : goal.holds_all-requires-clause-b
holds_all-requires-clause-b g c v is = record { ordered = c.requires.target.ordered v is; files = c.requires.target.files v is }

pub returns-in-Same-clause-held : goal.returns-in-Same-clause-held
returns-in-Same-clause-held g c = λ v is own own_too.
    let sides = c.args.sides.now in
    c.what_is_held_opens_the_same.ensures.held v sides.names (side_of sides.source c.in_ok-mapped.mapped.items) (side_of sides.target c.args.plans.now.target.items)
    (record { own = c.args.plans.now.source.items; walk = c.requires.source.plan v is own; mapped = c.in_ok-mapped.ensures.1 }) (c.requires.target.plan v is own_too)
    (subst HoldsAllBy (sym (c.in_ok-holds_all.ensures.answers v is ∙ ap Is c.in-Same.is)) AsSame)

pub returns-in-Contained-clause-held : goal.returns-in-Contained-clause-held
returns-in-Contained-clause-held g c = λ v is own own_too.
    let sides = c.args.sides.now in
    c.what_is_held_opens_the_same.ensures.held v sides.names (side_of sides.source c.in_ok-mapped.mapped.items) (side_of sides.target c.args.plans.now.target.items)
    (record { own = c.args.plans.now.source.items; walk = c.requires.source.plan v is own; mapped = c.in_ok-mapped.ensures.1 }) (c.requires.target.plan v is own_too)
    (subst HoldsAllBy (sym (c.in_ok-holds_all.ensures.answers v is ∙ ap Is c.in-Contained.is)) (AndFurther c.in-Contained.field-0))

pub returns-in_err-mapped-clause-cause : goal.returns-in_err-mapped-clause-cause
returns-in_err-mapped-clause-cause g c v seen =
    let sides = c.args.sides.now in
    let items = c.args.plans.now.source.items in
    let others = c.args.plans.now.target.items in
    refused_as (λ answer. Unless answer (TestsMapped sides.names sides.source items sides.target others v answer)) c.from_residual.result c.from_residual.ensures.1
    (unmapped sides.names sides.source sides.target v items others c.in_err-mapped.field-0.0 c.in_err-mapped.ensures)

pub returns-in_err-holds_all-clause-cause : goal.returns-in_err-holds_all-clause-cause
returns-in_err-holds_all-clause-cause g c v seen =
    let sides = c.args.sides.now in
    let items = c.args.plans.now.source.items in
    let others = c.args.plans.now.target.items in
    let mapped = c.in_ok-mapped.mapped in
    refused_as (λ answer. Unless answer (TestsMapped sides.names sides.source items sides.target others v answer)) c.from_residual-in_err-holds_all.result c.from_residual-in_err-holds_all.ensures.1
    (is_mapped sides.names sides.source sides.target v items others mapped (Err (of_match c.in_err-holds_all.field-0.0)) c.in_ok-mapped.ensures
    (then_refused Failed NoMemory of_match (Compares sides.source mapped.items sides.target others v) TestsMatch c.in_err-holds_all.field-0.0 (c.in_err-holds_all.ensures.answers v seen)))

pub returns-in-Same-clause-cause : goal.returns-in-Same-clause-cause
returns-in-Same-clause-cause g c v seen =
    let sides = c.args.sides.now in
    let others = c.args.plans.now.target.items in
    let mapped = c.in_ok-mapped.mapped in
    is_mapped sides.names sides.source sides.target v c.args.plans.now.source.items others mapped (Ok tt) c.in_ok-mapped.ensures
    (then_passes Failed NoMemory of_match (Compares sides.source mapped.items sides.target others v) TestsMatch (Ok tt) c.in_ok-holds_all.field-0 (c.in_ok-holds_all.ensures.answers v seen)
    (inr (inr (subst (λ x. TestsMatch x (Ok tt)) (sym c.in-Same.is) refl))))

pub returns-in-Contained-clause-cause : goal.returns-in-Contained-clause-cause
returns-in-Contained-clause-cause g c v seen =
    let sides = c.args.sides.now in
    let others = c.args.plans.now.target.items in
    let mapped = c.in_ok-mapped.mapped in
    is_mapped sides.names sides.source sides.target v c.args.plans.now.source.items others mapped (Ok tt) c.in_ok-mapped.ensures
    (then_passes Failed NoMemory of_match (Compares sides.source mapped.items sides.target others v) TestsMatch (Ok tt) c.in_ok-holds_all.field-0 (c.in_ok-holds_all.ensures.answers v seen)
    (inr (inr (subst (λ x. TestsMatch x (Ok tt)) (sym c.in-Contained.is) refl))))

pub returns-clause-cause : goal.returns-clause-cause
returns-clause-cause g c v seen =
    let sides = c.args.sides.now in
    let others = c.args.plans.now.target.items in
    let mapped = c.in_ok-mapped.mapped in
    let path = c.in-Differs.path in
    let place = c.where_of.result in
    is_mapped sides.names sides.source sides.target v c.args.plans.now.source.items others mapped (Err (Differ path place)) c.in_ok-mapped.ensures
    (then_passes Failed NoMemory of_match (Compares sides.source mapped.items sides.target others v) TestsMatch (Err (Differ path place)) c.in_ok-holds_all.field-0 (c.in_ok-holds_all.ensures.answers v seen)
    (inr (inr (subst (λ x. TestsMatch x (Err (Differ path place))) (sym c.in-Differs.is) (ap (λ w. Err (Differ path w)) c.where_of.ensures)))))
