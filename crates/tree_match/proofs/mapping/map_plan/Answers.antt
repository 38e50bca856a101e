use Rattle.std.proofs.Common.{List, Err, sym, ◌∙◌, subst}
use Rattle.vault_spec.specs.Plan.{Planned}
use Rattle.vault_walk.specs.Surveyed.{AreInOrder}
use Rattle.tree_match.specs.Mapping.{AreAlone, AreFirstAlike, AreNamed, IsMappedPlan, MapsTo}
use Rattle.tree_match.proofs.MappedPlans.{meets_as, is_mapped}
use Rattle.tree_match.proofs.mapping.map_plan.Goals as goal

pub returns-in-Some : goal.returns-in-Some
returns-in-Some c =
    let names = c.args.names in
    let fault = c.in_ok-meeting.field-0 in
    let alike : AreFirstAlike c.as_slice.result.now c.in-Some.early c.in-Some.late = rw c.in-Some.is at c.in_ok-early.ensures in
    subst (λ (ys : List Planned). MapsTo names ys (Err fault)) c.as_slice-items.ensures
    (meets_as names c.as_slice-items.result.now c.as_slice.result.now c.in-Some.early c.in-Some.late fault c.in_ok-mapped.ensures.named (c.as_slice.ensures.value ∙ c.in_ok-mapped.ensures.mapped) alike
    (λ d. c.in_ok-meeting.ensures d))

pub returns : goal.returns
returns c =
    let names = c.args.names in
    let mapped = c.in_ok-mapped.mapped.items in
    let alone : AreAlone c.as_slice.result.now = rw c.in_default.is at c.in_ok-early.ensures in (
      subst (λ (ys : List Planned). AreNamed names ys) c.as_slice-items.ensures c.in_ok-mapped.ensures.named,
      subst (λ (ys : List Planned). IsMappedPlan names ys c.new.result) c.as_slice-items.ensures
          (is_mapped names c.as_slice-items.result.now mapped c.new.result c.in_ok-mapped.ensures.mapped (subst (λ (ys : List Planned). AreInOrder mapped ys) (sym c.new.ensures) c.sorted.ensures)
          (subst (λ (ys : List Planned). AreAlone ys) c.as_slice.ensures.value alone)),
    )
