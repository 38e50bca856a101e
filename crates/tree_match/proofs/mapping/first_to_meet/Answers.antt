use Rattle.std.proofs.Common.{sym, ap, ◌∙◌}
use Rattle.std.specs.BTreeMap.{get}
use Rattle.plain_tree.specs.Order.{path_cmp}
use Rattle.vault_spec.specs.Plan.{Planned}
use Rattle.tree_match.proofs.MappedPlans.{empty_map, no_places, places_more, first_alike, all_alone}
use Rattle.tree_match.proofs.mapping.first_to_meet.Goals as goal

pub loop-place-init : goal.loop-place-init
loop-place-init c = no_places c.args.items.now (get path_cmp c.new-places.result) (λ p. empty_map c.new-places.result p c.new-places.ensures.empty)

pub returns-in-Some : goal.returns-in-Some
returns-in-Some c =
    first_alike c.args.items.now c.loop-place.place c.in-Some.early c.index-items-place.result c.item.inside.path (get path_cmp c.loop-place.places) c.loop-place-test.true c.index-items-place.is
    (ap (λ (x : Planned). x.path) c.item.view_is) c.loop-place.invariant (sym c.in_ok-early.ensures.before ∙ c.in-Some.is)

pub loop-place-preserved : goal.loop-place-preserved
loop-place-preserved c =
    places_more c.args.items.now c.loop-place.place c.index-items-place.result c.item.inside.path (get path_cmp c.loop-place.places) (get path_cmp c.put_place.new.places) c.loop-place-test.true c.index-items-place.is
    (ap (λ (x : Planned). x.path) c.item.view_is) (sym c.in_ok-early.ensures.before ∙ c.in_default.is) c.in_ok-early.ensures.put c.loop-place.invariant

pub returns : goal.returns
returns c = all_alone c.args.items.now c.loop-place.place (get path_cmp c.loop-place.places) c.loop-place-test.false c.loop-place.invariant
