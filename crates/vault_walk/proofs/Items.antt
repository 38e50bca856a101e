-- In an orderly vault each item of the reached directories, in order, makes the plan.
use Rattle.std.proofs.Common.{◌≡◌, ◌≢◌, ◌++◌, List, [], ◌∷◌, Some, sym, ap, ◌∙◌, subst, Contains}
use Rattle.folder_spec.specs.Path.{Path}
use Rattle.folder_spec.specs.View.{View}
use Rattle.plain_tree.specs.Names as plain
use Rattle.plain_tree.specs.declared.NodeKind.{NodeKind}
use Rattle.vault_spec.specs.Alike.{IsOrderly, place_of}
use Rattle.vault_spec.specs.Format.{Format}
use Rattle.vault_spec.specs.Listing.{node_of}
use Rattle.vault_spec.specs.Plan.{Planned, IsPlanned, IsPlan, StandsBelow}
use Rattle.vault_spec.specs.Standing.{standing}
use Rattle.vault_walk.proofs.Walks.{StandBelow}
use Rattle.vault_walk.specs.Survey.{IsPathOf, HasEachOnce, IsOrdered}

planned : plain.Path → NodeKind → Path → Planned
planned path node at = record { path = path; node = node; at = at }

-- an item is told by its path
one_item : (f : Format) (v : View) (x y : Planned) → IsPlanned f v x → IsPlanned f v y → x.path ≡ y.path → x ≡ y
unfolding planned
one_item f v x y one two paths =
    ap (λ p. planned p x.node x.at) paths ∙ ap (λ n. planned y.path n x.at) nodes ∙ ap (planned y.path y.node) places
  where
    the_nodes : Some x.node ≡ Some y.node
    the_nodes = sym one.node ∙ ap (λ p. node_of (standing f v p)) paths ∙ two.node

    nodes : x.node ≡ y.node
    nodes = let both : Some x.node ≡ Some y.node = the_nodes in cc

    the_places : Some x.at ≡ Some y.at
    the_places = sym one.place ∙ ap (λ p. place_of (standing f v p)) paths ∙ two.place

    places : x.at ≡ y.at
    places = let both : Some x.at ≡ Some y.at = the_places in cc

pub once_is_plan : StandBelow → (f : Format) (v : View) (plan : List Planned) → IsOrderly f v → HasEachOnce f v plan → IsOrdered plan → IsPlan f v plan
once_is_plan stand_below f v plan orderly once ordered = record { ordered = ordered; items = λ item. (once.stand item, among item) }
  where
    among : (item : Planned) → (item.path ≢ []) × IsPlanned f v item → Contains plan item
    among item is =
        let below : StandsBelow f v item.path = stand_below f v item.path item.at is.0 is.1.place in
        let found : (x : Planned) × Contains plan x × IsPathOf f v (record { dir = below.dir; name = below.name }) x.path
        = once.each (record { dir = below.dir; name = below.name }) (record { reached = (below.front, below.leads); node = item.node; stands = ap node_of below.stands ∙ is.1.node }) in
        let fronts : found.2.front ≡ below.front = orderly.one_path found.2.front below.front below.dir found.2.leads below.leads in
        let paths : found.0.path ≡ item.path = found.2.is ∙ ap (λ p. p ++ below.name ∷ []) fronts ∙ sym below.is in
        subst (Contains plan) (one_item f v found.0 item (once.stand found.0 found.1).1 is.1 paths) found.1
