use Rattle.folder_spec.specs.View.{View}
use Rattle.plain_tree.specs.declared.name_map.NameMap.{NameMap}
use Rattle.tree_match.proofs.HeldParts.{held_is_part, same_is_part}
use Rattle.tree_match.proofs.HeldTrees.{FilesAreThere, PlansAreTheTree, can_match}
use Rattle.tree_match.proofs.MappedPlans.{matchable}
use Rattle.tree_match.proofs.MappedTrees.{MapsItems, held_from, held_to, mapped_tells, maps, part_from, part_to, tree_by}
use Rattle.tree_match.proofs.SameTrees.{one_tree_matches, part_matches}
use Rattle.tree_match.proofs.ToldTrees.{TellsTree, walk_tells}
use Rattle.tree_match.specs.Trees.{IsMappedWalkOf, PlannedVault, with_items, tree_of}
use Rattle.tree_match.proofs.laws.what_is_held_opens_the_same.Goals as goal

-- the mapped walk tells the mapped tree
record IsMappedTree (v : View) (names : NameMap) (a : PlannedVault) : Type 0 where
  tells : TellsTree v a (tree_by v a)
  maps : MapsItems names (tree_of v a) (tree_by v a)

mapped_tree : FilesAreThere → PlansAreTheTree → (v : View) (names : NameMap) (a : PlannedVault) → IsMappedWalkOf names v a → IsMappedTree v names a
mapped_tree files plans v names a walk =
    let own : TellsTree v (with_items a walk.own) (tree_of v a) = walk_tells files plans v (with_items a walk.own) walk.walk in
    record { tells = mapped_tells v names a walk own; maps = maps v names a walk own }

pub returns-clause-matchable : goal.returns-clause-matchable
returns-clause-matchable c = can_match c.files_have_their_contents.ensures

pub returns-clause-mapped : goal.returns-clause-mapped
returns-clause-mapped c v names a walk = matchable v names walk.own a.items (can_match c.files_have_their_contents.ensures v (with_items a walk.own) walk.walk) walk.mapped

pub returns-clause-held : goal.returns-clause-held
returns-clause-held c v names a b walk_a walk_b holds =
    let first = mapped_tree c.files_have_their_contents.ensures c.plans_are_the_tree.ensures v names a walk_a in
    let second = walk_tells c.files_have_their_contents.ensures c.plans_are_the_tree.ensures v b walk_b in
    held_from names (tree_of v a) (tree_by v a) (tree_of v b) first.maps (held_is_part c.whole_files_end.ensures v a b (tree_by v a) (tree_of v b) first.tells second holds)

pub returns-clause-same : goal.returns-clause-same
returns-clause-same c v names a b walk_a walk_b same =
    let first = mapped_tree c.files_have_their_contents.ensures c.plans_are_the_tree.ensures v names a walk_a in
    let second = walk_tells c.files_have_their_contents.ensures c.plans_are_the_tree.ensures v b walk_b in
    part_from names (tree_of v a) (tree_by v a) (tree_of v b) first.maps (same_is_part c.whole_files_end.ensures v a b (tree_by v a) (tree_of v b) first.tells second same)

pub returns-clause-part : goal.returns-clause-part
returns-clause-part c v names a b walk_a walk_b holds =
    let first = walk_tells c.files_have_their_contents.ensures c.plans_are_the_tree.ensures v a walk_a in
    let second = mapped_tree c.files_have_their_contents.ensures c.plans_are_the_tree.ensures v names b walk_b in
    part_from names (tree_of v b) (tree_by v b) (tree_of v a) second.maps (held_is_part c.whole_files_end.ensures v a b (tree_of v a) (tree_by v b) first second.tells holds)

pub returns-clause-alike : goal.returns-clause-alike
returns-clause-alike c v names a b walk_a walk_b held part =
    let first = mapped_tree c.files_have_their_contents.ensures c.plans_are_the_tree.ensures v names a walk_a in
    let second = walk_tells c.files_have_their_contents.ensures c.plans_are_the_tree.ensures v b walk_b in
    one_tree_matches v a b (tree_by v a) (tree_of v b) first.tells second (held_to names (tree_of v a) (tree_by v a) (tree_of v b) first.maps held) (part_to names (tree_of v a) (tree_by v a) (tree_of v b) first.maps part)

pub returns-clause-holds : goal.returns-clause-holds
returns-clause-holds c v names a b walk_a walk_b held =
    let first = mapped_tree c.files_have_their_contents.ensures c.plans_are_the_tree.ensures v names a walk_a in
    let second = walk_tells c.files_have_their_contents.ensures c.plans_are_the_tree.ensures v b walk_b in
    part_matches v a b (tree_by v a) (tree_of v b) first.tells second (held_to names (tree_of v a) (tree_by v a) (tree_of v b) first.maps held)

pub returns-clause-is_part : goal.returns-clause-is_part
returns-clause-is_part c v names a b walk_a walk_b part =
    let first = walk_tells c.files_have_their_contents.ensures c.plans_are_the_tree.ensures v a walk_a in
    let second = mapped_tree c.files_have_their_contents.ensures c.plans_are_the_tree.ensures v names b walk_b in
    part_matches v a b (tree_of v a) (tree_by v b) first second.tells (part_to names (tree_of v b) (tree_by v b) (tree_of v a) second.maps part)
