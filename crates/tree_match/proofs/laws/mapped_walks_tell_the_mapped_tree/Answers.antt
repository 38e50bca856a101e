use Rattle.folder_spec.specs.View.{View}
use Rattle.plain_tree.specs.declared.name_map.NameMap.{NameMap}
use Rattle.tree_match.proofs.HeldTrees.{FilesAreThere, PlansAreTheTree, can_match}
use Rattle.tree_match.proofs.MappedTrees.{apart, in_mapped, mapped_tells, none_meet, opens_in, tree_by}
use Rattle.tree_match.proofs.ToldTrees.{TellsTree, opens_content, opens_directory, walk_tells}
use Rattle.tree_match.specs.Comparing.{content_at}
use Rattle.tree_match.specs.Trees.{IsMappedWalkOf, PlannedVault, with_items, tree_of}
use Rattle.vault_spec.specs.Opens.{Content, Directory}
use Rattle.vault_spec.specs.Vault.{format_of}
use Rattle.tree_match.proofs.laws.mapped_walks_tell_the_mapped_tree.Goals as goal

-- the vault's own items tell its tree
own_tells : FilesAreThere → PlansAreTheTree → (v : View) (names : NameMap) (a : PlannedVault) (walk : IsMappedWalkOf names v a) → TellsTree v (with_items a walk.own) (tree_of v a)
own_tells files plans v names a walk = walk_tells files plans v (with_items a walk.own) walk.walk

pub returns-clause-apart : goal.returns-clause-apart
returns-clause-apart c v names a walk = apart v names a walk (own_tells c.files_have_their_contents.ensures c.plans_are_the_tree.ensures v names a walk)

pub returns-clause-each : goal.returns-clause-each
returns-clause-each c v names a path walk = in_mapped v names a walk (own_tells c.files_have_their_contents.ensures c.plans_are_the_tree.ensures v names a walk) path

pub returns-clause-directory : goal.returns-clause-directory
returns-clause-directory c v names a item walk among is_dir =
    let own = own_tells c.files_have_their_contents.ensures c.plans_are_the_tree.ensures v names a walk in
    opens_in v names a walk own item Directory among (opens_directory v a (tree_by v a) (mapped_tells v names a walk own) item among is_dir)

pub returns-clause-file : goal.returns-clause-file
returns-clause-file c v names a item walk among is_file whole =
    let own = own_tells c.files_have_their_contents.ensures c.plans_are_the_tree.ensures v names a walk in
    opens_in v names a walk own item (Content (content_at (format_of a.vault).content v item.at).bytes) among
    (opens_content v a (tree_by v a) (mapped_tells v names a walk own) c.whole_files_end.ensures item among is_file whole)

pub returns-clause-meet : goal.returns-clause-meet
returns-clause-meet c v names a one other walk stays =
    none_meet v names a (can_match c.files_have_their_contents.ensures v a walk).ordered (walk_tells c.files_have_their_contents.ensures c.plans_are_the_tree.ensures v a walk) stays one other
