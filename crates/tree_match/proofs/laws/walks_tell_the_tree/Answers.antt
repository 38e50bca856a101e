use Rattle.tree_match.proofs.ToldTrees.{opens_content, opens_directory, walk_is_plan, walk_tells}
use Rattle.tree_match.specs.Trees.{tree_of}
use Rattle.tree_match.proofs.laws.walks_tell_the_tree.Goals as goal

pub returns-clause-plan : goal.returns-clause-plan
returns-clause-plan c = walk_is_plan c.files_have_their_contents.ensures c.plans_are_the_tree.ensures

pub returns-clause-directory : goal.returns-clause-directory
returns-clause-directory c v a item walk = opens_directory v a (tree_of v a) (walk_tells c.files_have_their_contents.ensures c.plans_are_the_tree.ensures v a walk) item

pub returns-clause-file : goal.returns-clause-file
returns-clause-file c v a item walk = opens_content v a (tree_of v a) (walk_tells c.files_have_their_contents.ensures c.plans_are_the_tree.ensures v a walk) c.whole_files_end.ensures item
