use Rattle.retire_core.proofs.Completing.{goes_through}
use Rattle.retire_core.proofs.laws.what_can_be_retired_is_retired.Goals as goal

pub returns : goal.returns
returns c = λ g from_pass to_pass v answer folders opened can tested.
    goes_through
    (record {
      reads = c.journals_are_read_back.ensures.found;
      one = c.roots_have_one_answer.ensures;
      alike = record {
        plan = c.walks_tell_the_tree.ensures.plan;
        meet = c.mapped_walks_tell_the_mapped_tree.ensures.meet;
        held = c.mapped_trees_are_held.ensures.held;
        holds = c.what_is_held_opens_the_same.ensures.holds;
      };
      none_special = c.clean_vaults_have_only_files_and_directories.ensures;
      shallow = c.clean_vaults_are_shallow.ensures;
    }) g from_pass to_pass v answer folders opened can tested
