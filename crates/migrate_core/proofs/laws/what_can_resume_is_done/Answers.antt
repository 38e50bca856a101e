use Rattle.migrate_core.proofs.Continuing.{goes_through_again}
use Rattle.migrate_core.proofs.laws.what_can_resume_is_done.Goals as goal

pub returns : goal.returns
returns c = λ g from_pass to_pass v answer folders opened can may resumes.
    goes_through_again
    (record {
      reads = c.journals_are_read_back.ensures.found;
      one = c.roots_have_one_answer.ensures;
      tells = c.walks_tell_the_tree.ensures.plan;
      meet = c.mapped_walks_tell_the_mapped_tree.ensures.meet;
      part = c.what_is_held_opens_the_same.ensures.is_part;
    }) g from_pass to_pass v answer folders opened can may resumes
