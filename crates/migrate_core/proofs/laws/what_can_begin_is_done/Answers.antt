use Rattle.migrate_core.proofs.Completing.{goes_through}
use Rattle.migrate_core.proofs.laws.what_can_begin_is_done.Goals as goal

pub returns : goal.returns
returns c = λ g from_pass to_pass v answer opened can may begins.
    goes_through
    (record { one = c.roots_have_one_answer.ensures; tells = c.walks_tell_the_tree.ensures.plan; meet = c.mapped_walks_tell_the_mapped_tree.ensures.meet }) g from_pass to_pass v answer opened can may begins
