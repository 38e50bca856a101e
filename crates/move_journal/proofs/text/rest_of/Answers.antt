use Rattle.std.proofs.lemmas.Result.{IfOk-weaker}
use Rattle.move_journal.proofs.text.rest_of.Goals as goal

pub returns : goal.returns
returns c =
    IfOk-weaker c.format.result _ _ (λ text same. rw (c.in_ok-source.ensures, c.in_ok-target.ensures, c.in_ok-plan.ensures, c.as_slice.ensures) at same) c.format.ensures.ok
