use Rattle.demonstration.proofs.Statuses.{ends_work}
use Rattle.demonstration.proofs.leading.status_of.Goals as goal

pub returns-in_default-answer_to_move-clause-status : goal.returns-in_default-answer_to_move-clause-status
returns-in_default-answer_to_move-clause-status c own begins =
    ends_work c.args.work.now _ c.args.fault c.answer_to_move.result c.status.result c.status.ensures c.in_default-answer_to_move.not-OutOfMemory c.answer_to_move.ensures.answers
    (λ is. c.answer_to_move.ensures.failed is own) c.answer_to_move.ensures.drawn c.answer_to_move.ensures.zeros c.answer_to_move.ensures.taken (c.answer_to_move.ensures.begins own begins)
