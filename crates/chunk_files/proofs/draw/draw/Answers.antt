use Rattle.chunk_files.proofs.FailedDraws.{none-drawn}
use Rattle.chunk_files.proofs.draw.draw.Goals as goal

pub returns-in-Err-clause-fault : goal.returns-in-Err-clause-fault
returns-in-Err-clause-fault g c = λ f sizes. (c.in-Err.ensures.fault_counted, none-drawn _ sizes _ _ c.in-Err.ensures.fault_draws_nothing)
