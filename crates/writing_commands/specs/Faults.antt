-- The answers to what is made.
use Rattle.std.specs.Prelude.{Result, Ok, Err}
use Rattle.item_making.specs.declared.fault.PutFault.{PutFault}
use Rattle.command_answers.specs.declared.answer.Answer.{Answer}
use Rattle.command_answers.specs.declared.answer.Answer.TheVariants.{Done}
use Rattle.open_for_changing.specs.Faults.{of_put}

-- the answer to a call that makes something
abbrev pub answer_to_making : Result (Unit {0}) PutFault → Answer
answer_to_making (Ok done) = Done
answer_to_making (Err fault) = of_put fault
