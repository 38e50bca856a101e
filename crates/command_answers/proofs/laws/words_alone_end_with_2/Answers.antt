use Rattle.command_answers.proofs.Reports.{bad_is_none, none_is_bad}
use Rattle.command_answers.proofs.laws.words_alone_end_with_2.Goals as goal

pub returns-clause-bad : goal.returns-clause-bad
returns-clause-bad c = bad_is_none

pub returns-clause-none : goal.returns-clause-none
returns-clause-none c = none_is_bad
