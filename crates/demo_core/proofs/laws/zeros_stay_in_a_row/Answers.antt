use Rattle.demo_core.proofs.Drawn.{run_before, run_behind, run_refused}
use Rattle.demo_core.proofs.laws.zeros_stay_in_a_row.Goals as goal

pub returns-clause-before : goal.returns-clause-before
returns-clause-before c = run_before

pub returns-clause-behind : goal.returns-clause-behind
returns-clause-behind c = run_behind

pub returns-clause-refused : goal.returns-clause-refused
returns-clause-refused c = run_refused
