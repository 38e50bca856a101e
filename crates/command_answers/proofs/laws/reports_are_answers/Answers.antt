use Rattle.command_answers.proofs.Reports.{reported_any, reported_told}
use Rattle.command_answers.proofs.laws.reports_are_answers.Goals as goal

pub returns-clause-any : goal.returns-clause-any
returns-clause-any c = reported_any

pub returns-clause-told : goal.returns-clause-told
returns-clause-told c = reported_told
