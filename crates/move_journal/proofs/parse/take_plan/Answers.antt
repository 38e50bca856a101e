use Rattle.std.proofs.Common.{codes, ◌∙◌}
use Rattle.move_journal.specs.Parsing.{in_form}
use Rattle.move_journal.proofs.Values.{IsPlanText, plan_has_no_newline, other_value}
use Rattle.move_journal.proofs.Lines.{no_value, plan_there}
use Rattle.move_journal.proofs.parse.take_plan.Goals as goal

pub returns-in_default : goal.returns-in_default
returns-in_default c = λ form.
    no_value form (in_form form 5) (codes "plan ") c.args.text.now IsPlanText (plan_there form)
    (other_value (codes "plan ") c.in_ok-value.value.now c.in_ok-value.rest.now c.args.text.now IsPlanText c.in_ok-value.ensures.0 c.in_ok-value.ensures.1 plan_has_no_newline
    (λ w is e. c.in_default.ensures is.0 is.1 (e ∙ is.2)))
