use Rattle.std.proofs.Common.{codes, ◌∙◌}
use Rattle.move_journal.specs.Parsing.{in_form}
use Rattle.move_journal.proofs.Values.{IsPathText, path_has_no_newline, other_value}
use Rattle.move_journal.proofs.Lines.{no_value, source_there}
use Rattle.move_journal.proofs.parse.take_source.Goals as goal

pub returns-in-None : goal.returns-in-None
returns-in-None c = λ form.
    let none = rw c.in-None.is at c.in_ok-path.ensures in
    no_value form (in_form form 2) (codes "from ") c.args.text.now IsPathText (source_there form)
    (other_value (codes "from ") c.in-Some.value.now c.in-Some.rest.now c.args.text.now IsPathText c.in-Some.ensures.0 c.in-Some.ensures.1 path_has_no_newline
    (λ w is e. none is.0 is.1 (e ∙ is.2)))

pub returns-in_default : goal.returns-in_default
returns-in_default c = λ form. no_value form (in_form form 2) (codes "from ") c.args.text.now IsPathText (source_there form) (λ value rest is. c.in_default.ensures value rest)
