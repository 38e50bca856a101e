use Rattle.std.proofs.lemmas.List.{take_rest}
use Rattle.move_journal.proofs.Values.{no_first_line, first_line, first_line_plain}
use Rattle.move_journal.proofs.line.next_line.Goals as goal

pub returns-in_default : goal.returns-in_default
returns-in_default c = no_first_line c.args.text.now c.in_default.ensures

pub returns : goal.returns
returns c = (
  rw take_rest (first_line c.args.text.now c.in-Some.end c.in-Some.ensures.0 c.in-Some.ensures.1),
  first_line_plain c.args.text.now c.in-Some.end c.in-Some.ensures.2,
)
