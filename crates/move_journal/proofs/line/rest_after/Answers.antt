use Rattle.move_journal.proofs.Values.{found_also, front_absent, front_there}
use Rattle.move_journal.proofs.line.rest_after.Goals as goal

pub returns : goal.returns
returns c =
    found_also c.strip_prefix.result
    (λ h. front_absent c.args.text.now c.args.front.now h)
    (λ rest h. front_there c.args.text.now c.args.front.now rest.now h.0 h.1)
    c.strip_prefix.ensures.cases
