use Rattle.move_journal.proofs.Values.{no_value_after}
use Rattle.move_journal.proofs.line.next_value.Goals as goal

pub returns-in_default : goal.returns-in_default
returns-in_default c =
    no_value_after c.args.text.now c.args.front.now c.in_ok-after_front.after_front.now c.in_ok-after_front.ensures c.in_default.ensures
