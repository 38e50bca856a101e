use Rattle.move_journal.proofs.Lines.{no_phase}
use Rattle.move_journal.proofs.parse.take_phase.Goals as goal

pub returns-in_default-rest_after : goal.returns-in_default-rest_after
returns-in_default-rest_after c = no_phase c.args.text.now c.in_default.ensures c.in_default-rest_after.ensures
