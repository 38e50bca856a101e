use Rattle.move_journal.proofs.Lines.{no_title}
use Rattle.move_journal.proofs.parse.take_title.Goals as goal

pub returns-in_default-rest_after : goal.returns-in_default-rest_after
returns-in_default-rest_after c = no_title c.args.text.now c.in_default.ensures c.in_default-rest_after.ensures
