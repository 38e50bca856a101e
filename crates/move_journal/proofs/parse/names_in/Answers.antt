use Rattle.move_journal.proofs.Lines.{no_names}
use Rattle.move_journal.proofs.parse.names_in.Goals as goal

pub returns-in_default-rest_after : goal.returns-in_default-rest_after
returns-in_default-rest_after c = no_names c.args.text.now c.in_default.ensures c.in_default-rest_after.ensures
