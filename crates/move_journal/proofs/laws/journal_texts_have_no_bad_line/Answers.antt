use Rattle.move_journal.proofs.Exact.{no_bad_line}
use Rattle.move_journal.proofs.laws.journal_texts_have_no_bad_line.Goals as goal

pub returns : goal.returns
returns c = no_bad_line
