use Rattle.move_journal.proofs.BackAgain.{one_journal, one_stands, read_back, found_back}
use Rattle.move_journal.proofs.laws.journals_are_read_back.Goals as goal

pub returns : goal.returns
returns c = record { one = one_journal; read = read_back; stands = one_stands; found = found_back }
