use Rattle.std.proofs.Common.{refl}
use Rattle.move_journal.proofs.Values.{found_also}
use Rattle.move_journal.proofs.parse.take_names.Goals as goal

pub returns-in-First : goal.returns-in-First
returns-in-First c = rw c.in-First.is (refl, refl)

pub returns-in-Second : goal.returns-in-Second
returns-in-Second c = rw c.in-Second.is (found_also c.names_in.result (λ none. (refl, none)) (λ found is. is) c.names_in.ensures)
