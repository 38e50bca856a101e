use Rattle.chunk_files.proofs.Given.{given-ended, given-fed, given-next, given-started}
use Rattle.chunk_files.proofs.laws.given_chunks_come_first.Goals as goal

pub returns-clause-started : goal.returns-clause-started
returns-clause-started c = given-started

pub returns-clause-fed : goal.returns-clause-fed
returns-clause-fed c = λ keys fed chunks d piece taken given on. given-fed keys fed chunks d given piece taken on

pub returns-clause-ended : goal.returns-clause-ended
returns-clause-ended c = λ keys fed chunks d given. given-ended keys fed chunks d given

pub returns-clause-next : goal.returns-clause-next
returns-clause-next c = λ keys fed chunks d d2 step buffer given gives ended number. given-next keys fed chunks d given d2 step buffer gives ended number
