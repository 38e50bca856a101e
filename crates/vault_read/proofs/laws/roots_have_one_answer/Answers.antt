use Rattle.vault_read.proofs.OneAnswer.{loads_one}
use Rattle.vault_read.proofs.laws.roots_have_one_answer.Goals as goal

pub returns : goal.returns
returns c = λ v pass a b p q.
    loads_one c.bytes_have_one_answer.ensures c.passphrases_unlock_one_pair.ensures c.bytes_have_one_answer-2.ensures c.passphrases_unlock_one_pair-2.ensures v pass a b p q
