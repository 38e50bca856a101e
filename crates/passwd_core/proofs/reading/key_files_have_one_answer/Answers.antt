use Rattle.passwd_core.proofs.Vaults.{says_one}
use Rattle.passwd_core.proofs.reading.key_files_have_one_answer.Goals as goal

pub returns : goal.returns
returns c = says_one c.bytes_have_one_answer.ensures c.bytes_have_one_answer-2.ensures
