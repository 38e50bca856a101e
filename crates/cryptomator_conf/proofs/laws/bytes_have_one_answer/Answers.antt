use Rattle.cryptomator_conf.proofs.OneAnswer.{reads_once}
use Rattle.cryptomator_conf.proofs.laws.bytes_have_one_answer.Goals as goal

pub returns : goal.returns
returns c = reads_once
