use Rattle.gcm_mode.proofs.Modes.{opens_once}
use Rattle.gcm_mode.proofs.laws.opens_to_one_text.Goals as goal

pub returns : goal.returns
returns c = opens_once
