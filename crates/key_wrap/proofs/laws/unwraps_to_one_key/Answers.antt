use Rattle.key_wrap.proofs.Wraps.{unwraps_once}
use Rattle.key_wrap.proofs.laws.unwraps_to_one_key.Goals as goal

pub returns : goal.returns
returns c = unwraps_once
