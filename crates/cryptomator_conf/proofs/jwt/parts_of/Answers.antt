use Rattle.std.proofs.Common.{refl}
use Rattle.cryptomator_conf.proofs.jwt.parts_of.Goals as goal

pub returns : goal.returns
returns c = rw (← c.in_ok-header.ensures, ← c.in_ok-payload.ensures) refl
