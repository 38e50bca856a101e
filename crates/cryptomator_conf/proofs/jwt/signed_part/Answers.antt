use Rattle.std.proofs.Common.{refl}
use Rattle.cryptomator_conf.proofs.jwt.signed_part.Goals as goal

pub returns : goal.returns
returns c = rw (c.in_ok-extend_from_slice.ensures.items, c.in_ok-push.ensures.items, c.in_ok-signed.ensures.items) refl
