use Rattle.std.proofs.Common.{refl}
use Rattle.kdf_suite.specs.Diagonals.{quartered}
use Rattle.kdf_suite.proofs.salsa.quartered.Goals as goal

pub returns : goal.returns
unfolding quartered
returns c =
    rw (
      c.turned-first.ensures,
      c.turned-fourth.ensures,
      c.turned-third.ensures,
      c.turned-second.ensures,
    ) refl
