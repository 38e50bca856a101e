use Rattle.std.proofs.Common.{rules}
use Rattle.kdf_suite.specs.Pbkdf2.{pbkdf2_u}
use Rattle.kdf_suite.proofs.pbkdf2.first_round.Goals as goal

pub returns : goal.returns
unfolding pbkdf2_u
returns c = search rules
