use Rattle.std.proofs.Common.{◌∙◌, ap}
use Rattle.kdf_suite.specs.Diagonals.{quartered}
use Rattle.kdf_suite.proofs.DiagonalRounds.{columns}
use Rattle.kdf_suite.proofs.salsa.column_round.Goals as goal

pub returns : goal.returns
returns c x is = c.quartered.ensures ∙ ap quartered is ∙ columns x
