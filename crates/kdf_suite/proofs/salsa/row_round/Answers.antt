use Rattle.std.proofs.Common.{◌∙◌, ap}
use Rattle.kdf_suite.specs.Diagonals.{quartered}
use Rattle.kdf_suite.specs.declared.salsa.Diagonals.{Diagonals}
use Rattle.kdf_suite.proofs.DiagonalRounds.{crossed, rows}
use Rattle.kdf_suite.proofs.salsa.row_round.Goals as goal

pub returns : goal.returns
returns c x is = ap crossed c.quartered-t.ensures ∙ ap (λ (s : Diagonals). crossed (quartered (crossed s))) is ∙ rows x
