use Rattle.std.proofs.Common.{◌≡◌}
use Rattle.kdf_suite.specs.Diagonals.{diagonals_of, words_of}
use Rattle.kdf_suite.specs.Salsa.{double_rounds}
use Rattle.kdf_suite.proofs.salsa.eight_rounds.Given as goal

abbrev pub invariant-rounds : goal.invariant-rounds
invariant-rounds l = l.s ≡ diagonals_of (double_rounds l._round (words_of l.fn.block))
