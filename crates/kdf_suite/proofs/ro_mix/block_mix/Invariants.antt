use Rattle.kdf_suite.specs.Diagonals.{IsWhole, in_order, words_of}
use Rattle.std.proofs.Common.{◌*◌}
use Rattle.kdf_suite.proofs.Mixed.{IsMixed}
use Rattle.kdf_suite.proofs.ro_mix.block_mix.Given as goal

abbrev pub invariant-pairs : goal.invariant-pairs
invariant-pairs l = record {
  whole : IsWhole l.x;
  mixed : IsMixed l.r (in_order (32 * l.r) l.input) l.i (words_of l.x) l.output;
}
