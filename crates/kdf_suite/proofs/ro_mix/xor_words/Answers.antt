use Rattle.std.proofs.Common.{arith, bit_xor}
use Rattle.kdf_suite.proofs.ZipWith.{zipped_below-all, zipped_below-more}
use Rattle.kdf_suite.proofs.ro_mix.xor_words.Goals as goal

pub words-preserved : goal.words-preserved
words-preserved c = zipped_below-more bit_xor _ _ _ _ (omega arith) (omega arith) c.words.invariant

pub returns : goal.returns
returns c = zipped_below-all bit_xor _ _ _ _ (omega arith) (omega arith) c.words.invariant
