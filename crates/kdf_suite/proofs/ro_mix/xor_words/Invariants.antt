use Rattle.std.proofs.Common.{◌≡◌, bit_xor}
use Rattle.kdf_suite.proofs.ZipWith.{zipped_below}
use Rattle.kdf_suite.proofs.ro_mix.xor_words.Given as goal

abbrev pub invariant-words : goal.invariant-words
invariant-words l = l.words ≡ zipped_below bit_xor l.initial.words l.other l.i
