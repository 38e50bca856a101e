use Rattle.std.proofs.Common.{◌≡◌, bit_xor}
use Rattle.kdf_suite.proofs.ZipWith.{zipped_below}
use Rattle.kdf_suite.proofs.blocks.xor_into.Given as goal

abbrev pub invariant-bytes : goal.invariant-bytes
invariant-bytes l = l.bytes ≡ zipped_below bit_xor l.initial.bytes l.other l.i
