use Rattle.std.proofs.Common.{arith, bit_xor}
use Rattle.kdf_suite.proofs.ZipWith.{zipped_below-more}
use Rattle.kdf_suite.proofs.blocks.xor_into.Goals as goal

pub bytes-preserved : goal.bytes-preserved
bytes-preserved c =
    zipped_below-more bit_xor _ _ _ _ (omega (arith, c.told-bytes)) (omega (arith, c.told-other)) c.bytes.invariant
