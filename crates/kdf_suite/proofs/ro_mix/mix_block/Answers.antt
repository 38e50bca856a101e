use Rattle.std.proofs.Common.{◌∙◌, ap, arith, bit_xor}
use Rattle.std.specs.Simd.Lanes.{zip2}
use Rattle.kdf_suite.specs.Diagonals.{in_order, words_of}
use Rattle.kdf_suite.specs.Salsa.{salsa20_8}
use Rattle.kdf_suite.proofs.WholeBlocks.{IsWhole-combined, words_of-combined}
use Rattle.kdf_suite.proofs.Written.{block_at-written, block_at-written_other}
use Rattle.kdf_suite.proofs.ro_mix.mix_block.Goals as goal

pub salsa20_8-mixed-requires : goal.salsa20_8-mixed-requires
salsa20_8-mixed-requires c = rw c.xored.ensures (IsWhole-combined bit_xor _ _ c.requires.whole c.diagonals_at.ensures.whole)

pub returns-clause-mixed : goal.returns-clause-mixed
returns-clause-mixed c =
    c.salsa20_8-mixed.ensures.core
    ∙ ap salsa20_8 (ap words_of c.xored.ensures
    ∙ words_of-combined bit_xor _ _ c.requires.whole c.diagonals_at.ensures.whole
    ∙ ap (zip2 bit_xor (words_of c.args.x)) c.diagonals_at.ensures.words)

pub returns-clause-written : goal.returns-clause-written
returns-clause-written c =
    ap (in_order 16) (block_at-written c.args.place _ c.put_diagonals.new.block c.args.output.now c.requires.room (omega arith) (omega arith)) ∙ c.put_diagonals.ensures

pub returns-clause-others : goal.returns-clause-others
returns-clause-others c = block_at-written_other c.args.place _ c.put_diagonals.new.block c.args.output.now c.requires.room (omega arith) (omega arith)
