use Rattle.std.proofs.Common.{◌∙◌, ap}
use Rattle.std.specs.Simd.Lanes.{zip2}
use Rattle.kdf_suite.specs.Diagonals.{words_of}
use Rattle.kdf_suite.specs.Salsa.{add32, salsa20_8}
use Rattle.kdf_suite.proofs.WholeBlocks.{IsWhole-combined, words_of-combined}
use Rattle.kdf_suite.proofs.salsa.salsa20_8.Goals as goal

pub returns-clause-whole : goal.returns-clause-whole
returns-clause-whole c = rw c.added.ensures (IsWhole-combined add32 _ _ c.requires c.eight_rounds-mixed.ensures.whole)

pub returns-clause-core : goal.returns-clause-core
unfolding salsa20_8
returns-clause-core c =
    ap words_of c.added.ensures
    ∙ words_of-combined add32 c.args.block c.eight_rounds-mixed.result c.requires c.eight_rounds-mixed.ensures.whole
    ∙ ap (zip2 add32 (words_of c.args.block)) c.eight_rounds-mixed.ensures.rounds
