use Rattle.kdf_suite.proofs.WholeBlocks.{IsWhole-read, words_of-read}
use Rattle.kdf_suite.proofs.salsa.diagonals_at.Goals as goal

pub returns-clause-whole : goal.returns-clause-whole
returns-clause-whole c = IsWhole-read c.args.block.now c.requires

pub returns-clause-words : goal.returns-clause-words
returns-clause-words c = words_of-read c.args.block.now c.requires
