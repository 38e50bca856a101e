use Rattle.std.proofs.Common.{suc}
use Rattle.kdf_suite.specs.Pbkdf2.{pbkdf2_block}
use Rattle.kdf_suite.proofs.FirstBlocks.{IsFilled}
use Rattle.kdf_suite.proofs.pbkdf2.pbkdf2_256.Given as goal

abbrev pub invariant-numbered : goal.invariant-numbered
invariant-numbered l = IsFilled (λ k. pbkdf2_block l.pass l.salt l.rounds (suc k)) l.out l.index
