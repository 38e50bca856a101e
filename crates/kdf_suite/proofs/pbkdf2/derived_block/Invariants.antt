use Rattle.std.proofs.Common.{◌≡◌}
use Rattle.kdf_suite.specs.Pbkdf2.{pbkdf2_block, pbkdf2_u}
use Rattle.kdf_suite.proofs.pbkdf2.derived_block.Given as goal

abbrev pub invariant-rounds : goal.invariant-rounds
invariant-rounds l =
    (l.last ≡ pbkdf2_u l.pass l.salt l.number l._round)
    × (l.block ≡ pbkdf2_block l.pass l.salt l._round l.number)
