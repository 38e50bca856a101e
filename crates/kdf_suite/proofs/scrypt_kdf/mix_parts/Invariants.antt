use Rattle.std.proofs.Common.{◌≡◌}
use Rattle.kdf_suite.specs.Blocks.{joined}
use Rattle.kdf_suite.specs.Scrypt.{mixed_part}
use Rattle.kdf_suite.proofs.scrypt_kdf.mix_parts.Given as goal

abbrev pub invariant-parts : goal.invariant-parts
invariant-parts l = l.mixed.items ≡ joined (mixed_part l.n l.r l.parts) l.i
