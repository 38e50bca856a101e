use Rattle.std.proofs.Common.{◌≡◌, length}
use Rattle.kdf_suite.specs.Scrypt.{words_of}
use Rattle.kdf_suite.proofs.scrypt_kdf.words_of.Given as goal

abbrev pub invariant-words : goal.invariant-words
invariant-words l = (l.words.items ≡ words_of l.i l.bytes) × (length l.words.items ≡ l.i)
