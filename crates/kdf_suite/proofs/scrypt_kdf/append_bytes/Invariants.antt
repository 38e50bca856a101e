use Rattle.std.proofs.Common.{◌≡◌, ◌++◌, take}
use Rattle.kdf_suite.specs.Scrypt.{bytes_of}
use Rattle.kdf_suite.proofs.scrypt_kdf.append_bytes.Given as goal

abbrev pub invariant-loop-word : goal.invariant-loop-word
invariant-loop-word l = l.bytes.items ≡ l.initial.bytes.items ++ bytes_of (take l.word-index l.words)
