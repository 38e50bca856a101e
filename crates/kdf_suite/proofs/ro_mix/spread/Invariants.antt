use Rattle.std.proofs.Common.{◌≡◌, ℕ, ◌<◌, slice_index}
use Rattle.kdf_suite.specs.Diagonals.{place}
use Rattle.kdf_suite.proofs.ro_mix.spread.Given as goal

abbrev pub invariant-words : goal.invariant-words
invariant-words l = (k : ℕ) → k < l.i → slice_index l.out k ≡ slice_index l.words (place l.step k)
