-- A word of private contracts: the table of ROMix.
use Rattle.std.specs.Prelude.{◌≡◌, ℕ, ◌*◌, ◌<◌, List, length, take, drop}
use Rattle.kdf_suite.specs.Diagonals.{in_order}
use Rattle.kdf_suite.specs.RoMix.{mixed_times}

-- the table holds the first n mixes of x, of 32 r words each, by their diagonals
pub record IsTable (r : ℕ) (x : List ℕ) (n : ℕ) (table : List ℕ) : Type 0 where
  pub long : length table ≡ 32 * r * n
  pub rows : (i : ℕ) → i < n → in_order (32 * r) (take (32 * r) (drop (32 * r * i) table)) ≡ mixed_times r x i
