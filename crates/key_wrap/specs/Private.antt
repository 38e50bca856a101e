-- Words of private contracts: what stands between two steps.
use Rattle.std.specs.Prelude.{◌≡◌, ℕ, ◌<◌, List, length, slice_index}

-- 40 bytes: the value A and the four parts of a key
pub record IsState (state : List ℕ) : Type 0 where
  pub forty : length state ≡ 40
  pub bytes : (k : ℕ) → slice_index state k < 256
