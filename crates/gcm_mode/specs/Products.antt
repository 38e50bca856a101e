-- Words of private contracts: sums of products of blocks and powers of a hash subkey.
use Rattle.std.specs.Prelude.{◌≡◌, ℕ, ◌+◌, ◌-◌, ◌*◌, ◌<◌, List, [], ◌∷◌, length, bit_xor, get_or}
use Rattle.gcm_mode.specs.Field.{product}
use Rattle.gcm_mode.specs.Pairs.{bytes_with, lane}
use Rattle.gcm_mode.specs.Private.{power}
use Rattle.gcm_mode.specs.Tables.{AreRows, block_in, byte_in}
use Rattle.gcm_mode.specs.declared.vectors.Nibbles.{Nibbles}
use Rattle.gcm_mode.specs.declared.tables.Pair.{Pair}

-- pairs of powers, each with the rows of its own
abbrev pub HaveRows : List Pair → Type 0
HaveRows pairs = (none : Pair) (i : ℕ) → i < length pairs → AreRows (get_or pairs i none).powers (get_or pairs i none).rows

-- the sums of these, over pairs of powers and vectors of two blocks, in a lane
unfoldable pub bytes_sum : ℕ → ℕ → List Pair → List Nibbles → ℕ
bytes_sum b l [] xs = 0
bytes_sum b l (p ∷ ps) [] = 0
bytes_sum b l (p ∷ ps) (x ∷ xs) = bit_xor (bytes_with b (lane l p.powers) (byte_in l x)) (bytes_sum b l ps xs)

-- the sums of the products of blocks and powers, in a lane
unfoldable pub products_sum : ℕ → List Pair → List Nibbles → ℕ
products_sum l [] xs = 0
products_sum l (p ∷ ps) [] = 0
products_sum l (p ∷ ps) (x ∷ xs) = bit_xor (product (block_in l x) (lane l p.powers)) (products_sum l ps xs)

-- the first eight powers of h, the highest first
pub record ArePowers (h : ℕ) (pairs : List Pair) : Type 0 where
  pub four : length pairs ≡ 4
  pub rows : HaveRows pairs
  pub each : (none : Pair) (i l : ℕ) → i < 4 → l < 2 → lane l (get_or pairs i none).powers ≡ power h (7 - (2 * i + l))
