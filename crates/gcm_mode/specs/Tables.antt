-- Words of private contracts: tables of products with two powers of a hash subkey.
use Rattle.std.specs.Prelude.{◌≡◌, ℕ, ◌+◌, ◌*◌, ◌^◌, ◌<◌, List, length, slice_index, get_or}
use Rattle.gcm_mode.specs.Field.{product}
use Rattle.gcm_mode.specs.Pairs.{IsPair, byte_of, lane, number_of}
use Rattle.gcm_mode.specs.declared.vectors.Nibbles.{Nibbles}
use Rattle.gcm_mode.specs.declared.vectors.Row.{Row}

-- byte p of the block in lane l of a vector that is cut into nibbles, and that block
abbrev pub byte_in : ℕ → Nibbles → ℕ → ℕ
byte_in l x p = 16 * slice_index x.high (16 * l + p) + slice_index x.low (16 * l + p)

unfoldable pub block_in : ℕ → Nibbles → ℕ
block_in l x = number_of (byte_in l x) 16

-- row b has in each lane byte b of the products of a power with each first and each second nibble of a block
pub record AreRows (powers : List ℕ) (rows : List Row) : Type 0 where
  pub pair : IsPair powers
  pub sixteen : length rows ≡ 16
  pub high : (none : Row) (b l n : ℕ) → b < 16 → l < 2 → n < 16
      → slice_index (get_or rows b none).high (16 * l + n) ≡ byte_of b (product (n * 2 ^ 124) (lane l powers))
  pub low : (none : Row) (b l n : ℕ) → b < 16 → l < 2 → n < 16
      → slice_index (get_or rows b none).low (16 * l + n) ≡ byte_of b (product (n * 2 ^ 120) (lane l powers))
