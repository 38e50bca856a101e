-- Words of private contracts: vectors of two blocks, each in a lane of sixteen bytes, as numbers.
use Rattle.std.specs.Prelude.{◌≡◌, ℕ, zero, suc, ◌+◌, ◌-◌, ◌*◌, ◌/◌, ◌%◌, ◌^◌, ◌<◌, List, length, bit_xor, slice_index}
use Rattle.gcm_mode.specs.Field.{product}

-- the number that n bytes make, the first of them highest
unfoldable pub number_of : (ℕ → ℕ) → ℕ → ℕ
number_of f zero = 0
number_of f (suc n) = number_of f n * 256 + f n

-- a vector of two blocks: 32 bytes
pub record IsPair (v : List ℕ) : Type 0 where
  pub long : length v ≡ 32
  pub bytes : (k : ℕ) → slice_index v k < 256

-- the block in lane l of such a vector
unfoldable pub lane : ℕ → List ℕ → ℕ
lane l v = number_of (λ p. slice_index v (16 * l + p)) 16

-- 32 nibbles
pub record AreNibbles (v : List ℕ) : Type 0 where
  pub long : length v ≡ 32
  pub nibbles : (k : ℕ) → slice_index v k < 16

-- byte b of a block
unfoldable pub byte_of : ℕ → ℕ → ℕ
byte_of b n = n / 2 ^ (8 * (15 - b)) % 256

-- what a nibble makes of the products with each of its bits
unfoldable pub nibble_sum : ℕ → ℕ → ℕ → ℕ → ℕ → ℕ
nibble_sum n eight four two one =
    bit_xor (bit_xor (bit_xor (n / 8 % 2 * eight) (n / 4 % 2 * four)) (n / 2 % 2 * two)) (n % 2 * one)

-- byte b of the products of each byte of a block, in its first place, with a power
unfoldable pub bytes_with : ℕ → ℕ → (ℕ → ℕ) → ℕ
bytes_with b h f = number_of (λ p. byte_of b (product (f p * 2 ^ 120) h)) 16
