-- Lists of bytes, blocks, and their bitwise sum.
use Rattle.std.specs.Prelude.{◌≡◌, ℕ, ◌<◌, length, List, bit_xor, slice_index}
use Rattle.std.specs.Simd.Lanes.{zip2}

-- each number of a list is a byte, and so is the zero past its end
abbrev pub AreBytes : List ℕ → Type 0
AreBytes xs = (k : ℕ) → slice_index xs k < 256

-- sixteen bytes
pub record IsBlock (block : List ℕ) : Type 0 where
  pub sixteen : length block ≡ 16
  pub bytes : (k : ℕ) → slice_index block k < 256

-- the bitwise sum of two lists, element by element, as long as the shorter one
unfoldable pub xor_bytes : List ℕ → List ℕ → List ℕ
xor_bytes xs ys = zip2 bit_xor xs ys
