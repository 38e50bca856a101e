-- Words of private contracts: sixteen blocks as eight planes of 32 bytes, each of two lanes. Bit b of byte p of lane l of
-- plane i is bit i of the byte in place p of block 2 b + l, where the places go row after row.
use Rattle.std.specs.Prelude.{◌≡◌, ℕ, ◌+◌, ◌-◌, ◌*◌, ◌/◌, ◌%◌, ◌^◌, ◌<◌, length, List, [], ◌∷◌, map, slice_index, nat_eq, if◌then◌else◌}
use Rattle.std.specs.List.{range_with_len}

-- 32 bytes
pub record IsPlane (plane : List ℕ) : Type 0 where
  pub long : length plane ≡ 32
  pub bytes : (p : ℕ) → slice_index plane p < 256

-- bit k of a number, and of byte p of a plane
abbrev pub bit_of : ℕ → ℕ → ℕ
bit_of k number = number / 2 ^ k % 2

abbrev pub bit : ℕ → ℕ → List ℕ → ℕ
bit p k plane = bit_of k (slice_index plane p)

-- the byte of some bits, the lowest first
unfoldable pub byte_of : List ℕ → ℕ
byte_of [] = 0
byte_of (b ∷ bits) = b + 2 * byte_of bits

-- the place, row after row, of a byte that has this place column after column
abbrev pub place : ℕ → ℕ
place j = 4 * (j % 4) + j / 4

-- the byte of the bits k of byte p of some planes
abbrev pub byte_at : List (List ℕ) → ℕ → ℕ → ℕ
byte_at planes k p = byte_of (map (bit p k) planes)

-- the block of the bits b of a lane
unfoldable pub lane_block : List (List ℕ) → ℕ → ℕ → List ℕ
lane_block planes l b = map (λ j. byte_at planes b (16 * l + place j)) (range_with_len 0 16)

-- block k of eight planes
unfoldable pub block_of : List (List ℕ) → ℕ → List ℕ
block_of planes k = lane_block planes (k % 2) (k / 2)

-- the bits of byte p of a plane, the lowest first
abbrev pub bits_at : ℕ → List ℕ → List ℕ
bits_at p plane = map (λ k. bit p k plane) (range_with_len 0 8)

-- of two lists of eight bits, cut into groups of s: each second group of the one, from the first on, and then that
-- of the other
unfoldable pub low_bits : ℕ → List ℕ → List ℕ → List ℕ
low_bits s a b = map (λ i. if nat_eq (i / s % 2) 0 then slice_index a i else slice_index b (i - s)) (range_with_len 0 8)

-- the same from the second group on
unfoldable pub high_bits : ℕ → List ℕ → List ℕ → List ℕ
high_bits s a b = map (λ i. if nat_eq (i / s % 2) 0 then slice_index a (i + s) else slice_index b i) (range_with_len 0 8)
