-- Words of private contracts: bytes looked up within vectors of sixteen, as a shuffle does it.
use Rattle.std.specs.Prelude.{◌≡◌, ℕ, ◌/◌, ◌^◌, ◌<◌, ◌||◌, T, leb, ltb, length, List, bit_and, bit_xor, slice_index, if◌then◌else◌}

-- numbers at which a shuffle looks: places below 16, and numbers from 128 on, which stand for none
pub record ArePlaces (v : List ℕ) : Type 0 where
  pub sixteen : length v ≡ 16
  pub each : (k : ℕ) → k < 16 → T (leb 128 (slice_index v k) || ltb (slice_index v k) 16)

-- the byte of a table at such a number, and 0 at none
abbrev pub byte_from : List ℕ → ℕ → ℕ
byte_from table j = if leb 128 j then 0 else slice_index table j

abbrev pub low_half : ℕ → ℕ
low_half x = bit_and x 15

abbrev pub high_half : ℕ → ℕ
high_half x = x / 2 ^ 4

-- the sum of the bytes of two tables, at the low half of a byte and at its high half
abbrev pub by_halves : List ℕ → List ℕ → ℕ → ℕ
by_halves low high x = bit_xor (byte_from low (low_half x)) (byte_from high (high_half x))

-- of a byte whose halves are i and k, the places 1 / (1 / i + a / k) + j and 1 / (1 / j + a / k) + i, where j is i + k and
-- the tables hold 1 / x and a / x in the field of sixteen elements: from both the inverse in the field of 256 is looked up
abbrev pub first_place : List ℕ → List ℕ → ℕ → ℕ
first_place inverses shares x =
    bit_xor (byte_from inverses (bit_xor (byte_from inverses (high_half x)) (byte_from shares (low_half x)))) (bit_xor (low_half x) (high_half x))

abbrev pub second_place : List ℕ → List ℕ → ℕ → ℕ
second_place inverses shares x =
    bit_xor (byte_from inverses (bit_xor (byte_from inverses (bit_xor (low_half x) (high_half x))) (byte_from shares (low_half x)))) (high_half x)
