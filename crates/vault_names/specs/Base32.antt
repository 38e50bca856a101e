-- Base32 (RFC 4648, section 6): each group of 40 bits is eight digits of five bits, highest first.
use Rattle.std.specs.Prelude.{ℕ, ◌+◌, ◌*◌, ◌/◌, ◌%◌, ◌^◌, ◌&&◌, ◌||◌, Bool, List, [], ◌∷◌, length, map, slice_index, nat_lt, nat_le, if◌then◌else◌}
use Rattle.std.specs.List.{flat_map}
use Rattle.std.specs.Simd.{first_chunks}

-- `A` to `Z`, then `2` to `7`
abbrev pub symbol : ℕ → ℕ
symbol digit = if nat_lt digit 26 then 65 + digit else 24 + digit

-- one of `A` to `Z` and `2` to `7`
abbrev pub is_base32 : ℕ → Bool
is_base32 c = (nat_le 65 c && nat_le c 90) || (nat_le 50 c && nat_le c 55)

-- five bytes as a number, the first byte highest
abbrev pub number_of : List ℕ → ℕ
number_of bytes =
    (((slice_index bytes 0 * 256 + slice_index bytes 1) * 256 + slice_index bytes 2) * 256 + slice_index bytes 3) * 256 + slice_index bytes 4

-- the eight digits of a number of 40 bits
abbrev pub digits_of : ℕ → List ℕ
digits_of n =
    n / 2 ^ 35 % 32 ∷ n / 2 ^ 30 % 32 ∷ n / 2 ^ 25 % 32 ∷ n / 2 ^ 20 % 32
    ∷ n / 2 ^ 15 % 32 ∷ n / 2 ^ 10 % 32 ∷ n / 2 ^ 5 % 32 ∷ n % 32 ∷ []

-- the text of five bytes
unfoldable pub group_text : List ℕ → List ℕ
group_text bytes = map symbol (digits_of (number_of bytes))

-- the text of some groups of five bytes
unfoldable pub base32 : List ℕ → List ℕ
base32 bytes = flat_map group_text (first_chunks 5 (length bytes / 5) bytes)
