-- The transformations of the rounds (FIPS 197, sections 3.4, 5.1 and 5.3). A state is a list of
-- sixteen bytes, column after column.
use Rattle.std.specs.Prelude.{ℕ, ◌+◌, ◌*◌, ◌%◌, List, [], ◌∷◌, ◌++◌, map, bit_xor, slice_index}
use Rattle.aes_lanes.specs.Bytes.{xor_bytes}
use Rattle.aes_lanes.specs.Field.{multiply, sbox, inverse_sbox}

-- the byte in row r and column c of a state (3.4)
abbrev pub state_byte : List ℕ → ℕ → ℕ → ℕ
state_byte s r c = slice_index s (r + 4 * c)

-- SUBBYTES (5.1.1)
unfoldable pub sub_bytes : List ℕ → List ℕ
sub_bytes s = map sbox s

-- column c of the state whose row r is rotated to the left by r places
abbrev pub shifted_column : List ℕ → ℕ → List ℕ
shifted_column s c =
    state_byte s 0 c ∷ state_byte s 1 ((c + 1) % 4) ∷ state_byte s 2 ((c + 2) % 4)
    ∷ state_byte s 3 ((c + 3) % 4) ∷ []

-- SHIFTROWS (5.1.2)
unfoldable pub shift_rows : List ℕ → List ℕ
shift_rows s = shifted_column s 0 ++ shifted_column s 1 ++ shifted_column s 2 ++ shifted_column s 3

-- the sum of four bytes
abbrev pub sum_of : ℕ → ℕ → ℕ → ℕ → ℕ
sum_of a b c d = bit_xor (bit_xor (bit_xor a b) c) d

-- the column of the bytes a, b, c and d times the fixed matrix (5.1.3)
unfoldable pub column_product : ℕ → ℕ → ℕ → ℕ → List ℕ
column_product a b c d =
    sum_of (multiply 0x02 a) (multiply 0x03 b) c d
    ∷ sum_of a (multiply 0x02 b) (multiply 0x03 c) d
    ∷ sum_of a b (multiply 0x02 c) (multiply 0x03 d)
    ∷ sum_of (multiply 0x03 a) b c (multiply 0x02 d) ∷ []

abbrev pub mixed_column : List ℕ → ℕ → List ℕ
mixed_column s c = column_product (state_byte s 0 c) (state_byte s 1 c) (state_byte s 2 c) (state_byte s 3 c)

-- MIXCOLUMNS (5.1.3)
unfoldable pub mix_columns : List ℕ → List ℕ
mix_columns s = mixed_column s 0 ++ mixed_column s 1 ++ mixed_column s 2 ++ mixed_column s 3

-- ADDROUNDKEY (5.1.4), with the round key as sixteen bytes
unfoldable pub add_round_key : List ℕ → List ℕ → List ℕ
add_round_key s key = xor_bytes s key

-- INVSUBBYTES (5.3.2)
unfoldable pub inverse_sub_bytes : List ℕ → List ℕ
inverse_sub_bytes s = map inverse_sbox s

-- column c of the state whose row r is rotated to the right by r places
abbrev pub unshifted_column : List ℕ → ℕ → List ℕ
unshifted_column s c =
    state_byte s 0 c ∷ state_byte s 1 ((c + 3) % 4) ∷ state_byte s 2 ((c + 2) % 4)
    ∷ state_byte s 3 ((c + 1) % 4) ∷ []

-- INVSHIFTROWS (5.3.1)
unfoldable pub inverse_shift_rows : List ℕ → List ℕ
inverse_shift_rows s =
    unshifted_column s 0 ++ unshifted_column s 1 ++ unshifted_column s 2 ++ unshifted_column s 3

-- the column of the bytes a, b, c and d times the inverse matrix (5.3.3)
unfoldable pub inverse_column_product : ℕ → ℕ → ℕ → ℕ → List ℕ
inverse_column_product a b c d =
    sum_of (multiply 0x0e a) (multiply 0x0b b) (multiply 0x0d c) (multiply 0x09 d)
    ∷ sum_of (multiply 0x09 a) (multiply 0x0e b) (multiply 0x0b c) (multiply 0x0d d)
    ∷ sum_of (multiply 0x0d a) (multiply 0x09 b) (multiply 0x0e c) (multiply 0x0b d)
    ∷ sum_of (multiply 0x0b a) (multiply 0x0d b) (multiply 0x09 c) (multiply 0x0e d) ∷ []

abbrev pub unmixed_column : List ℕ → ℕ → List ℕ
unmixed_column s c = inverse_column_product (state_byte s 0 c) (state_byte s 1 c) (state_byte s 2 c) (state_byte s 3 c)

-- INVMIXCOLUMNS (5.3.3)
unfoldable pub inverse_mix_columns : List ℕ → List ℕ
inverse_mix_columns s =
    unmixed_column s 0 ++ unmixed_column s 1 ++ unmixed_column s 2 ++ unmixed_column s 3
