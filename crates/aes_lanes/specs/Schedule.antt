-- The key schedule (FIPS 197, section 5.2). A word is four bytes, the first of them highest.
use Rattle.std.specs.Prelude.{ℕ, zero, suc, ◌+◌, ◌-◌, ◌*◌, ◌/◌, ◌%◌, ◌^◌, List, [], ◌∷◌, ◌++◌, map, bit_xor, slice_index, nat_eq, nat_lt, ◌&&◌, if◌then◌else◌}
use Rattle.std.specs.Int.{w32, to_be_bytes, from_be_bytes}
use Rattle.aes_lanes.specs.Field.{sbox, power}

-- word i of a list of bytes
abbrev pub word_at : List ℕ → ℕ → ℕ
word_at bytes i = from_be_bytes w32
    (slice_index bytes (4 * i) ∷ slice_index bytes (4 * i + 1) ∷ slice_index bytes (4 * i + 2)
    ∷ slice_index bytes (4 * i + 3) ∷ [])

-- the first n words of a list of bytes
unfoldable pub first_words : List ℕ → ℕ → List ℕ
first_words bytes zero = []
first_words bytes (suc n) = first_words bytes n ++ word_at bytes n ∷ []

-- ROTWORD: the word (a1, a2, a3, a0) of the word (a0, a1, a2, a3)
unfoldable pub rot_word : ℕ → ℕ
rot_word word = word * 2 ^ 8 % 2 ^ 32 + word / 2 ^ 24

-- SUBWORD: the S-box of each byte of a word
unfoldable pub sub_word : ℕ → ℕ
sub_word word = from_be_bytes w32 (map sbox (to_be_bytes w32 word))

-- RCON: the word of the bytes x^(j-1), 0, 0, 0
unfoldable pub round_constant : ℕ → ℕ
round_constant j = power 0x02 (j - 1) * 2 ^ 24

-- what is added to word i - key_words to give word i, in the schedule of a key of key_words words,
-- where last is word i - 1
unfoldable pub schedule_step : ℕ → ℕ → ℕ → ℕ
schedule_step key_words i last =
    if nat_eq (i % key_words) 0 then bit_xor (sub_word (rot_word last)) (round_constant (i / key_words))
    else (if nat_lt 6 key_words && nat_eq (i % key_words) 4 then sub_word last else last)

-- the words before word i and then word i
unfoldable pub with_next_word : ℕ → ℕ → List ℕ → List ℕ
with_next_word key_words i words =
    words ++ bit_xor (slice_index words (i - key_words)) (schedule_step key_words i (slice_index words (i - 1))) ∷ []

-- KEYEXPANSION: the key's words and the n words after them
unfoldable pub expanded_key : ℕ → List ℕ → ℕ → List ℕ
expanded_key key_words key zero = first_words key key_words
expanded_key key_words key (suc n) = with_next_word key_words (key_words + n) (expanded_key key_words key n)

-- the bytes of a state's four columns, each a word
unfoldable pub state_of : List ℕ → List ℕ
state_of words = to_be_bytes w32 (slice_index words 0) ++ to_be_bytes w32 (slice_index words 1)
    ++ to_be_bytes w32 (slice_index words 2) ++ to_be_bytes w32 (slice_index words 3)

-- the key of round r: the bytes of words 4 r to 4 r + 3
unfoldable pub round_key : List ℕ → ℕ → List ℕ
round_key words r = state_of (slice_index words (4 * r) ∷ slice_index words (4 * r + 1)
    ∷ slice_index words (4 * r + 2) ∷ slice_index words (4 * r + 3) ∷ [])
