-- AES as a function from a key and a block to a block (FIPS 197, sections 5, 5.1 and 5.3).
use Rattle.std.specs.Prelude.{ℕ, zero, suc, ◌+◌, ◌-◌, ◌*◌, List}
use Rattle.aes_lanes.specs.Rounds.{sub_bytes, shift_rows, mix_columns, add_round_key, inverse_sub_bytes, inverse_shift_rows, inverse_mix_columns}
use Rattle.aes_lanes.specs.Schedule.{expanded_key, round_key}

-- the state after the first round key and n rounds, with the key schedule's words
unfoldable pub rounds : List ℕ → List ℕ → ℕ → List ℕ
rounds words block zero = add_round_key block (round_key words 0)
rounds words block (suc n) =
    add_round_key (mix_columns (shift_rows (sub_bytes (rounds words block n)))) (round_key words (suc n))

-- CIPHER in nr rounds, of which the last one mixes no columns (5.1)
unfoldable pub cipher : ℕ → List ℕ → List ℕ → List ℕ
cipher nr words block = add_round_key (shift_rows (sub_bytes (rounds words block (nr - 1)))) (round_key words nr)

-- of nr rounds, the state after the last round's key and n rounds undone, from the last one back
unfoldable pub inverse_rounds : ℕ → List ℕ → List ℕ → ℕ → List ℕ
inverse_rounds nr words block zero = add_round_key block (round_key words nr)
inverse_rounds nr words block (suc n) =
    inverse_mix_columns (add_round_key (inverse_sub_bytes (inverse_shift_rows (inverse_rounds nr words block n)))
    (round_key words (nr - suc n)))

-- INVCIPHER in nr rounds (5.3)
unfoldable pub inverse_cipher : ℕ → List ℕ → List ℕ → List ℕ
inverse_cipher nr words block =
    add_round_key (inverse_sub_bytes (inverse_shift_rows (inverse_rounds nr words block (nr - 1)))) (round_key words 0)

-- Nr, the number of rounds with a key of so many words: 10 at 4 words, 14 at 8 (5, table 3)
abbrev pub number_of_rounds : ℕ → ℕ
number_of_rounds key_words = key_words + 6

-- the schedule of a key of so many words: the key's words and those after it, 4 * (Nr + 1) in all (5.2)
unfoldable pub key_schedule : ℕ → List ℕ → List ℕ
key_schedule key_words key = expanded_key key_words key (4 * (number_of_rounds key_words + 1) - key_words)

-- a block's image under AES with a key of so many words
unfoldable pub aes : ℕ → List ℕ → List ℕ → List ℕ
aes key_words key block = cipher (number_of_rounds key_words) (key_schedule key_words key) block

-- the block whose image under AES with a key of so many words is this block
unfoldable pub inverse_aes : ℕ → List ℕ → List ℕ → List ℕ
inverse_aes key_words key block = inverse_cipher (number_of_rounds key_words) (key_schedule key_words key) block

-- AES-128 and AES-256, with keys of 16 and of 32 bytes
abbrev pub aes128 : List ℕ → List ℕ → List ℕ
aes128 key block = aes 4 key block

abbrev pub aes256 : List ℕ → List ℕ → List ℕ
aes256 key block = aes 8 key block

-- the inverse ciphers
abbrev pub inverse_aes128 : List ℕ → List ℕ → List ℕ
inverse_aes128 key block = inverse_aes 4 key block

abbrev pub inverse_aes256 : List ℕ → List ℕ → List ℕ
inverse_aes256 key block = inverse_aes 8 key block
