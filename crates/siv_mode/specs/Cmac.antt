-- CMAC: RFC 4493, section 2.4, over a block cipher that is given as the image of a block.
use Rattle.std.specs.Prelude.{ℕ, zero, suc, ◌+◌, ◌-◌, ◌*◌, ◌/◌, List, length, take, drop, ◌==◌, if◌then◌else◌}
use Rattle.aes_lanes.specs.Bytes.{xor_bytes}
use Rattle.siv_mode.specs.Blocks.{zero_block, double, padded_block}

-- the subkeys K1 and K2 (2.3)
unfoldable pub first_subkey : (List ℕ → List ℕ) → List ℕ
first_subkey image = double (image zero_block)

unfoldable pub second_subkey : (List ℕ → List ℕ) → List ℕ
second_subkey image = double (first_subkey image)

-- how many blocks a text has before its last one, which is never missing
abbrev pub blocks_before_last : List ℕ → ℕ
blocks_before_last text = (length text + 15) / 16 - 1

-- M_last: the last block with K1 added where it is whole, and else padded, with K2 added
unfoldable pub last_block : (List ℕ → List ℕ) → List ℕ → List ℕ
last_block image bytes =
    if length bytes == 16
    then xor_bytes bytes (first_subkey image)
    else xor_bytes (padded_block bytes) (second_subkey image)

-- the value X after the first n blocks of a text, from a value on
unfoldable pub chained : (List ℕ → List ℕ) → List ℕ → List ℕ → ℕ → List ℕ
chained image x text zero = x
chained image x text (suc n) = chained image (image (xor_bytes x (take 16 text))) (drop 16 text) n

-- CMAC of a text: the image of its last block added to the value after those before it
unfoldable pub cmac : (List ℕ → List ℕ) → List ℕ → List ℕ
cmac image text =
    let n : ℕ = blocks_before_last text in
    image (xor_bytes (chained image zero_block text n) (last_block image (drop (16 * n) text)))
