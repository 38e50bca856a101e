-- Blocks that are doubled and padded: RFC 4493, sections 2.3 and 2.4; RFC 5297, sections 2.1 and 2.3.
use Rattle.std.specs.Prelude.{ℕ, ◌-◌, ◌*◌, ◌/◌, ◌%◌, ◌^◌, List, ◌∷◌, ◌++◌, length, replicate, bit_xor}
use Rattle.std.specs.Int.{w128, from_be_bytes, to_be_bytes}

-- the block of zero bits
abbrev pub zero_block : List ℕ
zero_block = replicate 16 0

-- a block, shifted to the left by one bit, and 0x87 added where the bit that leaves was set
unfoldable pub double : List ℕ → List ℕ
double block =
    let n : ℕ = from_be_bytes w128 block in
    to_be_bytes w128 (bit_xor (n * 2 % 2 ^ 128) (n / 2 ^ 127 * 0x87))

-- fewer than sixteen bytes, then one bit and zeros to a whole block
unfoldable pub padded_block : List ℕ → List ℕ
padded_block bytes = bytes ++ 0x80 ∷ replicate (15 - length bytes) 0
