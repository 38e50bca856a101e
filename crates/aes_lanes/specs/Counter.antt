-- Counter mode (SP 800-38A, section 6.5 and appendix B.1; SP 800-38D, sections 6.2 and 6.5). A block is
-- sixteen bytes, and a block cipher a function from blocks to blocks.
use Rattle.std.specs.Prelude.{◌≡◌, ℕ, zero, suc, ◌+◌, ◌-◌, ◌*◌, ◌/◌, ◌%◌, ◌^◌, ◌<◌, List, [], ◌++◌, length, take, drop, fold, get_or}
use Rattle.std.specs.Fn.{iterate}
use Rattle.std.specs.Int.{bytes_high_first}
use Rattle.aes_lanes.specs.Bytes.{xor_bytes}

-- the number that a list of bytes stands for, its first byte highest
unfoldable pub number_of : List ℕ → ℕ
number_of bytes = fold (λ n byte. n * 256 + byte) 0 bytes

-- the block after a block, of which the last width bytes count modulo 256 ^ width and those before them stay
unfoldable pub increment : ℕ → List ℕ → List ℕ
increment width block =
    take (16 - width) block
    ++ bytes_high_first width ((number_of (drop (16 - width) block) + 1) % 256 ^ width)

-- the standard incrementing functions of the last 32 bits and of all 128
abbrev pub increment32 : List ℕ → List ℕ
increment32 block = increment 4 block

abbrev pub increment128 : List ℕ → List ℕ
increment128 block = increment 16 block

-- the images of n counter blocks, from a first one on, end to end
unfoldable pub key_stream : (List ℕ → List ℕ) → (List ℕ → List ℕ) → List ℕ → ℕ → List ℕ
key_stream image next block zero = []
key_stream image next block (suc n) = image block ++ key_stream image next (next block) n

-- the first sixteen blocks of a key stream: the images of sixteen counter blocks, from a first one on
abbrev pub AreFirstOfStream : (List ℕ → List ℕ) → (List ℕ → List ℕ) → List ℕ → List (List ℕ) → Type 0
AreFirstOfStream image next start blocks = (k : ℕ) → k < 16 → get_or blocks k [] ≡ image (iterate next k start)

-- a text xored with the key stream of as many blocks as it needs, of which the last may be cut
unfoldable pub counter_mode : (List ℕ → List ℕ) → (List ℕ → List ℕ) → List ℕ → List ℕ → List ℕ
counter_mode image next start text =
    xor_bytes text (key_stream image next start ((length text + 15) / 16))

-- counter mode modulo 2^32 and modulo 2^128
abbrev pub ctr32 : (List ℕ → List ℕ) → List ℕ → List ℕ → List ℕ
ctr32 image start text = counter_mode image increment32 start text

abbrev pub ctr128 : (List ℕ → List ℕ) → List ℕ → List ℕ → List ℕ
ctr128 image start text = counter_mode image increment128 start text
