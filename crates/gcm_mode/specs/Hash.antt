-- GHASH: NIST SP 800-38D, section 6.4.
use Rattle.std.specs.Prelude.{ℕ, ◌+◌, ◌/◌, List, length, map, fold, bit_xor}
use Rattle.std.specs.Int.{w128, from_be_bytes, to_be_bytes}
use Rattle.std.specs.Simd.{first_chunks}
use Rattle.gcm_mode.specs.Field.{product}

-- GHASH under the hash subkey h: from Y_0 = 0 on, Y_i is the product of Y_(i-1) + X_i and h
unfoldable pub ghash : ℕ → List ℕ → ℕ
ghash h xs = fold (λ y x. product (bit_xor y x) h) 0 xs

-- the number that up to sixteen bytes make, the first of them highest; each that is missing counts as 0
unfoldable pub block_number : List ℕ → ℕ
block_number bytes = from_be_bytes w128 bytes

-- the sixteen bytes of a block
unfoldable pub block_bytes : ℕ → List ℕ
block_bytes n = to_be_bytes w128 n

-- a byte string as blocks: its chunks of sixteen bytes, the last one padded with zeros, each as a number
unfoldable pub blocks_of : List ℕ → List ℕ
blocks_of bytes = map block_number (first_chunks 16 ((length bytes + 15) / 16) bytes)
