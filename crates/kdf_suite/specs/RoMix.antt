-- BlockMix and ROMix (RFC 7914, sections 4 and 5), on the words of their blocks, sixteen a block.
use Rattle.std.specs.Prelude.{ℕ, zero, suc, ◌+◌, ◌-◌, ◌*◌, ◌%◌, ◌^◌, List, [], ◌∷◌, ◌++◌, take, drop, bit_xor}
use Rattle.std.specs.Simd.Lanes.{zip2}
use Rattle.kdf_suite.specs.Blocks.{joined}
use Rattle.kdf_suite.specs.Salsa.{salsa20_8}

-- B_i
abbrev pub block_at : List ℕ → ℕ → List ℕ
block_at b i = take 16 (drop (16 * i) b)

-- Y_i (section 4, step 2): Salsa20/8 of the sum of X and B_i, where X is the Y before, and at first the
-- last block (step 1)
unfoldable pub y_block : ℕ → List ℕ → ℕ → List ℕ
y_block r b zero = salsa20_8 (zip2 bit_xor (block_at b (2 * r - 1)) (block_at b 0))
y_block r b (suc i) = salsa20_8 (zip2 bit_xor (y_block r b i) (block_at b (suc i)))

-- Y_0, Y_2, …, Y_(2 r - 2), and then Y_1, Y_3, …, Y_(2 r - 1) (section 4, step 3)
unfoldable pub block_mix : ℕ → List ℕ → List ℕ
block_mix r b = joined (λ k. y_block r b (2 * k)) r ++ joined (λ k. y_block r b (2 * k + 1)) r

-- V_i: BlockMix i times over (section 5, step 2)
unfoldable pub mixed_times : ℕ → List ℕ → ℕ → List ℕ
mixed_times r x zero = x
mixed_times r x (suc i) = block_mix r (mixed_times r x i)

-- the number that words make, low word first
abbrev pub number_of : List ℕ → ℕ
number_of [] = 0
number_of (w ∷ ws) = w + 2 ^ 32 * number_of ws

-- Integerify: the last block as a number
abbrev pub integerify : ℕ → List ℕ → ℕ
integerify r x = number_of (block_at x (2 * r - 1))

-- X after i turns of the second loop (section 5, step 3): each mixes in the V whose place X tells
unfoldable pub mixed_turns : ℕ → ℕ → List ℕ → ℕ → List ℕ
mixed_turns n r b zero = mixed_times r b n
mixed_turns n r b (suc i) =
    let x = mixed_turns n r b i in
    block_mix r (zip2 bit_xor x (mixed_times r b (integerify r x % n)))

-- ROMix
abbrev pub ro_mix : ℕ → ℕ → List ℕ → List ℕ
ro_mix n r b = mixed_turns n r b n
