-- Words of private contracts: the words of a block by their diagonals, on which the steps of its columns or rows are taken at once.
use Rattle.std.specs.Prelude.{◌≡◌, ℕ, ◌+◌, ◌-◌, ◌*◌, ◌/◌, ◌%◌, ◌^◌, List, [], ◌∷◌, bit_or, bit_xor, map, replicate, slice_index}
use Rattle.std.specs.List.{range_with_len}
use Rattle.std.specs.Simd.Lanes.{zip2}
use Rattle.kdf_suite.specs.Salsa.{add32}
use Rattle.kdf_suite.specs.declared.salsa.Diagonals.{Diagonals}

-- x ^= R(y + z, k) in each place
abbrev pub turned : ℕ → List ℕ → List ℕ → List ℕ → List ℕ
turned k x y z =
    zip2 bit_xor x (zip2 bit_or (zip2 (λ w n. w * 2 ^ n % 2 ^ 32) (zip2 add32 y z) (replicate 4 k)) (zip2 (λ w n. w / 2 ^ n) (zip2 add32 y z) (replicate 4 (32 - k))))

-- four such steps
unfoldable pub quartered : Diagonals → Diagonals
quartered s =
    let second = turned 7 s.second s.first s.fourth in
    let third = turned 9 s.third second s.first in
    let fourth = turned 13 s.fourth third second in
    let first = turned 18 s.first fourth third in
    record { first = first; second = second; third = third; fourth = fourth }

-- of the four columns of a block, each from the diagonal down, the first words, the second ones, and so on
abbrev pub diagonals_of : List ℕ → Diagonals
diagonals_of x = record {
  first = slice_index x 0 ∷ slice_index x 5 ∷ slice_index x 10 ∷ slice_index x 15 ∷ [];
  second = slice_index x 4 ∷ slice_index x 9 ∷ slice_index x 14 ∷ slice_index x 3 ∷ [];
  third = slice_index x 8 ∷ slice_index x 13 ∷ slice_index x 2 ∷ slice_index x 7 ∷ [];
  fourth = slice_index x 12 ∷ slice_index x 1 ∷ slice_index x 6 ∷ slice_index x 11 ∷ [];
}

-- the block of these diagonals
abbrev pub words_of : Diagonals → List ℕ
words_of s =
    slice_index s.first 0 ∷ slice_index s.fourth 1 ∷ slice_index s.third 2 ∷ slice_index s.second 3
    ∷ slice_index s.second 0 ∷ slice_index s.first 1 ∷ slice_index s.fourth 2 ∷ slice_index s.third 3
    ∷ slice_index s.third 0 ∷ slice_index s.second 1 ∷ slice_index s.first 2 ∷ slice_index s.fourth 3
    ∷ slice_index s.fourth 0 ∷ slice_index s.third 1 ∷ slice_index s.second 2 ∷ slice_index s.first 3 ∷ []

-- these are the diagonals of a block: four words each
abbrev pub IsWhole : Diagonals → Type 0
IsWhole s = s ≡ diagonals_of (words_of s)

-- two blocks combined, word by word
abbrev pub combined : (ℕ → ℕ → ℕ) → Diagonals → Diagonals → Diagonals
combined f s t = record {
  first = zip2 f s.first t.first;
  second = zip2 f s.second t.second;
  third = zip2 f s.third t.third;
  fourth = zip2 f s.fourth t.fourth;
}

-- the place, step times as far from the start of its block, round and round
abbrev pub place : ℕ → ℕ → ℕ
place step i = 16 * (i / 16) + step * (i % 16) % 16

-- n words, each from its place
unfoldable pub spread : ℕ → ℕ → List ℕ → List ℕ
spread step n x = map (λ i. slice_index x (place step i)) (range_with_len 0 n)

-- the first n words of blocks that have their diagonals one after another, in the standard's order. The
-- diagonals go through a block by steps of 5, and 5 · 13 is 1 modulo 16
abbrev pub in_order : ℕ → List ℕ → List ℕ
in_order n x = spread 13 n x
