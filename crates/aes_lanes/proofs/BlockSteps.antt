-- The transformations of the rounds on one block as a vector.
use Rattle.std.proofs.Common.{◌≡◌, ℕ, ◌+◌, ◌-◌, ◌/◌, ◌%◌, ◌^◌, ◌<◌, List, [], ◌∷◌, map, length, get_or, bit_and, bit_xor, refl, sym, ap, subst, ◌∙◌, Fits, w8}
use Rattle.std.specs.Simd.Lanes.{Each1, zip2}
use Rattle.std.specs.List.{range_with_len}
use Rattle.std.proofs.lemmas.Simd.{map-map}
use Rattle.aes_lanes.specs.Bytes.{IsBlock}
use Rattle.aes_lanes.specs.Field.{xtimes, partial_product, multiply}
use Rattle.aes_lanes.specs.Rounds.{mix_columns, inverse_mix_columns}
use Rattle.aes_lanes.specs.Laws.Field.{at_each}
use Rattle.aes_lanes.specs.Laws.Sums.{gathered}
use Rattle.aes_lanes.proofs.LaneSteps.{map-agree}
use Rattle.aes_lanes.proofs.PlaneBlocks.{lane_bytes}
use Rattle.aes_lanes.proofs.PlaneMoves.{four, mixed-column, moved}
use Rattle.aes_lanes.proofs.PlaneUnmix.{spread-column}

-- the places of rows shifted and shifted back, and of columns moved up by one row and by two, as `swizzle` takes them
abbrev pub shifted_places : List ℕ
shifted_places = 0 ∷ 5 ∷ 10 ∷ 15 ∷ 4 ∷ 9 ∷ 14 ∷ 3 ∷ 8 ∷ 13 ∷ 2 ∷ 7 ∷ 12 ∷ 1 ∷ 6 ∷ 11 ∷ []

abbrev pub unshifted_places : List ℕ
unshifted_places = 0 ∷ 13 ∷ 10 ∷ 7 ∷ 4 ∷ 1 ∷ 14 ∷ 11 ∷ 8 ∷ 5 ∷ 2 ∷ 15 ∷ 12 ∷ 9 ∷ 6 ∷ 3 ∷ []

abbrev pub next_row : List ℕ
next_row = 1 ∷ 2 ∷ 3 ∷ 0 ∷ 5 ∷ 6 ∷ 7 ∷ 4 ∷ 9 ∷ 10 ∷ 11 ∷ 8 ∷ 13 ∷ 14 ∷ 15 ∷ 12 ∷ []

abbrev pub second_row : List ℕ
second_row = 2 ∷ 3 ∷ 0 ∷ 1 ∷ 6 ∷ 7 ∷ 4 ∷ 5 ∷ 10 ∷ 11 ∷ 8 ∷ 9 ∷ 14 ∷ 15 ∷ 12 ∷ 13 ∷ []

-- a vector of sixteen bytes
pub IsBlock-lanes : (v : List ℕ) → (length v ≡ 16) × Each1 (Fits w8) v → IsBlock v
IsBlock-lanes v fits = record { sixteen = fits.0; bytes = lane_bytes v fits.1 }

-- 2 and 4 times a byte
unfoldable pub doubled_lane : ℕ → ℕ
doubled_lane x = bit_xor ((x + x) % 2 ^ 8) (bit_and ((0 + (2 ^ 8 - x / 2 ^ 7)) % 2 ^ 8) 0x1b)

pub doubled_lane-is : (x : ℕ) → x < 256 → doubled_lane x ≡ multiply 2 x
unfolding doubled_lane xtimes partial_product multiply
doubled_lane-is = at_each doubled_lane (multiply 2) refl

twice_doubled : (x : ℕ) → x < 256 → multiply 2 (multiply 2 x) ≡ multiply 4 x
unfolding xtimes partial_product multiply
twice_doubled = at_each (λ x. multiply 2 (multiply 2 x)) (multiply 4) refl

pub quadrupled_lanes : (v : List ℕ) → IsBlock v → map (multiply 2) (map (multiply 2) v) ≡ map (multiply 4) v
quadrupled_lanes v block = map-map (multiply 2) (multiply 2) v ∙ map-agree (λ x. multiply 2 (multiply 2 x)) (multiply 4) twice_doubled v block.bytes

-- the vectors of the sums within columns
abbrev pub neighbours : List ℕ → List ℕ
neighbours v = zip2 bit_xor v (moved next_row v)

abbrev pub opposites : List ℕ → List ℕ
opposites v = zip2 bit_xor v (moved second_row v)

abbrev mixed_from : List ℕ → List ℕ
mixed_from v = zip2 bit_xor (zip2 bit_xor (map (multiply 2) (neighbours v)) (moved next_row v)) (moved second_row (neighbours v))

mixed_bytes : (f : ℕ → ℕ) → ((k : ℕ) → f k < 256) → mixed_from (map f (range_with_len 0 16)) ≡ mix_columns (map f (range_with_len 0 16))
unfolding mix_columns
mixed_bytes f fits =
    let column = λ (q : ℕ). mixed-column (f q) (f (q + 1)) (f (q + 2)) (f (q + 3)) (fits q) (fits (q + 1)) (fits (q + 2)) (fits (q + 3)) in
    four (column 0) (column 4) (column 8) (column 12)

pub mixed_is : (v doubles : List ℕ) → IsBlock v → doubles ≡ map (multiply 2) (neighbours v)
    → zip2 bit_xor (zip2 bit_xor doubles (moved next_row v)) (moved second_row (neighbours v)) ≡ mix_columns v
mixed_is v doubles block are =
    ap (λ d. zip2 bit_xor (zip2 bit_xor d (moved next_row v)) (moved second_row (neighbours v))) are
    ∙ subst (λ (l : List ℕ). mixed_from l ≡ mix_columns l) (sym (gathered v 16 block.sixteen)) (mixed_bytes (λ k. get_or v k 0) block.bytes)

abbrev spread_from : List ℕ → List ℕ
spread_from v = zip2 bit_xor v (map (multiply 4) (opposites v))

unmixed_bytes : (f : ℕ → ℕ) → ((k : ℕ) → f k < 256) → mix_columns (spread_from (map f (range_with_len 0 16))) ≡ inverse_mix_columns (map f (range_with_len 0 16))
unfolding mix_columns inverse_mix_columns
unmixed_bytes f fits =
    let column = λ (q : ℕ). spread-column (f q) (f (q + 1)) (f (q + 2)) (f (q + 3)) (fits q) (fits (q + 1)) (fits (q + 2)) (fits (q + 3)) in
    four (column 0) (column 4) (column 8) (column 12)

pub unmixed_is : (v far result : List ℕ) → IsBlock v → far ≡ map (multiply 4) (opposites v) → result ≡ mix_columns (zip2 bit_xor v far)
    → result ≡ inverse_mix_columns v
unmixed_is v far result block are is =
    is ∙ ap (λ l. mix_columns (zip2 bit_xor v l)) are
    ∙ subst (λ (l : List ℕ). mix_columns (spread_from l) ≡ inverse_mix_columns l) (sym (gathered v 16 block.sixteen)) (unmixed_bytes (λ k. get_or v k 0) block.bytes)
