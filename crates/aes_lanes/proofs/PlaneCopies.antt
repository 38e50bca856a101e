-- A bit of a byte in each bit of the byte, and one block in each lane.
use Rattle.std.proofs.Common.{◌≡◌, ℕ, zero, suc, ◌+◌, ◌-◌, ◌*◌, ◌/◌, ◌%◌, ◌^◌, ◌<◌, List, length, replicate, bit_and, slice_index, refl, ap, ap₂, ◌∙◌, arith, lit<}
use Rattle.std.specs.Simd.Lanes.{zip2}
use Rattle.std.proofs.lemmas.List.{length-replicate, get_or-replicate}
use Rattle.std.proofs.lemmas.Nat.{and_mask}
use Rattle.std.proofs.lemmas.Simd.{get_or-zip2}
use Rattle.aes_lanes.specs.Planes.{IsPlane, bit, place}
use Rattle.aes_lanes.proofs.PlaneBits.{IsPlane-zip2, IsPlane-splat, bit-lt, eight}
use Rattle.aes_lanes.proofs.PlaneBlocks.{in_first_lane}
use Rattle.aes_lanes.proofs.PlaneSwaps.{IsPlane-masked, IsPlane-lowered, masked, lowered, slice_index-splat}

abbrev less : ℕ → ℕ → ℕ
less a b = (a + (2 ^ 8 - b)) % 2 ^ 8

-- the vector of which each byte is 0 or 255, by bit i
abbrev pub repeated_lanes : ℕ → List ℕ → List ℕ
repeated_lanes i v = zip2 less (replicate 32 0) (masked 1 (lowered i v))

pub IsPlane-repeated : (i : ℕ) (v : List ℕ) → i < 8 → IsPlane v → IsPlane (repeated_lanes i v)
IsPlane-repeated i v few plane =
    IsPlane-zip2 less (λ x y hx hy. omega arith) (replicate 32 0) (masked 1 (lowered i v)) (IsPlane-splat 0 (lit< tt))
    (IsPlane-masked 1 (lowered i v) (lit< tt) (IsPlane-lowered i v (omega arith) plane))

-- each bit of 0, and each of 255
each_bit : (y k : ℕ) → y < 2 → k < 8 → less 0 y / 2 ^ k % 2 ≡ y
each_bit zero k lt lk = eight (λ n. less 0 0 / 2 ^ n % 2 ≡ 0) refl refl refl refl refl refl refl refl k lk
each_bit (suc zero) k lt lk = eight (λ n. less 0 1 / 2 ^ n % 2 ≡ 1) refl refl refl refl refl refl refl refl k lk
each_bit (suc (suc y)) k lt lk = absurd (omega arith)

pub bit-repeated : (i : ℕ) (v : List ℕ) → i < 8 → IsPlane v → (p k : ℕ) → p < 32 → k < 8 → bit p k (repeated_lanes i v) ≡ bit p i v
bit-repeated i v few plane p k lp lk =
    let low : List ℕ = lowered i v in
    let one : List ℕ = masked 1 low in
    let plane_low : IsPlane low = IsPlane-lowered i v (omega arith) plane in
    let plane_one : IsPlane one = IsPlane-masked 1 low (lit< tt) plane_low in
    let in_zeros : p < length (replicate {A = ℕ} 32 0) = omega (arith, length-replicate {A = ℕ} 32 0) in
    let in_one : p < length one = omega (arith, plane_one.long) in
    let at_one : slice_index one p ≡ slice_index v p / 2 ^ i % 2
    = slice_index-splat bit_and low 1 p plane_low lp ∙ and_mask (slice_index low p) 1
    ∙ ap (λ n. n % 2) (slice_index-splat (λ x n. x / 2 ^ n) v i p plane lp) in
    ap (λ n. n / 2 ^ k % 2) (get_or-zip2 less (replicate 32 0) one p 0 0 0 in_zeros in_one ∙ ap₂ less (get_or-replicate 32 p 0 0 lp) at_one)
    ∙ each_bit (slice_index v p / 2 ^ i % 2) k (bit-lt (slice_index v p / 2 ^ i)) lk

-- two lanes of the same block
pub in_each_lane : (x block : List ℕ) → ((p : ℕ) → p < 16 → slice_index x p ≡ slice_index block (place p))
    → ((p : ℕ) → p < 16 → slice_index x (16 + p) ≡ slice_index block (place p))
    → (l : ℕ) → l < 2 → (p : ℕ) → p < 16 → slice_index x (16 * l + p) ≡ slice_index block (place p)
in_each_lane x block first second zero lt = in_first_lane x (λ p. slice_index block (place p)) first
in_each_lane x block first second (suc zero) lt = second
in_each_lane x block first second (suc (suc l)) lt = absurd (omega arith)
