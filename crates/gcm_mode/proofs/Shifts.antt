-- Vectors of two blocks that are shifted by bits.
use Rattle.std.proofs.Common.{◌≡◌, ℕ, zero, suc, ◌+◌, ◌-◌, ◌*◌, ◌/◌, ◌%◌, ◌^◌, ◌<◌, List, [], ◌∷◌, ◌++◌, length, replicate, get_or, bit_and, bit_xor, refl, sym, ap, ap₂, ◌∙◌, arith}
use Rattle.std.specs.Simd.Lanes.{zip2, pick_l}
use Rattle.std.proofs.Math.Nat.{div-le_self}
use Rattle.std.proofs.lemmas.List.{get_or_append_left}
use Rattle.std.proofs.lemmas.Nat.{and_mask}
use Rattle.gcm_mode.specs.Field.{reduction, times_u}
use Rattle.gcm_mode.specs.Pairs.{IsPair, lane, number_of}
use Rattle.gcm_mode.proofs.Algebra.{at_each}
use Rattle.gcm_mode.proofs.Lanes.{IsPair-lanes, IsPair-sum, get_or-both, get_or-picked, get_or-splat, lane-bytes, lane-same, lane-sum, length-both, length-picked, length-splat}
use Rattle.gcm_mode.proofs.Numbers.{number_of-behind, number_of-shifted}

abbrev right : ℕ → ℕ → ℕ
right a b = a / 2 ^ b

abbrev left : ℕ → ℕ → ℕ
left a b = a * 2 ^ b % 2 ^ 8

IsPair-right : (v : List ℕ) (k : ℕ) → IsPair v → IsPair (zip2 right v (replicate 32 k))
IsPair-right v k pair =
    IsPair-lanes (zip2 right v (replicate 32 k)) (length-both right v (replicate 32 k) pair.long (length-splat k)) (λ i lt.
    let byte = pair.bytes i in
    let below = div-le_self (get_or v i 0) (2 ^ k) in
    let e = get_or-splat right v k i pair.long lt in
    omega (arith, e, below, byte))

IsPair-left : (v : List ℕ) (k : ℕ) → IsPair v → IsPair (zip2 left v (replicate 32 k))
IsPair-left v k pair =
    IsPair-lanes (zip2 left v (replicate 32 k)) (length-both left v (replicate 32 k) pair.long (length-splat k)) (λ i lt.
    let e = get_or-splat left v k i pair.long lt in
    rw e (last_byte (get_or v i 0 * 2 ^ k)))
  where
    last_byte : (n : ℕ) → n % 2 ^ 8 < 256
    last_byte n = omega arith

-- a shift to the right by fewer than eight bits
pub shifted_lanes : (v moved : List ℕ) (k : ℕ) → 0 < k → k < 8 → IsPair v → IsPair moved
    → ((l : ℕ) → l < 2 → get_or moved (16 * l) 0 ≡ 0)
    → ((l p : ℕ) → l < 2 → p < 15 → get_or moved (16 * l + (p + 1)) 0 ≡ get_or v (16 * l + p) 0)
    → IsPair (zip2 bit_xor (zip2 right v (replicate 32 k)) (zip2 left moved (replicate 32 (8 - k))))
    × ((l : ℕ) → l < 2 → lane l (zip2 bit_xor (zip2 right v (replicate 32 k)) (zip2 left moved (replicate 32 (8 - k)))) ≡ lane l v / 2 ^ k)
shifted_lanes v moved k some few pair pair_moved first next =
    let a : List ℕ = zip2 right v (replicate 32 k) in
    let b : List ℕ = zip2 left moved (replicate 32 (8 - k)) in
    let pair_a = IsPair-right v k pair in
    let pair_b = IsPair-left moved (8 - k) pair_moved in (
      IsPair-sum a b pair_a pair_b,
      λ l two.
          let f : ℕ → ℕ = λ p. get_or v (16 * l + p) 0 in
          let before : ℕ → ℕ = λ p. get_or moved (16 * l + p) 0 in
          let start : 16 * l + 0 ≡ 16 * l = omega arith in
          lane-same l (zip2 bit_xor a b) (λ p. bit_xor (f p / 2 ^ k) (before p * 2 ^ (8 - k) % 256)) (λ p lt.
          let within : 16 * l + p < 32 = omega arith in
          get_or-both bit_xor a b (16 * l + p) pair_a.long pair_b.long within
          ∙ ap₂ bit_xor (get_or-splat right v k (16 * l + p) pair.long within) (get_or-splat left moved (8 - k) (16 * l + p) pair_moved.long within))
          ∙ number_of-shifted k f before 16 some few (λ p lt. pair.bytes (16 * l + p))
          (λ h. ap (λ (i : ℕ). get_or moved i 0) start ∙ first l two)
          (λ p lt. next l p two (omega arith))
          ∙ ap (λ (n : ℕ). n / 2 ^ k) (sym (lane-bytes l v)),
    )

-- what comes back of the bit that falls off
abbrev last_places : List ℕ
last_places =
    15 ∷ 15 ∷ 15 ∷ 15 ∷ 15 ∷ 15 ∷ 15 ∷ 15 ∷ 15 ∷ 15 ∷ 15 ∷ 15 ∷ 15 ∷ 15 ∷ 15 ∷ 15
    ∷ 31 ∷ 31 ∷ 31 ∷ 31 ∷ 31 ∷ 31 ∷ 31 ∷ 31 ∷ 31 ∷ 31 ∷ 31 ∷ 31 ∷ 31 ∷ 31 ∷ 31 ∷ 31 ∷ []

abbrev reductions : List ℕ
reductions =
    225 ∷ 0 ∷ 0 ∷ 0 ∷ 0 ∷ 0 ∷ 0 ∷ 0 ∷ 0 ∷ 0 ∷ 0 ∷ 0 ∷ 0 ∷ 0 ∷ 0 ∷ 0
    ∷ 225 ∷ 0 ∷ 0 ∷ 0 ∷ 0 ∷ 0 ∷ 0 ∷ 0 ∷ 0 ∷ 0 ∷ 0 ∷ 0 ∷ 0 ∷ 0 ∷ 0 ∷ 0 ∷ []

abbrev times : ℕ → ℕ → ℕ
times a b = a * b % 2 ^ 8

abbrev last_bits : List ℕ → List ℕ
last_bits v = zip2 bit_and (pick_l 0 (v ++ v) last_places) (replicate 32 1)

last_place : (k : ℕ) → k < 32 → get_or last_places k 0 ≡ 16 * (k / 16) + 15
last_place = at_each 32 (λ k. get_or last_places k 0) (λ k. 16 * (k / 16) + 15) refl

length-last_bits : (v : List ℕ) → length (last_bits v) ≡ 32
length-last_bits v = length-both bit_and (pick_l 0 (v ++ v) last_places) (replicate 32 1) (length-picked (v ++ v) last_places) (length-splat 1)

last_bit_at : (v : List ℕ) (l p : ℕ) → l < 2 → p < 16 → IsPair v → get_or (last_bits v) (16 * l + p) 0 ≡ get_or v (16 * l + 15) 0 % 2
last_bit_at v l p two lt pair =
    let k : ℕ = 16 * l + p in
    let within : k < 32 = omega arith in
    let inside : k < length last_places = omega arith in
    let place : 16 * (k / 16) + 15 ≡ 16 * l + 15 = omega arith in
    let behind : 16 * l + 15 < length v = omega (arith, pair.long) in
    get_or-splat bit_and (pick_l 0 (v ++ v) last_places) 1 k (length-picked (v ++ v) last_places) within
    ∙ and_mask (get_or (pick_l 0 (v ++ v) last_places) k 0) 1
    ∙ ap (λ (n : ℕ). n % 2) (get_or-picked (v ++ v) last_places k inside ∙ ap (λ (i : ℕ). get_or (v ++ v) i 0) (last_place k within ∙ place) ∙ get_or_append_left v v 0 (16 * l + 15) behind)

pub IsPair-reductions : (v : List ℕ) → IsPair v → IsPair (zip2 times (last_bits v) reductions)
IsPair-reductions v pair =
    IsPair-lanes (zip2 times (last_bits v) reductions) (length-both times (last_bits v) reductions (length-last_bits v) refl) (λ k lt.
    rw (get_or-both times (last_bits v) reductions k (length-last_bits v) refl lt) (small (get_or (last_bits v) k 0 * get_or reductions k 0)))
  where
    small : (n : ℕ) → n % 2 ^ 8 < 256
    small n = omega arith

reduction_first : (l : ℕ) → l < 2 → get_or reductions (16 * l + 0) 0 ≡ 225
reduction_first zero two = refl
reduction_first (suc zero) two = refl
reduction_first (suc (suc l)) two = absurd (omega arith)

reduction_next : (l p : ℕ) → l < 2 → p < 15 → get_or reductions (16 * l + (p + 1)) 0 ≡ 0
reduction_next zero p two lt = at_each 15 (λ p. get_or reductions (16 * 0 + (p + 1)) 0) (λ p. 0) refl p lt
reduction_next (suc zero) p two lt = at_each 15 (λ p. get_or reductions (16 * 1 + (p + 1)) 0) (λ p. 0) refl p lt
reduction_next (suc (suc l)) p two lt = absurd (omega arith)

none_of : (n : ℕ) → number_of (λ p. 0) n ≡ 0
unfolding number_of
none_of zero = refl
none_of (suc n) = ap (λ (a : ℕ). a * 256 + 0) (none_of n)

lane-reductions : (l : ℕ) (v : List ℕ) → l < 2 → IsPair v → lane l (zip2 times (last_bits v) reductions) ≡ get_or v (16 * l + 15) 0 % 2 * reduction
lane-reductions l v two pair =
    let bit : ℕ = get_or v (16 * l + 15) 0 % 2 in
    let small : bit < 2 = omega arith in
    let f : ℕ → ℕ = λ p. get_or (zip2 times (last_bits v) reductions) (16 * l + p) 0 in
    let at : (p : ℕ) → p < 16 → f p ≡ times bit (get_or reductions (16 * l + p) 0) =
    λ p lt. get_or-both times (last_bits v) reductions (16 * l + p) (length-last_bits v) refl (omega arith) ∙ ap (λ (b : ℕ). times b (get_or reductions (16 * l + p) 0)) (last_bit_at v l p two lt pair) in
    let first : f 0 ≡ bit * 225 = at 0 (omega arith) ∙ ap (times bit) (reduction_first l two) ∙ whole bit small in
    let others : (p : ℕ) → p < 15 → f (p + 1) ≡ 0 = λ p lt. at (p + 1) (omega arith) ∙ ap (times bit) (reduction_next l p two lt) ∙ nothing bit in
    lane-bytes l (zip2 times (last_bits v) reductions) ∙ number_of-behind f (λ p. 0) 15 others
    ∙ ap (λ (n : ℕ). f 0 * 2 ^ (8 * 15) + n) (none_of 15) ∙ ap (λ (n : ℕ). n * 2 ^ (8 * 15) + 0) first ∙ omega arith
  where
    whole : (b : ℕ) → b < 2 → times b 225 ≡ b * 225
    whole b small = omega arith

    nothing : (b : ℕ) → times b 0 ≡ 0
    nothing b = omega arith

last_of : (l : ℕ) (v : List ℕ) → lane l v % 2 ≡ get_or v (16 * l + 15) 0 % 2
unfolding lane number_of
last_of l v = omega arith

pub lane-times_u : (l : ℕ) (v half : List ℕ) → l < 2 → IsPair v → IsPair half → lane l half ≡ lane l v / 2 ^ 1 → lane l (zip2 bit_xor half (zip2 times (last_bits v) reductions)) ≡ times_u (lane l v)
unfolding times_u
lane-times_u l v half two pair pair_half is =
    lane-sum l half (zip2 times (last_bits v) reductions) two pair_half (IsPair-reductions v pair)
    ∙ ap₂ bit_xor is (lane-reductions l v two pair ∙ ap (λ (b : ℕ). b * reduction) (sym (last_of l v)))
