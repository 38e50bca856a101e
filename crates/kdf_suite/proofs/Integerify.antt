-- The place that Integerify tells, from the first word of the last block.
use Rattle.std.proofs.Common.{◌≡◌, ℕ, ◌+◌, ◌-◌, ◌*◌, ◌%◌, ◌^◌, ◌<◌, ◌≤◌, List, [], ◌∷◌, length, drop, get_or, refl, ap, ◌∙◌, sym, inl, inr, arith}
use Rattle.std.proofs.Math.Nat.{add-mul-mod_self_left, mul_assoc}
use Rattle.std.proofs.Math.Pow.{pow_mono}
use Rattle.std.proofs.lemmas.Bool.{cases_lt}
use Rattle.std.proofs.lemmas.List.{get_or-drop, get_or-take}
use Rattle.std.proofs.lemmas.Nat.{pow-add, pow_pos}
use Rattle.std.specs.Int.{IsPowerOfTwo}
use Rattle.kdf_suite.specs.RoMix.{block_at, integerify, number_of}

-- a power of two isn't 0
pub power-positive : (n : ℕ) → IsPowerOfTwo n → 0 < n
power-positive n power = rw power.1 (pow_pos power.0)

-- a power of two divides each greater one
divides : (n k w : ℕ) → n ≡ 2 ^ k → n < 2 ^ w → (m : ℕ) × (2 ^ w ≡ n * m)
divides n k w is below =
    elim (cases_lt k w) [
      | inl less ↦ (2 ^ (w - k), (let whole : w ≡ k + (w - k) = omega arith in ap (λ j. 2 ^ j) whole ∙ pow-add 2 k (w - k) ∙ rw (← is) refl))
      | inr more ↦ absurd (omega (arith, pow_mono {i = w} {j = k} more))
    ]

-- modulo a divisor of the base, a number is its lowest digit
lowest : (n w base rest m : ℕ) → base ≡ n * m → (w + base * rest) % n ≡ w % n
lowest n w base rest m is = rw (is, mul_assoc n m rest) (add-mul-mod_self_left w n (m * rest))

-- modulo a power of two below 2 ^ 32, a number is its first word
number_of-mod : (n : ℕ) (words : List ℕ) → IsPowerOfTwo n → n < 2 ^ 32 → number_of words % n ≡ get_or words 0 0 % n
number_of-mod n [] power below = refl
number_of-mod n (w ∷ ws) power below =
    let d = divides n power.0 32 power.1 below in lowest n w (2 ^ 32) (number_of ws) d.0 d.1

-- Integerify of 2 r blocks, modulo such a power
pub integerify-mod : (n r : ℕ) (x : List ℕ) → 1 ≤ r → length x ≡ 32 * r → IsPowerOfTwo n → n < 2 ^ 32 → get_or x (32 * r - 16) 0 % n ≡ integerify r x % n
integerify-mod n r x low long power below =
    let place : 32 * r - 16 ≡ 16 * (2 * r - 1) + 0 = omega arith in
    let first : get_or (block_at x (2 * r - 1)) 0 0 ≡ get_or x (32 * r - 16) 0 =
    get_or-take 16 (drop (16 * (2 * r - 1)) x) 0 0 (omega arith)
    ∙ get_or-drop (16 * (2 * r - 1)) x 0 0
    ∙ ap (λ i. get_or x i 0) (sym place) in
    sym (number_of-mod n (block_at x (2 * r - 1)) power below ∙ ap (λ w. w % n) first)
