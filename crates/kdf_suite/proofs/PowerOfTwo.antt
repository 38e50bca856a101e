-- The numbers with one digit 1.
use Rattle.std.proofs.Common.{◌≡◌, ℕ, true, zero, suc, ◌+◌, ◌*◌, ◌/◌, ◌%◌, ◌^◌, ◌<◌, ◌≤◌, refl, ap, ◌∙◌, sym, inl, inr, arith}
use Rattle.std.proofs.Math.Nat.{pow-suc}
use Rattle.std.proofs.lemmas.Bool.{cases_lt}
use Rattle.std.proofs.lemmas.Nat.{ones_cat, pow_pos, zero_from_ones}
use Rattle.std.proofs.lemmas.Bool.Decides.{Decides-eqb}
use Rattle.std.specs.Int.{IsPowerOfTwo, is_power_of_two}
use Rattle.std.specs.Int.RustNames.{count_ones}
use Rattle.std.specs.Int.Count.{ones, ones_step}

-- 0 has no digit 1
ones-zero : ones 0 ≡ 0
unfolding ones
ones-zero = refl

-- 1 has one
ones-one : ones 1 ≡ 1
unfolding ones
ones-one = refl

-- a power of two has one digit 1
ones-pow : (k : ℕ) → ones (2 ^ k) ≡ 1
ones-pow k =
    let shifted : 2 ^ k ≡ 1 * 2 ^ k + 0 = omega arith in
    ap ones shifted ∙ ones_cat k 1 0 (pow_pos k) ∙ omega (arith, ones-zero, ones-one)

-- a number with a digit 1 isn't 0
positive_from_ones : (n : ℕ) → ones n ≡ 1 → 0 < n
positive_from_ones zero one = absurd (omega (arith, ones-zero))
positive_from_ones (suc n) one = omega arith

-- a number of at most fuel with one digit 1 is a power of two: its half is one, or it is 1
power_from_ones : (fuel n : ℕ) → n ≤ fuel → ones n ≡ 1 → IsPowerOfTwo n
power_from_ones zero n below one = absurd (omega (arith, positive_from_ones n one))
power_from_ones (suc fuel) n below one =
    let halves = ones_step n in
    elim (cases_lt (n % 2) 1) [
      | inl even ↦ (
          let half = power_from_ones fuel (n / 2) (omega (arith, positive_from_ones n one)) (omega arith) in
          (suc half.0, (let twice : n ≡ n / 2 * 2 = omega arith in twice ∙ ap (λ h. h * 2) half.1 ∙ sym (pow-suc 2 half.0)))
          )
      | inr odd ↦ (
          let none : n / 2 ≡ 0 = zero_from_ones (n / 2) (omega arith) in
          (0, omega arith)
          )
    ]

-- a number that passes the test is a power of two
pub power_from_test : (n : ℕ) → is_power_of_two n ≡ true → IsPowerOfTwo n
power_from_test n test = power_from_ones n n (omega arith) ((Decides-eqb (count_ones n) 1).0 test)

-- a power of two passes it
pub test_from_power : (n : ℕ) → IsPowerOfTwo n → is_power_of_two n ≡ true
test_from_power n power = (Decides-eqb (count_ones n) 1).1 (ap ones power.1 ∙ ones-pow power.0)
