use Rattle.std.proofs.Common.{◌≡◌, ◌*◌, ◌<◌, ℕ, zero, suc, ◌+◌, ◌-◌, ◌%◌, ◌^◌, bit_and, ◌∙◌, arith, rules}
use Rattle.std.proofs.lemmas.Nat.{and_mask, and_comm}
use Rattle.gcm_mode.proofs.field.where_set.Goals as goal

-- a bit's negation masks a number by all ones or by none
masked : (bit mask value : ℕ) → bit < 2 → mask < 2 ^ 128 → value < 2 ^ 128 → (mask + bit) % 2 ^ 128 ≡ 0 → bit_and mask value ≡ bit * value
masked zero mask value b m v e =
    let none : mask ≡ 0 = omega arith in
    rw none (omega arith)
masked (suc zero) mask value b m v e =
    let all : mask ≡ 2 ^ 128 - 1 = omega arith in
    rw all (and_comm (2 ^ 128 - 1) value ∙ and_mask value 128 ∙ omega arith)
masked (suc (suc n)) mask value b m v e = absurd (omega arith)

pub returns : goal.returns
returns c = masked _ _ _ c.requires (search rules) (search rules) c.wrapping_neg.ensures
