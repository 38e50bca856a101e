-- One more term of a product.
use Rattle.std.proofs.Common.{◌≡◌, ℕ, ◌+◌, ◌-◌, ◌*◌, ◌/◌, ◌^◌, bit_and, bit_xor, ap, ap₂, ◌∙◌, add-one}
use Rattle.std.proofs.lemmas.Nat.Bits.{shr_and_one}
use Rattle.gcm_mode.specs.Field.{terms, coefficient, times_power, times_u}

pub terms-more : (i x y sum multiple term : ℕ) → sum ≡ terms i x y → multiple ≡ times_power i y → term ≡ bit_and (x / 2 ^ (127 - i)) 1 * multiple → bit_xor sum term ≡ terms (i + 1) x y
unfolding terms coefficient
terms-more i x y sum multiple term s m t =
    rw add-one (ap₂ bit_xor s (t ∙ ap₂ ◌*◌ (shr_and_one x (127 - i)) m))

pub times_power-more : (i y multiple next : ℕ) → multiple ≡ times_power i y → next ≡ times_u multiple → next ≡ times_power (i + 1) y
unfolding times_power
times_power-more i y multiple next m n = rw add-one (n ∙ ap times_u m)
