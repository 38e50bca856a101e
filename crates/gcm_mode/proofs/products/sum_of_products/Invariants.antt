use Rattle.std.proofs.Common.{◌≡◌, ℕ, ◌-◌, ◌*◌, ◌%◌, ◌^◌, ◌+◌, ◌<◌, bit_xor}
use Rattle.gcm_mode.specs.Field.{times_power}
use Rattle.gcm_mode.specs.Pairs.{IsPair, lane}
use Rattle.gcm_mode.specs.Products.{bytes_sum}
use Rattle.gcm_mode.proofs.FieldSums.{gathered}
use Rattle.gcm_mode.proofs.products.sum_of_products.Given as goal

-- low and u^128 high make what is gathered so far, and high ends with zeros
abbrev pub invariant-loop-done : goal.invariant-loop-done
invariant-loop-done l =
    IsPair l.low
    × IsPair l.high
    × ((k : ℕ) → k < 2 → bit_xor (lane k l.low) (times_power 128 (lane k l.high)) ≡ gathered (λ b. bytes_sum b k l.pairs l.blocks) l.done)
    × ((k : ℕ) → k < 2 → lane k l.high % 2 ^ (8 * (15 - l.done) + 8) ≡ 0)
