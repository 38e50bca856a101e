use Rattle.std.proofs.Common.{◌≡◌, ℕ, ◌<◌, bit_xor, drop}
use Rattle.gcm_mode.specs.Pairs.{IsPair, lane}
use Rattle.gcm_mode.specs.Products.{bytes_sum}
use Rattle.gcm_mode.proofs.products.sum_of_bytes.Given as goal

-- what is gathered and what is left make the sum
abbrev pub invariant-loop-i : goal.invariant-loop-i
invariant-loop-i l =
    IsPair l.sum
    × ((k : ℕ) → k < 2 → bit_xor (lane k l.sum) (bytes_sum l.b k (drop l.i l.pairs) (drop l.i l.blocks)) ≡ bytes_sum l.b k l.pairs l.blocks)
