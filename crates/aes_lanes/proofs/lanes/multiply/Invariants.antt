use Rattle.std.proofs.Common.{◌≡◌, ℕ, ◌-◌, ◌<◌, get_or}
use Rattle.aes_lanes.specs.Field.{multiply}
use Rattle.aes_lanes.proofs.LaneSteps.{gathered_product}
use Rattle.aes_lanes.proofs.lanes.multiply.Given as goal

-- what is gathered of each lane and what is left of it make its product
abbrev pub invariant-loop-bit : goal.invariant-loop-bit
invariant-loop-bit l = (k : ℕ) → k < 64
    → gathered_product (8 - l._bit) (get_or l.sum k 0) (get_or l.multiple k 0) (get_or l.rest k 0)
    ≡ multiply (get_or l.fn.left k 0) (get_or l.fn.right k 0)
