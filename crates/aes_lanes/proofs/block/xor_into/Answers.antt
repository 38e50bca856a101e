use Rattle.std.proofs.Common.{arith, zero-add}
use Rattle.aes_lanes.specs.Laws.Sums.{xor_bytes-from_places}
use Rattle.aes_lanes.proofs.block.xor_into.Goals as goal

pub returns : goal.returns
returns c =
    xor_bytes-from_places _ c.args.left.now c.args.right.now c.xor_at.ensures.same_length (omega arith)
    (λ k lt. simp zero-add at (c.xor_at.ensures.inside k (omega arith) (omega arith)))
