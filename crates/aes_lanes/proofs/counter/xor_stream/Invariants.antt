use Rattle.std.proofs.Common.{◌≡◌, ℕ, ◌*◌, ◌<◌, List, [], get_or, length}
use Rattle.std.specs.Fn.{iterate}
use Rattle.aes_lanes.proofs.CounterSteps.{IsDoneTo}
use Rattle.aes_lanes.proofs.counter.xor_stream.Given as goal

abbrev pub invariant-loop-k : goal.invariant-loop-k
invariant-loop-k l = (image next : List ℕ → List ℕ) (start : List ℕ)
    → ((k : ℕ) → 16 * k < length l.initial.bytes → get_or l.stream k [] ≡ image (iterate next k start))
    → IsDoneTo image next start l.initial.bytes l.bytes l.k
