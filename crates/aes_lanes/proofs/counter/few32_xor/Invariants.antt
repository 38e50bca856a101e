use Rattle.std.proofs.Common.{List, ℕ}
use Rattle.aes_lanes.specs.Cipher.{cipher}
use Rattle.aes_lanes.specs.Counter.{increment}
use Rattle.aes_lanes.specs.RoundKeys.{AreKeyBlocks}
use Rattle.aes_lanes.proofs.CounterSteps.{IsDoneTo}
use Rattle.aes_lanes.proofs.counter.few32_xor.Given as goal

abbrev pub invariant-loop-k : goal.invariant-loop-k
invariant-loop-k l = (words : List ℕ) → AreKeyBlocks words l.keys
    → IsDoneTo (cipher l.rounds words) (increment 4) l.start l.initial.bytes l.bytes l.k
