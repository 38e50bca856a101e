use Rattle.std.proofs.Common.{◌≡◌, ℕ, ◌*◌, List}
use Rattle.std.specs.Fn.{iterate}
use Rattle.aes_lanes.specs.Cipher.{cipher}
use Rattle.aes_lanes.specs.Counter.{increment}
use Rattle.aes_lanes.specs.PlaneList.{AreRoundKeys}
use Rattle.aes_lanes.proofs.CounterSteps.{IsDoneTo}
use Rattle.aes_lanes.proofs.counter.ctr32_under.Given as goal

abbrev pub invariant-loop-set : goal.invariant-loop-set
invariant-loop-set l = record {
  counter : l.counter ≡ iterate (increment 4) (16 * l.set) l.start;
  done : (words : List ℕ) → AreRoundKeys words l.planes
      → IsDoneTo (cipher l.rounds words) (increment 4) l.start l.initial.bytes l.bytes (16 * l.set);
}
