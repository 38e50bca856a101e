use Rattle.std.proofs.Common.{◌≡◌, ℕ, ◌<◌, [], get_or, length}
use Rattle.std.specs.Fn.{iterate}
use Rattle.aes_lanes.specs.Counter.{increment}
use Rattle.aes_lanes.proofs.counter.next128.Given as goal

abbrev pub invariant-loop-i : goal.invariant-loop-i
invariant-loop-i l = record {
  sixteen : length l.blocks ≡ 16;
  counter : l.counter ≡ iterate (increment 16) l.i l.initial.counter;
  counts : (k : ℕ) → k < l.i → get_or l.blocks k [] ≡ iterate (increment 16) k l.initial.counter;
}
