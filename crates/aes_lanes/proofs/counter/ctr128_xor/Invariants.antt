use Rattle.std.proofs.Common.{◌≡◌, ◌*◌}
use Rattle.std.specs.Fn.{iterate}
use Rattle.aes_lanes.specs.Counter.{increment}
use Rattle.aes_lanes.proofs.CounterSteps.{IsDoneTo}
use Rattle.aes_lanes.proofs.counter.ctr128_xor.Given as goal

abbrev pub invariant-loop-set : goal.invariant-loop-set
invariant-loop-set g l = record {
  counter : l.counter ≡ iterate (increment 16) (16 * l.set) l.start;
  done : IsDoneTo (g.C.Cipher.image l.key) (increment 16) l.start l.fn.bytes l.bytes (16 * l.set);
}
