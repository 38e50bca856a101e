use Rattle.std.proofs.Common.{◌≡◌, take}
use Rattle.demo_core.specs.Demonstration.{bytes_from}
use Rattle.demo_core.proofs.items.fill.Given as goal

abbrev pub invariant-loop-k : goal.invariant-loop-k
invariant-loop-k l = take l.k l.out ≡ bytes_from l.seed l.number l.place l.k
