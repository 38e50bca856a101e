use Rattle.std.proofs.Common.{◌≤◌, ◌-◌, length}
use Rattle.host_places.proofs.pieces.fill.Given as goal

abbrev pub invariant-loop-count : goal.invariant-loop-count
invariant-loop-count g l = l.count ≤ length l.out

abbrev pub decreases-loop-count : goal.decreases-loop-count
decreases-loop-count g l = length l.out - l.count
