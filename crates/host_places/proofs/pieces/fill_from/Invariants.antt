use Rattle.std.proofs.Common.{◌≤◌, ◌-◌, length}
use Rattle.host_places.proofs.pieces.fill_from.Given as goal

abbrev pub invariant-loop-filled : goal.invariant-loop-filled
invariant-loop-filled l = l.filled ≤ length l.out

abbrev pub decreases-loop-filled : goal.decreases-loop-filled
decreases-loop-filled l = length l.out - l.filled
