use Rattle.std.proofs.Common.{◌≤◌, ◌-◌, length}
use Rattle.host_places.proofs.pieces.put.Given as goal

abbrev pub invariant-loop-at : goal.invariant-loop-at
invariant-loop-at g l = l.at ≤ length l.piece

abbrev pub decreases-loop-at : goal.decreases-loop-at
decreases-loop-at g l = length l.piece - l.at
