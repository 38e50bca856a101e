use Rattle.std.proofs.Common.{◌≡◌, ◌≤◌, ◌-◌, length, take}
use Rattle.std.specs.Io.KnownBytes.{Appends}
use Rattle.port_model.proofs.std_sink.StdSinkSink.put.Given as goal

-- the writer holds what it held and the front of the piece, and no call has failed
abbrev pub invariant-loop-at : goal.invariant-loop-at
invariant-loop-at g l = (l.at ≤ length l.piece) × Appends (g.T.Write.contents l.initial.self.writer) (g.T.Write.contents l.self.writer) (take l.at l.piece) × (l.self.faults ≡ l.faults)

abbrev pub decreases-loop-at : goal.decreases-loop-at
decreases-loop-at g l = length l.piece - l.at
