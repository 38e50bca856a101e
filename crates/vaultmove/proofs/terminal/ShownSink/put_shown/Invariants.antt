use Rattle.std.proofs.Common.{◌≡◌}
use Rattle.vaultmove.proofs.terminal.ShownSink.put_shown.Given as goal

-- what failed isn't counted here
abbrev pub invariant-loop-at : goal.invariant-loop-at
invariant-loop-at g l = l.self.faults ≡ l.fn.self.faults
