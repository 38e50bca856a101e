use Rattle.std.proofs.Common.{◌≡◌}
use Rattle.host_places.specs.Noted.{Sees}
use Rattle.host_places.proofs.noted.Noted.see_above.Given as goal

abbrev pub invariant-loop-part : goal.invariant-loop-part
invariant-loop-part l = Sees l.fn.self l.self × (l.self.changed ≡ l.fn.self.changed)
