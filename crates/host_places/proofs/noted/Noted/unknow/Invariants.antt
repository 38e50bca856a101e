use Rattle.std.proofs.Common.{◌≡◌}
use Rattle.host_places.specs.Noted.{Sees}
use Rattle.host_places.proofs.noted.Noted.unknow.Given as goal

abbrev pub invariant-loop-dir : goal.invariant-loop-dir
invariant-loop-dir l = Sees l.fn.self l.self × (l.self.seen ≡ l.fn.self.seen) × (l.self.changed ≡ l.fn.self.changed)
