use Rattle.std.proofs.Common.{◌≡◌}
use Rattle.host_ports.specs.Ground.{KeepsBars}
use Rattle.host_ports.proofs.host_folder.HostFolder.claim_each.Given as goal

abbrev pub invariant-loop-one : goal.invariant-loop-one
invariant-loop-one l = (l.self.dirs ≡ l.fn.self.dirs) × (l.self.asked ≡ l.fn.self.asked) × KeepsBars l.fn.self.barred l.self.barred
