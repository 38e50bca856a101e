use Rattle.std.proofs.Common.{◌≡◌, ◌++◌, take}
use Rattle.host_ports.proofs.host_folder.HostFolder.ask.Given as goal

-- what was asked for before, and the paths so far
abbrev pub invariant-loop-one : goal.invariant-loop-one
invariant-loop-one l = (l.self-inside.asked.items ≡ l.fn.self.asked ++ take l.one-index l.wanted) × (l.self-inside.barred ≡ l.fn.self.barred.changes) × (l.self-inside.stopped ≡ l.fn.self.barred.settles) × (l.self-inside.blind ≡ l.fn.self.barred.reads) × (l.self-inside.noted ≡ l.fn.self.dirs)
