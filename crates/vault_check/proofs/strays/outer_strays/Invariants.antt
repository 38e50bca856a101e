use Rattle.std.proofs.Common.{◌≡◌, drop, []}
use Rattle.vault_check.specs.Strays.{strays_after}
use Rattle.vault_check.proofs.strays.outer_strays.Given as goal

-- what was gathered, and what the rest adds to it
abbrev pub invariant-loop-finding : goal.invariant-loop-finding
invariant-loop-finding l = strays_after l.strays.items (drop l.finding-index l.findings) ≡ strays_after [] l.findings
