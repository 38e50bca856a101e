use Rattle.std.proofs.Common.{◌≡◌, take, string_bytes}
use Rattle.std.specs.List.{flat_map}
use Rattle.checking_commands.specs.Lines.{found_line}
use Rattle.checking_commands.proofs.checking.findings_text.Given as goal

-- the findings so far have their lines
abbrev pub invariant-loop-finding : goal.invariant-loop-finding
invariant-loop-finding l = string_bytes l.text ≡ flat_map found_line (take l.finding-index l.findings)
