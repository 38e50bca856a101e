use Rattle.std.proofs.Common.{◌≡◌, take, string_bytes}
use Rattle.checking_commands.specs.Repair.{moved_text}
use Rattle.checking_commands.proofs.repairing.text_of.Given as goal

-- the paths so far have their lines
abbrev pub invariant-loop-at : goal.invariant-loop-at
invariant-loop-at l = string_bytes l.text ≡ moved_text (take l.at-index l.moved)
