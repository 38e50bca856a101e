use Rattle.std.proofs.Common.{◌≡◌, take, string_bytes}
use Rattle.std.specs.List.{flat_map}
use Rattle.checking_commands.specs.Lines.{noted_line}
use Rattle.checking_commands.proofs.checking.notes_text.Given as goal

-- the notes so far have their lines
abbrev pub invariant-loop-note : goal.invariant-loop-note
invariant-loop-note l = string_bytes l.text ≡ flat_map noted_line (take l.note-index l.notes)
