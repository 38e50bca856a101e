use Rattle.std.proofs.Common.{◌≡◌, take}
use Rattle.std.specs.List.{flat_map}
use Rattle.plain_tree.specs.Shown.{shown_byte}
use Rattle.plain_tree.proofs.shown.shown_bytes.Given as goal

-- the bytes so far are shown
abbrev pub invariant-loop-byte : goal.invariant-loop-byte
invariant-loop-byte l = l.text.items ≡ flat_map (shown_byte l.utf8) (take l.byte-index l.bytes)
