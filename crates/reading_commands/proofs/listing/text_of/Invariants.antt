use Rattle.std.proofs.Common.{◌≡◌, take, string_bytes}
use Rattle.reading_commands.specs.Ls.{ls_text}
use Rattle.reading_commands.proofs.listing.text_of.Given as goal

-- the items so far have their lines
abbrev pub invariant-loop-item : goal.invariant-loop-item
invariant-loop-item l = string_bytes l.text ≡ ls_text (take l.item-index l.items)
