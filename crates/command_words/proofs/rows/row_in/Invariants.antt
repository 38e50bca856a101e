use Rattle.std.proofs.Common.{◌≡◌, drop, map}
use Rattle.command_words.specs.Rows.{row_in, row_of_code}
use Rattle.command_words.proofs.rows.row_in.Given as goal

-- the row is among those that are left, or nowhere
abbrev pub invariant-loop-row : goal.invariant-loop-row
invariant-loop-row l = row_in l.name (map row_of_code (drop l.row-index l.rows)) ≡ row_in l.name (map row_of_code l.rows)
