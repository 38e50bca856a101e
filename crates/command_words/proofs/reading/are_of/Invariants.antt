use Rattle.std.proofs.Common.{◌≡◌, drop}
use Rattle.std.specs.List.{list_all}
use Rattle.command_words.specs.Rows.{row_of_code}
use Rattle.command_words.specs.Values.{is_of}
use Rattle.command_words.proofs.reading.are_of.Given as goal

-- whether those that are left are of the row
abbrev pub invariant-loop-choice : goal.invariant-loop-choice
invariant-loop-choice l =
    list_all (λ choice. is_of (row_of_code l.row) choice) (drop l.choice-index l.choices) ≡ list_all (λ choice. is_of (row_of_code l.row) choice) l.choices
