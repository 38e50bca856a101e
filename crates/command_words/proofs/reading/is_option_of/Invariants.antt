use Rattle.std.proofs.Common.{◌≡◌, drop, map}
use Rattle.command_words.specs.Rows.{option_of_code}
use Rattle.command_words.specs.Words.{is_among}
use Rattle.command_words.proofs.reading.is_option_of.Given as goal

-- whether the name is among those that are left
abbrev pub invariant-loop-valued : goal.invariant-loop-valued
invariant-loop-valued l =
    is_among l.name (map (λ valued. valued.name) (map option_of_code (drop l.valued-index l.options))) ≡ is_among l.name (map (λ valued. valued.name) (map option_of_code l.options))
