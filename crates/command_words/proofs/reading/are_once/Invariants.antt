use Rattle.std.proofs.Common.{◌≡◌, ◌==◌, drop, map}
use Rattle.std.specs.List.{list_all}
use Rattle.command_words.specs.Rows.{option_of_code}
use Rattle.command_words.specs.Values.{times}
use Rattle.command_words.proofs.reading.are_once.Given as goal

-- whether those that are left stand once
abbrev pub invariant-loop-valued : goal.invariant-loop-valued
invariant-loop-valued l =
    list_all (λ valued. times valued.name l.choices == 1) (map option_of_code (drop l.valued-index l.options))
    ≡ list_all (λ valued. times valued.name l.choices == 1) (map option_of_code l.options)
