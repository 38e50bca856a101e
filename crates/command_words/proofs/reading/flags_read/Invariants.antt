use Rattle.std.proofs.Common.{◌≡◌, map, take}
use Rattle.command_words.specs.Values.{flag_values}
use Rattle.command_words.proofs.reading.flags_read.Given as goal

-- whether each of the first flags is there
abbrev pub invariant-loop-flag : goal.invariant-loop-flag
invariant-loop-flag l = l.values.items ≡ flag_values l.choices (map (λ flag. flag.name.now) (take l.flag-index l.flags))
