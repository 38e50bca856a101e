use Rattle.std.proofs.Common.{◌≡◌, drop, map, nat_le}
use Rattle.std.specs.List.{list_all}
use Rattle.command_words.specs.Values.{times}
use Rattle.command_words.proofs.reading.are_once_at_most.Given as goal

-- whether those that are left stand once at most
abbrev pub invariant-loop-flag : goal.invariant-loop-flag
invariant-loop-flag l =
    list_all (λ flag. nat_le (times flag l.choices) 1) (map (λ flag. flag.name.now) (drop l.flag-index l.flags))
    ≡ list_all (λ flag. nat_le (times flag l.choices) 1) (map (λ flag. flag.name.now) l.flags)
