use Rattle.std.proofs.Common.{◌≡◌, drop, map}
use Rattle.command_words.specs.Words.{is_among}
use Rattle.command_words.proofs.arguments.is_flag.Given as goal

-- whether the name is among those that are left
abbrev pub invariant-loop-flag : goal.invariant-loop-flag
invariant-loop-flag l = is_among l.name (map (λ flag. flag.name.now) (drop l.flag-index l.flags)) ≡ is_among l.name (map (λ flag. flag.name.now) l.flags)
