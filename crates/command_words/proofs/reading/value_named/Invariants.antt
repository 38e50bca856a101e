use Rattle.std.proofs.Common.{◌≡◌, drop}
use Rattle.command_words.specs.Values.{value_named}
use Rattle.command_words.proofs.reading.value_named.Given as goal

-- the value among the options that are left
abbrev pub invariant-loop-choice : goal.invariant-loop-choice
invariant-loop-choice l = value_named l.name (drop l.choice-index l.choices) ≡ value_named l.name l.choices
