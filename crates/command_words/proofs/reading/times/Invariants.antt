use Rattle.std.proofs.Common.{◌≡◌, ◌+◌, ◌≤◌, drop}
use Rattle.command_words.specs.Values.{times}
use Rattle.command_words.proofs.reading.times.Given as goal

-- those so far, and those among what is left
abbrev pub invariant-loop-choice : goal.invariant-loop-choice
invariant-loop-choice l = record {
  all : l.count + times l.name (drop l.choice-index l.choices) ≡ times l.name l.choices;
  few : l.count ≤ l.choice-index;
}
