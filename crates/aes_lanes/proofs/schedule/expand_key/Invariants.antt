use Rattle.std.proofs.Common.{◌≡◌, ◌-◌, take}
use Rattle.aes_lanes.specs.Schedule.{first_words, expanded_key}
use Rattle.aes_lanes.proofs.schedule.expand_key.Given as goal

abbrev pub invariant-loop-i : goal.invariant-loop-i
invariant-loop-i l = take l.i l.words ≡ first_words l.key l.i

abbrev pub invariant-loop-i-2 : goal.invariant-loop-i-2
invariant-loop-i-2 l = take l.i l.words ≡ expanded_key l.key_words l.key (l.i - l.key_words)
