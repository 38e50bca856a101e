use Rattle.std.proofs.Common.{◌≡◌, ◌-◌, ◌++◌, length, drop}
use Rattle.std.specs.Option.{option_map}
use Rattle.plain_tree.specs.Reading.{written}
use Rattle.plain_tree.proofs.reading.written.Given as goal

-- what is read so far stands before what the rest writes
abbrev pub invariant-loop-at : goal.invariant-loop-at
invariant-loop-at l = written l.text ≡ option_map (λ rest. l.bytes.items ++ rest) (written (drop l.at l.text))

abbrev pub decreases-loop-at : goal.decreases-loop-at
decreases-loop-at l = length l.text - l.at
