use Rattle.std.proofs.Common.{◌≡◌, ◌≤◌, ◌-◌, List, ℕ, false}
use Rattle.reading_commands.specs.Streaming.{HasWritten}
use Rattle.reading_commands.proofs.decrypting.stream.Given as goal

-- what was fed so far was given and written, but for what the decoder holds
abbrev pub invariant-pieces : goal.invariant-pieces
invariant-pieces g l = record {
  written : (key : List ℕ) → HasWritten key (g.I.Source.left l.initial.input) (g.I.Source.left l.initial.input) (g.O.Sink.taken l.initial.out) (g.O.Sink.taken l.initial.out) l.initial.decoder
      → HasWritten key (g.I.Source.left l.initial.input) (g.I.Source.left l.input) (g.O.Sink.taken l.initial.out) (g.O.Sink.taken l.out) l.decoder;
  open_still : l.decoder.ended ≡ false;
  count : l.decoder.taken ≡ l.fed;
  most : l.fed ≤ 1099511627776;
  input_counted : g.I.Source.faults l.initial.input ≤ g.I.Source.faults l.input;
  output_counted : g.O.Sink.faults l.initial.out ≤ g.O.Sink.faults l.out;
}

abbrev pub decreases-pieces : goal.decreases-pieces
decreases-pieces g l = 1099511627776 - l.fed
