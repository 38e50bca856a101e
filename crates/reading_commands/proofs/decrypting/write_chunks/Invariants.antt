use Rattle.std.proofs.Common.{◌≡◌, ◌≤◌, [], List, ℕ, Option, length, not}
use Rattle.chunk_files.specs.Decoding.{left}
use Rattle.reading_commands.specs.Streaming.{HasWritten}
use Rattle.reading_commands.proofs.decrypting.write_chunks.Given as goal

-- all chunks so far were given and written
abbrev pub invariant-chunks : goal.invariant-chunks
invariant-chunks g l = record {
  written : (key : List ℕ) (at at2 taken : Option (List ℕ)) → HasWritten key at at2 taken (g.O.Sink.taken l.initial.out) l.initial.decoder
      → HasWritten key at at2 taken (g.O.Sink.taken l.out) l.decoder;
  ended : l.decoder.ended ≡ l.initial.decoder.ended;
  same : l.decoder.taken ≡ l.initial.decoder.taken;
  counted : g.O.Sink.faults l.initial.out ≤ g.O.Sink.faults l.out;
}

abbrev pub decreases-chunks : goal.decreases-chunks
decreases-chunks g l = length (left l.decoder [] (not l.decoder.ended)).chunks
