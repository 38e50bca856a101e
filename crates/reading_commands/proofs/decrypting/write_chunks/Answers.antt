use Rattle.std.proofs.Common.{◌≡◌, ◌∙◌, ◌++◌, ◌∷◌, [], List, ℕ, Ok, take, ap, sym, subst, refl, append-nil, arith}
use Rattle.std.specs.List.{concat}
use Rattle.std.specs.Io.KnownBytes.{Appends}
use Rattle.std.proofs.KnownBytes.{Appends-trans}
use Rattle.std.proofs.lemmas.List.Folds.{concat-append}
use Rattle.chunk_files.specs.declared.step.Step.TheVariants.{Chunk}
use Rattle.chunk_files.specs.Decoding.{HasGiven}
use Rattle.chunk_files.specs.Keys.{go_keys}
use Rattle.reading_commands.proofs.decrypting.write_chunks.Goals as goal

pub chunks-preserved : goal.chunks-preserved
chunks-preserved g c = record {
  written = λ key at at2 taken held.
      let w = c.chunks.invariant.written key at at2 taken held in
      let last : List ℕ = take c.in-Ok-Chunk.size c.next.new.out in
      let given : HasGiven (go_keys key) w.streams.fed (w.chunks ++ (last ∷ [])) c.next.new.self =
      c.given_chunks_come_first.ensures.next (go_keys key) w.streams.fed w.chunks c.chunks.decoder c.next.new.self (Ok (Chunk c.in-Ok-Chunk.size)) c.next.new.out w.streams.given (rw c.in-Ok-Chunk.field-0-is at c.in-Ok-Chunk.ensures.gives) c.in-Ok-Chunk.ensures.end (rw c.in-Ok-Chunk.field-0-is at c.in-Ok-Chunk.ensures.number) in
      let piece : Appends (g.O.Sink.taken c.chunks.out) (g.O.Sink.taken c.put.new.self) last =
      subst (λ (b : List ℕ). Appends (g.O.Sink.taken c.chunks.out) (g.O.Sink.taken c.put.new.self) (take c.in-Ok-Chunk.size b)) c.bytes.ensures.value c.in-Ok.ensures.whole in
      let joined : concat w.chunks ++ last ≡ concat (w.chunks ++ (last ∷ [])) =
      sym (concat-append w.chunks (last ∷ []) ∙ ap (λ (x : List ℕ). concat w.chunks ++ x) (append-nil last)) in
      record {
        chunks = w.chunks ++ (last ∷ []);
        streams = record {
          fed = w.streams.fed;
          consumed = w.streams.consumed;
          count = c.in-Ok-Chunk.ensures.taken ∙ w.streams.count;
          given = given;
          wrote = subst (Appends taken (g.O.Sink.taken c.put.new.self)) joined (Appends-trans taken (g.O.Sink.taken c.chunks.out) (g.O.Sink.taken c.put.new.self) (concat w.chunks) last w.streams.wrote piece);
          placed = c.in-Ok-Chunk.ensures.placed;
          keys = c.in-Ok-Chunk.ensures.keys ∙ w.streams.keys;
        };
      };
  ended = c.in-Ok-Chunk.ensures.end ∙ c.chunks.invariant.ended;
  same = c.in-Ok-Chunk.ensures.taken ∙ c.chunks.invariant.same;
  counted = omega (arith, c.in-Ok.ensures.counted, c.chunks.invariant.counted);
}

pub returns-in-Err-put-clause-drains : goal.returns-in-Err-put-clause-drains
returns-in-Err-put-clause-drains g c = λ key at at2 taken held.
    let w = c.chunks.invariant.written key at at2 taken held in
    let last : List ℕ = take c.in-Ok-Chunk.size c.next.new.out in
    let given : HasGiven (go_keys key) w.streams.fed (w.chunks ++ (last ∷ [])) c.next.new.self =
    c.given_chunks_come_first.ensures.next (go_keys key) w.streams.fed w.chunks c.chunks.decoder c.next.new.self (Ok (Chunk c.in-Ok-Chunk.size)) c.next.new.out w.streams.given (rw c.in-Ok-Chunk.field-0-is at c.in-Ok-Chunk.ensures.gives) c.in-Ok-Chunk.ensures.end (rw c.in-Ok-Chunk.field-0-is at c.in-Ok-Chunk.ensures.number) in
    let prefix = c.in-Err-put.ensures.fault_takes_a_prefix in
    let piece : Appends (g.O.Sink.taken c.chunks.out) (g.O.Sink.taken c.put.new.self) (take prefix.0 last) =
    subst (λ (b : List ℕ). Appends (g.O.Sink.taken c.chunks.out) (g.O.Sink.taken c.put.new.self) (take prefix.0 (take c.in-Ok-Chunk.size b))) c.bytes.ensures.value prefix.1 in
    record {
      chunks = w.chunks;
      last = last;
      part = take prefix.0 last;
      front = record { count = prefix.0; is = refl };
      streams = record {
        fed = w.streams.fed;
        consumed = w.streams.consumed;
        count = c.in-Ok-Chunk.ensures.taken ∙ w.streams.count;
        given = given;
        wrote = Appends-trans taken (g.O.Sink.taken c.chunks.out) (g.O.Sink.taken c.put.new.self) (concat w.chunks) (take prefix.0 last) w.streams.wrote piece;
        placed = c.in-Ok-Chunk.ensures.placed;
        keys = c.in-Ok-Chunk.ensures.keys ∙ w.streams.keys;
      };
    }
