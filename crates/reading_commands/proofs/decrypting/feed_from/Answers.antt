use Rattle.std.proofs.Common.{◌≡◌, ◌∙◌, ◌++◌, ◌+◌, ◌-◌, min, List, ℕ, length, take, ap, sym, subst, arith, length-append, length-take}
use Rattle.std.proofs.KnownBytes.{Consumes-trans}
use Rattle.std.proofs.lemmas.List.{take_all}
use Rattle.chunk_files.specs.Decoding.{Decoding, HasGiven}
use Rattle.chunk_files.specs.Keys.{go_keys}
use Rattle.reading_commands.proofs.decrypting.feed_from.Goals as goal

pub returns-else-count-eq0-clause-streams : goal.returns-else-count-eq0-clause-streams
returns-else-count-eq0-clause-streams g c = λ key at taken taken2 w.
    let old : Decoding = c.args.decoder.now in
    let piece : List ℕ = take c.in_ok-count.count c.take.new.out in
    let size : length piece ≡ c.in_ok-count.count = omega (arith, length-take {A = ℕ} c.in_ok-count.count c.take.new.out, c.in_ok-count.ensures.within) in
    let least : c.feed.result ≡ min (length piece) (32816 - length old.held) = rw c.requires.open at c.feed.ensures.count in
    let result : c.feed.result ≡ length piece = omega (arith, least, size, c.requires.room, c.in_ok-count.ensures.within, c.take.auto.out) in
    let all : take c.feed.result piece ≡ piece = take_all c.feed.result piece (omega (arith, result)) in
    let is : c.feed.new.self ≡ record old { taken = old.taken + c.feed.result; held = old.held ++ piece } =
    c.feed.ensures.held ∙ ap (λ (b : List ℕ). record old { taken = old.taken + c.feed.result; held = old.held ++ b }) all in
    let fed : List ℕ = w.streams.fed ++ piece in
    record {
      chunks = w.chunks;
      streams = record {
        fed = fed;
        consumed = Consumes-trans at (g.I.Source.left c.args.input.now) (g.I.Source.left c.take.new.self) w.streams.fed piece w.streams.consumed c.in_ok-count.ensures.moved;
        count = ap (λ (d : Decoding). d.taken) is ∙ omega (arith, length-append w.streams.fed piece, w.streams.count, result);
        given = subst (HasGiven (go_keys key) fed w.chunks) (sym is)
            (c.given_chunks_come_first.ensures.fed (go_keys key) w.streams.fed w.chunks old piece (old.taken + c.feed.result) w.streams.given c.requires.open);
        wrote = w.streams.wrote;
        placed = c.feed.ensures.placed;
        keys = ap (λ (d : Decoding). d.keys) is ∙ w.streams.keys;
      };
    }
