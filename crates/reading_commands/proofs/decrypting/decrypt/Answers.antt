use Rattle.std.proofs.Common.{◌∙◌, ap}
use Rattle.chunk_files.specs.Decoding.{started}
use Rattle.chunk_files.specs.Keys.{go_keys}
use Rattle.reading_commands.proofs.Outcomes.{written-nothing}
use Rattle.reading_commands.proofs.decrypting.decrypt.Goals as goal

pub returns-clause-tells : goal.returns-clause-tells
returns-clause-tells g c =
    let key = c.args.key.now in
    let nothing = written-nothing key (g.I.Source.left c.args.input.now) (g.O.Sink.taken c.args.out.now) c.in-Ok.decoder (c.in-Ok.ensures ∙ ap started c.go.ensures) (c.given_chunks_come_first.ensures.started (go_keys key)) in
    (c.stream.ensures.outcome key nothing).tells

pub returns-clause-writes : goal.returns-clause-writes
returns-clause-writes g c =
    let key = c.args.key.now in
    let nothing = written-nothing key (g.I.Source.left c.args.input.now) (g.O.Sink.taken c.args.out.now) c.in-Ok.decoder (c.in-Ok.ensures ∙ ap started c.go.ensures) (c.given_chunks_come_first.ensures.started (go_keys key)) in
    (c.stream.ensures.outcome key nothing).writes

pub returns-clause-takes : goal.returns-clause-takes
returns-clause-takes g c =
    let key = c.args.key.now in
    let nothing = written-nothing key (g.I.Source.left c.args.input.now) (g.O.Sink.taken c.args.out.now) c.in-Ok.decoder (c.in-Ok.ensures ∙ ap started c.go.ensures) (c.given_chunks_come_first.ensures.started (go_keys key)) in
    (c.stream.ensures.outcome key nothing).takes

pub returns-clause-near : goal.returns-clause-near
returns-clause-near g c =
    let key = c.args.key.now in
    let nothing = written-nothing key (g.I.Source.left c.args.input.now) (g.O.Sink.taken c.args.out.now) c.in-Ok.decoder (c.in-Ok.ensures ∙ ap started c.go.ensures) (c.given_chunks_come_first.ensures.started (go_keys key)) in
    (c.stream.ensures.outcome key nothing).near
