use Rattle.std.proofs.Common.{◌≡◌, ◌≤◌, ◌∙◌, List, ℕ, true, false, take, length, length-take, sym, ap, arith}
use Rattle.chunk_files.specs.Decoding.{Decoding}
use Rattle.chunk_files.specs.Keys.{go_keys}
use Rattle.reading_commands.specs.Inputs.{input_limit}
use Rattle.reading_commands.proofs.Outcomes.{outcome-answer, outcome-input, outcome-long, written-ended, written-kept}
use Rattle.reading_commands.proofs.decrypting.stream_end.Goals as goal

pub returns-in-Some-clause-outcome : goal.returns-in-Some-clause-outcome
returns-in-Some-clause-outcome g c = λ key at taken w.
    let within : c.write_chunks.new.decoder.taken ≤ input_limit = omega (arith, c.in-Some.ensures.taken, c.requires.all) in
    outcome-answer key at _ taken _ c.in-Some.answer c.write_chunks.new.decoder (c.in-Some.ensures.drains key at _ taken w) within
    (λ ended. (let no : true ≡ false = sym ended ∙ c.in-Some.ensures.ended ∙ c.requires.open in cc))

pub returns-in-Ok-eq0-clause-outcome : goal.returns-in-Ok-eq0-clause-outcome
returns-in-Ok-eq0-clause-outcome g c = λ key at taken w.
    let drained = c.in-None.ensures.drains key at (g.I.Source.left c.args.input.now) taken w in
    let piece : List ℕ = take c.in-Ok-eq0.field-0 c.take.new.out in
    let none : length piece ≡ 0 = omega (arith, length-take {A = ℕ} c.in-Ok-eq0.field-0 c.take.new.out, c.in-Ok-eq0.field-0-test) in
    let told = written-ended key at (g.I.Source.left c.args.input.now) (g.I.Source.left c.take.new.self) taken (g.O.Sink.taken c.write_chunks.new.out) c.write_chunks.new.decoder c.end.new.self piece
    (λ fed chunks given. c.given_chunks_come_first.ensures.ended (go_keys key) fed chunks c.write_chunks.new.decoder given)
    drained.0 c.in-Ok-eq0.ensures.moved none c.end.ensures.told c.end.ensures.placed in
    let within : c.write_rest.new.decoder.taken ≤ input_limit =
    omega (arith, c.write_rest.ensures.taken, ap (λ (d : Decoding). d.taken) c.end.ensures.told, c.in-None.ensures.taken, c.requires.all) in
    outcome-answer key at _ taken _ c.write_rest.result c.write_rest.new.decoder (c.write_rest.ensures.drains key at _ taken told) within
    (λ ended. (c.in-Ok-eq0.ensures.end c.in-Ok-eq0.field-0-test (omega (arith, c.take.auto.out))).1)

pub returns-in-Ok-clause-outcome : goal.returns-in-Ok-clause-outcome
returns-in-Ok-clause-outcome g c = λ key at taken w.
    let drained = c.in-None.ensures.drains key at (g.I.Source.left c.args.input.now) taken w in
    let byte : List ℕ = take c.in-Ok.field-0 c.take.new.out in
    let one : length byte ≡ 1 = omega (arith, length-take {A = ℕ} c.in-Ok.field-0 c.take.new.out, c.in-Ok.ensures.within, c.take.auto.out, c.in-Ok.field-0-test.1) in
    let all : c.write_chunks.new.decoder.taken ≡ input_limit = c.in-None.ensures.taken ∙ c.requires.all in
    outcome-long key at (g.I.Source.left c.args.input.now) (g.I.Source.left c.take.new.self) taken (g.O.Sink.taken c.write_chunks.new.out) c.write_chunks.new.decoder byte
    drained.0 all drained.1 drained.2 c.in-Ok.ensures.moved one

pub returns-in-Err-clause-outcome : goal.returns-in-Err-clause-outcome
returns-in-Err-clause-outcome g c = λ key at taken w.
    let drained = c.in-None.ensures.drains key at (g.I.Source.left c.args.input.now) taken w in
    let within : c.write_chunks.new.decoder.taken ≤ input_limit = omega (arith, c.in-None.ensures.taken, c.requires.all) in
    outcome-input key at (g.I.Source.left c.take.new.self) taken (g.O.Sink.taken c.write_chunks.new.out) c.write_chunks.new.decoder
    (written-kept key at (g.I.Source.left c.args.input.now) (g.I.Source.left c.take.new.self) taken (g.O.Sink.taken c.write_chunks.new.out) c.write_chunks.new.decoder drained.0 c.in-Err.ensures.fault_takes_nothing)
    within drained.1
