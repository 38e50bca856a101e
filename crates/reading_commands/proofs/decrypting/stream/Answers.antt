use Rattle.std.proofs.Common.{◌≡◌, ◌≤◌, ◌∙◌, Ok, true, false, sym, ap, arith}
use Rattle.chunk_files.specs.Decoding.{Decoding}
use Rattle.reading_commands.specs.Inputs.{input_limit}
use Rattle.reading_commands.proofs.Outcomes.{outcome-answer, outcome-input}
use Rattle.reading_commands.proofs.decrypting.stream.Goals as goal

pub returns-in-Some-clause-outcome : goal.returns-in-Some-clause-outcome
returns-in-Some-clause-outcome g c = λ key w.
    let within : c.write_chunks.new.decoder.taken ≤ input_limit = omega (arith, c.in-Some.ensures.taken, c.pieces.invariant.count, c.pieces.invariant.most) in
    outcome-answer key _ _ _ _ c.in-Some.answer c.write_chunks.new.decoder (c.in-Some.ensures.drains key _ _ _ (c.pieces.invariant.written key w)) within
    (λ ended. (let no : true ≡ false = sym ended ∙ c.in-Some.ensures.ended ∙ c.pieces.invariant.open_still in cc))

pub returns-in-Ok-eq0-clause-outcome : goal.returns-in-Ok-eq0-clause-outcome
returns-in-Ok-eq0-clause-outcome g c = λ key w.
    let drained = c.in-None.ensures.drains key _ _ _ (c.pieces.invariant.written key w) in
    let told = c.in-Ok-eq0.ensures.streams key _ _ _ drained.0 in
    let within : c.write_rest.new.decoder.taken ≤ input_limit =
    omega (arith, c.write_rest.ensures.taken, c.in-Ok-eq0.ensures.count, c.in-Ok-eq0.field-0-test, c.in-None.ensures.taken, c.pieces.invariant.count, c.pieces.invariant.most) in
    outcome-answer key _ _ _ _ c.write_rest.result c.write_rest.new.decoder (c.write_rest.ensures.drains key _ _ _ told) within
    (λ ended. (c.in-Ok-eq0.ensures.ended (ap Ok c.in-Ok-eq0.field-0-test)).2)

pub returns-in-Err-clause-outcome : goal.returns-in-Err-clause-outcome
returns-in-Err-clause-outcome g c = λ key w.
    let drained = c.in-None.ensures.drains key _ _ _ (c.pieces.invariant.written key w) in
    let failed = c.in-Err.ensures.streams key _ _ _ drained.0 in
    let within : c.feed_piece.new.decoder.taken ≤ input_limit =
    omega (arith, ap (λ (d : Decoding). d.taken) c.in-Err.ensures.nothing, c.in-None.ensures.taken, c.pieces.invariant.count, c.pieces.invariant.most) in
    outcome-input key _ _ _ _ c.feed_piece.new.decoder failed within (ap (λ (d : Decoding). d.ended) c.in-Err.ensures.nothing ∙ drained.1)

pub returns-clause-outcome : goal.returns-clause-outcome
returns-clause-outcome g c = λ key w. c.stream_end.ensures.outcome key _ _ (c.pieces.invariant.written key w)
