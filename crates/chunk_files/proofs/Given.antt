-- The chunks that a decoder gave are the first of those that the file gives.
use Rattle.std.proofs.Common.{◌≡◌, ℕ, ◌+◌, true, false, List, [], ◌∷◌, ◌++◌, take, Result, Ok, Err, refl, sym, ap, ◌∙◌, arith, append_assoc, length-append}
use Rattle.chunk_files.specs.declared.fault.ChunkFault.{ChunkFault}
use Rattle.chunk_files.specs.declared.step.Step.{Step}
use Rattle.chunk_files.specs.declared.step.Step.TheVariants.{More, Chunk, End}
use Rattle.chunk_files.specs.Keys.{Keys}
use Rattle.chunk_files.specs.Decoding.{Decoding, GivesNext, HasGiven, LeavesAll, MayFollow, chunks_before, chunks_in, left, started, with_step}

pub given-started : (keys : Keys) → HasGiven keys [] [] (started keys)
given-started keys = record { count = refl; first = λ more goes_on follow. refl }

module _ (keys : Keys) (fed : List ℕ) (chunks : List (List ℕ)) (d : Decoding) (given : HasGiven keys fed chunks d) where
  pub given-fed : (piece : List ℕ) (taken : ℕ) → d.ended ≡ false → HasGiven keys (fed ++ piece) chunks (record d { taken = taken; held = d.held ++ piece })
  given-fed piece taken on = record {
    count = given.count;
    first = λ more goes_on follow.
        let may : MayFollow d (piece ++ more) goes_on = λ ended. (let no : true ≡ false = sym ended ∙ on in cc) in
        rw (append_assoc fed piece more, append_assoc d.held piece more) (given.first (piece ++ more) goes_on may);
  }

  pub given-ended : HasGiven keys fed chunks (record d { ended = true })
  given-ended = record {
    count = given.count;
    first = λ more goes_on follow. given.first more goes_on (λ ended. follow refl);
  }

  -- all is left
  same : (d2 : Decoding) → LeavesAll d d2 → d2.ended ≡ d.ended → d2.number ≡ d.number → HasGiven keys fed chunks d2
  same d2 all ended number = record {
    count = number ∙ given.count;
    first = λ more goes_on follow.
        let may : MayFollow d more goes_on = λ e. follow (ended ∙ e) in
        given.first more goes_on may ∙ ap (chunks_before chunks) (all more goes_on may);
  }

  pub given-next : (d2 : Decoding) (step : Result Step ChunkFault) (buffer : List ℕ) → GivesNext d step d2 buffer → d2.ended ≡ d.ended → d2.number ≡ d.number + chunks_in step
      → HasGiven keys fed (with_step chunks step buffer) d2
  given-next d2 (Ok (Chunk size)) buffer gives ended number = record {
    count = number ∙ ap (λ (n : ℕ). n + 1) given.count ∙ sym (length-append chunks (take size buffer ∷ []));
    first = λ more goes_on follow.
        let may : MayFollow d more goes_on = λ e. follow (ended ∙ e) in
        given.first more goes_on may ∙ ap (chunks_before chunks) (gives.1 more goes_on may)
        ∙ ap (λ (cs : List (List ℕ)). record { chunks = cs; ending = (left d2 more goes_on).ending }) (sym (append_assoc chunks (take size buffer ∷ []) (left d2 more goes_on).chunks));
  }
  given-next d2 (Ok More) buffer gives ended number = same d2 gives.2 ended (omega (arith, number))
  given-next d2 (Ok End) buffer gives ended number = same d2 gives.2 ended (omega (arith, number))
  given-next d2 (Err fault) buffer gives ended number = same d2 gives.1 ended (omega (arith, number))
