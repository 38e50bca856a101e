-- What `decrypt-file` did, from what its parts say.
use Rattle.std.proofs.Common.{◌≡◌, ℕ, ◌+◌, List, Some, inl, inr, refl, sym, ap, ◌∙◌, subst}
use Rattle.std.specs.Prelude.{◌⊎◌, IfSome, IsTrue, Option}
use Rattle.std.specs.List.{concat}
use Rattle.std.specs.Io.KnownBytes.{IsAtEnd}
use Rattle.chunk_files.specs.FileOf.{FilesAreWhatTheyGive, WholeFilesEnd}
use Rattle.chunk_files.specs.Reading.{Reading}
use Rattle.chunk_files.specs.declared.fault.ChunkFault.{ChunkFault}
use Rattle.reading_commands.specs.DecryptFile.{DecryptsFile, IsCutOff, answer_to_end, end_of}
use Rattle.reading_commands.specs.Decrypts.{TakesNear, TellsOf, Writes, input_reading}
use Rattle.reading_commands.specs.Inputs.{TakesAtMost, input_limit}
use Rattle.open_for_reading.specs.World.{World}
use Rattle.command_answers.specs.declared.answer.Answer.TheVariants as answers
use Rattle.reading_commands.specs.declared.decrypting.DecryptEnd.{DecryptEnd}
use Rattle.reading_commands.specs.declared.decrypting.DecryptEnd.TheVariants.{Done, OutOfMemory, InputFault, OutputFault, Damaged, TooLong}
use Rattle.reading_commands.proofs.WholeFiles.{whole-content, within-whole}

-- the reading decides, unless it was cut off
decided : (end : DecryptEnd) (reading : Reading) → TellsOf end reading → (end ≡ end_of reading.ending) ⊎ IsCutOff end
decided Done reading tells = inl (ap end_of (sym tells))
decided (Damaged fault) reading tells = inl (ap end_of (sym tells))
decided TooLong reading tells = inl (ap end_of (sym tells))
decided InputFault reading tells = inr (inl refl)
decided OutputFault reading tells = inr (inr (inl refl))
decided OutOfMemory reading tells = inr (inr (inr refl))

told_input : (P : List ℕ → Type 0) (left : Option (List ℕ)) (input : List ℕ) → IfSome left P → left ≡ Some input → P input
told_input P left input holds is = subst (λ l. IfSome l P) is holds

pub decrypts : FilesAreWhatTheyGive → WholeFilesEnd → (key : List ℕ) (end : DecryptEnd) (before after : World)
    → IfSome before.left (λ input. TellsOf end (input_reading key input))
    → IfSome before.left (λ input. Writes end (input_reading key input) before.taken after.taken)
    → TakesAtMost (input_limit + 1) before.left after.left
    → ((end ≡ OutputFault) ⊎ ((fault : ChunkFault) × (end ≡ Damaged fault)) → IfSome before.left (λ input. TakesNear key input before.left after.left before.taken after.taken))
    → (end ≡ Done → IsTrue after.ended × IsAtEnd after.left)
    → after.told ≡ before.told → after.random ≡ before.random
    → DecryptsFile key (answer_to_end end) before after
decrypts gives ends key end before after tells writes takes near ended same undrawn = record {
  end = end;
  is = refl;
  tells = tells_of;
  writes = writes_of;
  decided = λ input is. decided end (input_reading key input) (tells_of input is);
  decrypted = λ done input is. (
    concat (input_reading key input).chunks,
    whole-content gives ends key input (subst (λ e. TellsOf e (input_reading key input)) done (tells_of input is)),
    subst (λ e. Writes e (input_reading key input) before.taken after.taken) done (writes_of input is),
  );
  whole_files = λ input content is within file.
      elim (decided end (input_reading key input) (tells_of input is)) [
        | inl by_reading ↦ inl (by_reading ∙ ap end_of (within-whole gives key input content within file))
        | inr cut ↦ inr cut
      ];
  ended = ended;
  takes = takes;
  near = λ which input is. told_input (λ input. TakesNear key input before.left after.left before.taken after.taken) before.left input (near which) is;
  unchanged = same;
  undrawn = undrawn;
}
  where
    tells_of : (input : List ℕ) → before.left ≡ Some input → TellsOf end (input_reading key input)
    tells_of input is = told_input (λ input. TellsOf end (input_reading key input)) before.left input tells is

    writes_of : (input : List ℕ) → before.left ≡ Some input → Writes end (input_reading key input) before.taken after.taken
    writes_of input is = told_input (λ input. Writes end (input_reading key input) before.taken after.taken) before.left input writes is
