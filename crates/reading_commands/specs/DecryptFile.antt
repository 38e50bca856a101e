-- `decrypt-file`: the content of a gocryptfs content file that comes by the input.
use Rattle.std.specs.Prelude.{◌≡◌, ◌⊎◌, ◌+◌, ◌≤◌, ℕ, List, length, Some, IsTrue}
use Rattle.std.specs.Io.KnownBytes.{Appends, IsAtEnd}
use Rattle.chunk_files.specs.FileOf.{IsFileOf}
use Rattle.chunk_files.specs.Keys.{go_keys}
use Rattle.chunk_files.specs.Reading.{Ending, Whole, Wanting, Faulty}
use Rattle.chunk_files.specs.declared.fault.ChunkFault.{ChunkFault}
use Rattle.reading_commands.specs.Decrypts.{TakesNear, TellsOf, Writes, input_reading}
use Rattle.reading_commands.specs.Inputs.{TakesAtMost, input_limit}
use Rattle.open_for_reading.specs.World.{World}
use Rattle.command_answers.specs.declared.answer.Answer.{Answer}
use Rattle.command_answers.specs.declared.answer.Answer.TheVariants as answer
use Rattle.command_answers.specs.declared.answer.Limit.TheVariants as limit
use Rattle.reading_commands.specs.declared.decrypting.DecryptEnd.{DecryptEnd}
use Rattle.reading_commands.specs.declared.decrypting.DecryptEnd.TheVariants.{Done, OutOfMemory, InputFault, OutputFault, Damaged, TooLong}

abbrev pub answer_to_end : DecryptEnd → Answer
answer_to_end Done = answer.Done
answer_to_end OutOfMemory = answer.OutOfMemory
answer_to_end InputFault = answer.InputFault
answer_to_end OutputFault = answer.OutputFault
answer_to_end (Damaged fault) = answer.DamagedInput fault
answer_to_end TooLong = answer.Limit limit.Input

-- the end at a reading that no fault of a stream and no want of memory cut off
abbrev pub end_of : Ending → DecryptEnd
end_of Whole = Done
end_of Wanting = TooLong
end_of (Faulty fault) = Damaged fault

-- a stream failed, or memory was refused
abbrev pub IsCutOff : DecryptEnd → Type 0
IsCutOff end = (end ≡ InputFault) ⊎ ((end ≡ OutputFault) ⊎ (end ≡ OutOfMemory))

pub record DecryptsFile (key : List ℕ) (result : Answer) (before after : World) : Type 0 where
  -- it ends in one of few ways
  pub end : DecryptEnd
  pub is : result ≡ answer_to_end end
  -- the end tells how the reading of the input ended, and so does what the output took
  pub tells : (input : List ℕ) → before.left ≡ Some input → TellsOf end (input_reading key input)
  pub writes : (input : List ℕ) → before.left ≡ Some input → Writes end (input_reading key input) before.taken after.taken
  -- unless it is cut off, the reading alone decides
  pub decided : (input : List ℕ) → before.left ≡ Some input → (end ≡ end_of (input_reading key input).ending) ⊎ IsCutOff end
  -- where it is done, the input was a file of what was written; and a file within the limit comes to that
  pub decrypted : end ≡ Done → (input : List ℕ) → before.left ≡ Some input
      → (content : List ℕ) × IsFileOf (go_keys key) input content × Appends before.taken after.taken content
  pub whole_files : (input content : List ℕ) → before.left ≡ Some input → length input ≤ input_limit → IsFileOf (go_keys key) input content → (end ≡ Done) ⊎ IsCutOff end
  -- then the input has ended, and never more is taken of it than the limit and one byte
  pub ended : end ≡ Done → IsTrue after.ended × IsAtEnd after.left
  pub takes : TakesAtMost (input_limit + 1) before.left after.left
  -- where the output failed or the file is damaged, little more was taken than the output took
  pub near : (end ≡ OutputFault) ⊎ ((fault : ChunkFault) × (end ≡ Damaged fault)) → (input : List ℕ) → before.left ≡ Some input
      → TakesNear key input before.left after.left before.taken after.taken
  -- the folder and the random source aren't used
  pub unchanged : after.told ≡ before.told
  pub undrawn : after.random ≡ before.random
