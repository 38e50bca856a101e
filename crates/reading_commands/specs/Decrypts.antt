-- What `decrypt-file` makes of its input.
use Rattle.std.specs.Prelude.{◌≡◌, ℕ, zero, suc, ◌+◌, ◌*◌, ◌≤◌, min, List, ◌++◌, take, length, Option}
use Rattle.std.specs.List.{concat}
use Rattle.std.specs.Io.KnownBytes.{Appends, Consumes, Keeps}
use Rattle.port_model.specs.Told.{AppendsPrefix}
use Rattle.chunk_files.specs.Format.{Format, stored_size}
use Rattle.chunk_files.specs.Gocryptfs.{go_format}
use Rattle.chunk_files.specs.Keys.{go_keys}
use Rattle.chunk_files.specs.Reading.{Reading, Whole, Wanting, Faulty}
use Rattle.vault_read.specs.Contents.{limited_reading}
use Rattle.reading_commands.specs.declared.decrypting.DecryptEnd.{DecryptEnd}
use Rattle.reading_commands.specs.declared.decrypting.DecryptEnd.TheVariants.{Done, OutOfMemory, InputFault, OutputFault, Damaged, TooLong}

-- the input as a content file, up to the limit
abbrev pub input_reading : List ℕ → List ℕ → Reading
input_reading key input = limited_reading (go_keys key) input

-- The reading that an answer tells of: it ended well, at this fault, or for want of bytes past the limit.
-- The other answers have other causes.
abbrev pub TellsOf : DecryptEnd → Reading → Type 0
TellsOf Done reading = reading.ending ≡ Whole
TellsOf (Damaged fault) reading = reading.ending ≡ Faulty fault
TellsOf TooLong reading = reading.ending ≡ Wanting
TellsOf OutOfMemory reading = Unit {0}
TellsOf InputFault reading = Unit {0}
TellsOf OutputFault reading = Unit {0}

-- What the output took by this answer: all chunks; a front part of them joined where it failed; the first chunks, perhaps none, where the
-- input did; nothing where memory was refused, since what is needed is taken before the first byte.
abbrev pub Writes : DecryptEnd → Reading → Option (List ℕ) → Option (List ℕ) → Type 0
Writes Done reading taken taken' = Appends taken taken' (concat reading.chunks)
Writes (Damaged fault) reading taken taken' = Appends taken taken' (concat reading.chunks)
Writes TooLong reading taken taken' = Appends taken taken' (concat reading.chunks)
Writes OutputFault reading taken taken' = AppendsPrefix taken taken' (concat reading.chunks)
Writes InputFault reading taken taken' = (k : ℕ) × Appends taken taken' (concat (take k reading.chunks))
Writes OutOfMemory reading taken taken' = Keeps taken taken'

-- the stored end of the first so many chunks of an input, and its start before them
abbrev pub end_of_chunks : Format → List ℕ → ℕ → ℕ
end_of_chunks f input zero = 0
end_of_chunks f input (suc k) = min (f.header_size + stored_size f * suc k) (length input)

-- of the input no more than 98,448 bytes were taken past the stored end of chunks that reading gives and the output took whole
pub record TakesNear (key input : List ℕ) (left left' taken taken' : Option (List ℕ)) : Type 0 where
  pub whole : ℕ
  pub given : whole ≤ length (input_reading key input).chunks
  pub behind : List ℕ
  pub wrote : Appends taken taken' (concat (take whole (input_reading key input).chunks) ++ behind)
  pub eaten : List ℕ
  pub consumed : Consumes left left' eaten
  pub near : length eaten ≤ end_of_chunks (go_format key) input whole + 98448
