-- Words of private contracts: an input that streams through a decoder into an output.
use Rattle.std.specs.Prelude.{◌≡◌, ℕ, ◌+◌, ◌<◌, true, false, Bool, List, [], ◌∷◌, ◌++◌, length, take, ◌⊎◌, Option, None, Some, IfSome}
use Rattle.chunk_files.specs.declared.fault.ChunkFault.{ChunkFault}
use Rattle.reading_commands.specs.Inputs.{TakesAtMost, input_limit}
use Rattle.reading_commands.specs.Decrypts.{TakesNear, TellsOf, Writes, input_reading}
use Rattle.std.specs.List.{concat}
use Rattle.std.specs.Io.KnownBytes.{Appends, Consumes}
use Rattle.chunk_files.specs.Keys.{go_keys}
use Rattle.chunk_files.specs.Reading.{Whole, Wanting, Faulty, ends}
use Rattle.chunk_files.specs.Decoding.{Decoding, HasGiven, IsPlaced, MayFollow, left, wanted}
use Rattle.reading_commands.specs.declared.decrypting.DecryptEnd.{DecryptEnd}
use Rattle.reading_commands.specs.declared.decrypting.DecryptEnd.TheVariants.{Done, OutputFault, Damaged}

-- what was taken of the input was fed to the decoder, which gave these chunks, of which the output took this
pub record Streams (key : List ℕ) (at at' taken taken' : Option (List ℕ)) (d : Decoding) (chunks : List (List ℕ)) (written : List ℕ) : Type 0 where
  pub fed : List ℕ
  pub consumed : Consumes at at' fed
  pub count : d.taken ≡ length fed
  pub given : HasGiven (go_keys key) fed chunks d
  pub wrote : Appends taken taken' written
  pub placed : IsPlaced d
  pub keys : d.keys ≡ go_keys key

-- all chunks that were given were written
pub record HasWritten (key : List ℕ) (at at' taken taken' : Option (List ℕ)) (d : Decoding) : Type 0 where
  pub chunks : List (List ℕ)
  pub streams : Streams key at at' taken taken' d chunks (concat chunks)

-- the front of a piece
pub record AppendsPart (piece part : List ℕ) : Type 0 where
  pub count : ℕ
  pub is : part ≡ take count piece

-- the last chunk that was given was written in part
pub record HasFailed (key : List ℕ) (at at' taken taken' : Option (List ℕ)) (d : Decoding) : Type 0 where
  pub chunks : List (List ℕ)
  pub last : List ℕ
  pub part : List ℕ
  pub front : AppendsPart last part
  pub streams : Streams key at at' taken taken' d (chunks ++ (last ∷ [])) (concat chunks ++ part)

-- What writing the chunks ended with, up to where the decoder wants more bytes, which is none of the answers.
abbrev pub Drains : List ℕ → Option (List ℕ) → Option (List ℕ) → Option (List ℕ) → Option (List ℕ) → Option DecryptEnd → Decoding → Type 0
Drains key at at' taken taken' None d =
    HasWritten key at at' taken taken' d × (d.ended ≡ false) × (left d [] true ≡ ends Wanting) × (length d.held < wanted d.keys d.header)
Drains key at at' taken taken' (Some Done) d = HasWritten key at at' taken taken' d × (d.ended ≡ true) × (left d [] false ≡ ends Whole)
Drains key at at' taken taken' (Some (Damaged fault)) d =
    HasWritten key at at' taken taken' d × ((more : List ℕ) (goes_on : Bool) → MayFollow d more goes_on → left d more goes_on ≡ ends (Faulty fault))
Drains key at at' taken taken' (Some OutputFault) d = HasFailed key at at' taken taken' d
Drains key at at' taken taken' (Some _) d = ⊥

-- What is said of an answer to an input that was told or wasn't.
pub record Outcome (key : List ℕ) (at at' taken taken' : Option (List ℕ)) (answer : DecryptEnd) : Type 0 where
  pub tells : IfSome at (λ input. TellsOf answer (input_reading key input))
  pub writes : IfSome at (λ input. Writes answer (input_reading key input) taken taken')
  pub takes : TakesAtMost (input_limit + 1) at at'
  pub near : (answer ≡ OutputFault) ⊎ ((fault : ChunkFault) × (answer ≡ Damaged fault)) → IfSome at (λ input. TakesNear key input at at' taken taken')
