-- A decoder that is fed a content file in pieces, and what it has left to give.
use Rattle.std.specs.Prelude.{◌≡◌, ℕ, ◌+◌, ◌*◌, ◌≤◌, Bool, true, false, List, [], ◌∷◌, ◌++◌, length, take, Option, None, Some, Result, Ok, Err}
use Rattle.chunk_files.specs.declared.fault.ChunkFault.{ChunkFault}
use Rattle.chunk_files.specs.declared.step.Step.{Step}
use Rattle.chunk_files.specs.declared.step.Step.TheVariants.{More, Chunk, End}
use Rattle.chunk_files.specs.Buffers.{HasOnlyOf, KeepsBehind}
use Rattle.chunk_files.specs.Format.{Header, stored_size}
use Rattle.chunk_files.specs.Keys.{Keys, format_of}
use Rattle.chunk_files.specs.Reading.{Whole, Wanting, Faulty, Reading, ends, chunk_before}
use Rattle.chunk_files.specs.Contents.{read_from, read_file}

pub record Decoding : Type 0 where
  pub keys : Keys
  -- what the file's header told, once it was read
  pub header : Option Header
  -- how many chunks were given
  pub number : ℕ
  -- how many bytes were taken, and those of them that are still to be read
  pub taken : ℕ
  pub held : List ℕ
  -- whether the file's end was told
  pub ended : Bool

-- a decoder that was fed nothing yet
abbrev pub started : Keys → Decoding
started keys = record { keys = keys; header = None; number = 0; taken = 0; held = []; ended = false }

-- what bytes give from a file's start, or from a chunk on behind a header that told this
abbrev pub read_at : Keys → Option Header → ℕ → List ℕ → Bool → Reading
read_at keys None number bytes goes_on = read_file keys bytes goes_on
read_at keys (Some header) number bytes goes_on = read_from (format_of keys) header number bytes goes_on

-- what the bytes held and those that follow them give
abbrev pub left : Decoding → List ℕ → Bool → Reading
left d more goes_on = read_at d.keys d.header d.number (d.held ++ more) goes_on

-- behind an end that was told nothing follows
abbrev pub MayFollow : Decoding → List ℕ → Bool → Type 0
MayFollow d more goes_on = d.ended ≡ true → (more ≡ []) × (goes_on ≡ false)

-- one has as much left to give as the other
abbrev pub LeavesAll : Decoding → Decoding → Type 0
LeavesAll d d' = (more : List ℕ) (goes_on : Bool) → MayFollow d more goes_on → left d more goes_on ≡ left d' more goes_on

-- The next chunk stands at the front of the buffer and is gone from what is left; or more bytes are wanted, or
-- the file has ended, or this fault stands there, whatever follows; then all stays left for later steps.
abbrev pub GivesNext : Decoding → Result Step ChunkFault → Decoding → List ℕ → Type 0
GivesNext d (Ok (Chunk size)) d' buffer =
    (size ≤ length buffer)
    × ((more : List ℕ) (goes_on : Bool) → MayFollow d more goes_on → left d more goes_on ≡ chunk_before (take size buffer) (left d' more goes_on))
GivesNext d (Ok More) d' buffer = (d.ended ≡ false) × (left d [] true ≡ ends Wanting) × LeavesAll d d'
GivesNext d (Ok End) d' buffer = (d.ended ≡ true) × (left d [] false ≡ ends Whole) × LeavesAll d d'
GivesNext d (Err fault) d' buffer =
    ((more : List ℕ) (goes_on : Bool) → MayFollow d more goes_on → left d more goes_on ≡ ends (Faulty fault)) × LeavesAll d d'

-- the bytes that a decoder wants to hold before its next step: a whole header, or a whole chunk
abbrev pub wanted : Keys → Option Header → ℕ
wanted keys None = (format_of keys).header_size
wanted keys (Some header) = stored_size (format_of keys)

-- those that its next step reads, as far as they are held
abbrev pub next_stored : Decoding → List ℕ
next_stored d = take (wanted d.keys d.header) d.held

-- what a step leaves in the buffer: behind a chunk nothing changed, at a fault it has only bytes that it had or that the step read, and
-- else it is as it was
abbrev pub LeavesBuffer : Decoding → Result Step ChunkFault → List ℕ → List ℕ → Type 0
LeavesBuffer d (Ok (Chunk size)) old new = KeepsBehind size old new
LeavesBuffer d (Ok More) old new = new ≡ old
LeavesBuffer d (Ok End) old new = new ≡ old
LeavesBuffer d (Err fault) old new = HasOnlyOf (next_stored d) old new

-- how many chunks a step gave
abbrev pub chunks_in : Result Step ChunkFault → ℕ
chunks_in (Ok (Chunk size)) = 1
chunks_in _ = 0

-- some chunks, and then the rest
abbrev pub chunks_before : List (List ℕ) → Reading → Reading
chunks_before chunks rest = record { chunks = chunks ++ rest.chunks; ending = rest.ending }

-- a decoder gave these chunks of the bytes that it was fed: whatever follows, they come first in what the file
-- gives, and what is left behind them
pub record HasGiven (keys : Keys) (fed : List ℕ) (chunks : List (List ℕ)) (d : Decoding) : Type 0 where
  pub count : d.number ≡ length chunks
  pub first : (more : List ℕ) (goes_on : Bool) → MayFollow d more goes_on → read_file keys (fed ++ more) goes_on ≡ chunks_before chunks (left d more goes_on)

-- the chunks given, of which a step may be one
abbrev pub with_step : List (List ℕ) → Result Step ChunkFault → List ℕ → List (List ℕ)
with_step chunks (Ok (Chunk size)) buffer = chunks ++ (take size buffer ∷ [])
with_step chunks _ buffer = chunks

-- the stored end of so many full chunks, and the file's start before the first
abbrev pub stored_end : Keys → Option Header → ℕ → ℕ
stored_end keys None number = 0
stored_end keys (Some header) number = (format_of keys).header_size + stored_size (format_of keys) * number

-- no byte is held twice or lost, and those held lie behind the chunks given
pub record IsPlaced (d : Decoding) : Type 0 where
  pub given : d.number + length d.held ≤ d.taken
  pub near : d.taken ≤ stored_end d.keys d.header d.number + length d.held
  pub none_before_the_header : d.header ≡ None → d.number ≡ 0
  pub few : length d.held ≤ 32816
