-- What a content file gives, chunk by chunk.
use Rattle.std.specs.Prelude.{ℕ, ◌+◌, ◌==◌, ◌&&◌, Bool, false, nat_lt, List, [], ◌∷◌, length, take, drop, replicate, if◌then◌else◌, Option, None, Some, Result, Ok, Err}
use Rattle.chunk_files.specs.declared.fault.ChunkFault.{ChunkFault}
use Rattle.chunk_files.specs.declared.fault.ChunkFault.TheVariants.{NoHeader, ShortChunk, ZeroNonce, ChunkTag}
use Rattle.chunk_files.specs.Zeros.{is_all_zero}
use Rattle.chunk_files.specs.Format.{Format, Header, stored_size}
use Rattle.chunk_files.specs.Keys.{Keys, format_of}
use Rattle.chunk_files.specs.Pieces.{pieces}
use Rattle.chunk_files.specs.Reading.{Ending, Whole, Wanting, Faulty, Reading, ends, chunk_before}

-- whether a stored chunk stands for a full chunk of zeros
unfoldable pub is_hole : Format → List ℕ → Bool
is_hole f stored = f.has_holes && (length stored == stored_size f) && is_all_zero stored

-- whether an id or nonce of zeros is refused
unfoldable pub is_refused : Format → List ℕ → Bool
is_refused f bytes = f.refuses_zeros && is_all_zero bytes

-- the plain bytes, or that the tag is wrong
abbrev pub opened_or_fault : ℕ → Option (List ℕ) → Result (List ℕ) ChunkFault
opened_or_fault number (Some plain) = Ok plain
opened_or_fault number None = Err (ChunkTag number)

-- the plain bytes of the stored chunk of this number, or its first fault
unfoldable pub read_chunk : Format → Header → ℕ → List ℕ → Result (List ℕ) ChunkFault
read_chunk f header number stored =
    if is_hole f stored then Ok (replicate f.full_size 0)
    else if nat_lt (length stored) f.seal_size then Err (ShortChunk number)
    else if is_refused f (take f.nonce_size stored) then Err (ZeroNonce number)
    else opened_or_fault number (f.opened_chunk header number stored)

-- how reading ends where no byte is left; `goes_on` says that the file goes on behind the bytes given
abbrev pub at_end : Bool → Ending
at_end goes_on = if goes_on then Wanting else Whole

-- a chunk or fault, and what follows a chunk
abbrev pub read_on : Result (List ℕ) ChunkFault → Reading → Reading
read_on (Ok chunk) rest = chunk_before chunk rest
read_on (Err fault) rest = ends (Faulty fault)

-- what the stored chunks from this number on give; where the file goes on, only a whole one is read
unfoldable pub read_chunks : Format → Header → ℕ → List (List ℕ) → Bool → Reading
read_chunks f header number [] goes_on = ends (at_end goes_on)
read_chunks f header number (stored ∷ others) goes_on =
    if goes_on && nat_lt (length stored) (stored_size f) then ends Wanting
    else read_on (read_chunk f header number stored) (read_chunks f header (number + 1) others goes_on)

-- what the bytes behind a header give, in chunks from this number on
abbrev pub read_from : Format → Header → ℕ → List ℕ → Bool → Reading
read_from f header number bytes goes_on = read_chunks f header number (pieces (stored_size f) bytes) goes_on

-- what the bytes behind a header give that told this or has this fault
abbrev pub read_behind : Format → Result Header ChunkFault → List ℕ → Bool → Reading
read_behind f (Err fault) bytes goes_on = ends (Faulty fault)
read_behind f (Ok header) bytes goes_on = read_from f header 0 bytes goes_on

-- what the bytes of a file give, which goes on behind them or ends there
unfoldable pub read_by : Format → List ℕ → Bool → Reading
read_by f bytes goes_on =
    if (length bytes == 0) && f.empty_has_no_header then ends (at_end goes_on)
    else if nat_lt (length bytes) f.header_size then ends (if goes_on then Wanting else Faulty NoHeader)
    else read_behind f (f.read_header (take f.header_size bytes)) (drop f.header_size bytes) goes_on

-- the chunks of the front of a file, and how reading it ends; `goes_on` says that more bytes follow
abbrev pub read_file : Keys → List ℕ → Bool → Reading
read_file keys bytes goes_on = read_by (format_of keys) bytes goes_on

-- the chunks of a whole file before its first fault, and that fault, or its end
abbrev pub readable : Keys → List ℕ → Reading
readable keys bytes = read_file keys bytes false
