-- Words of private contracts: how far the writing of a content has come.
use Rattle.std.specs.Prelude.{◌≡◌, ◌≢◌, ◌≤◌, ◌<◌, ℕ, suc, ◌⊎◌, true, List, [], ◌++◌, length, Option, Result, Ok, Err, OnOk}
use Rattle.port_model.specs.Draws.{ByteStream, Draws}
use Rattle.chunk_files.specs.declared.fault.EncodeFault.{EncodeFault}
use Rattle.chunk_files.specs.declared.fault.EncodeFault.TheVariants as encodes
use Rattle.chunk_files.specs.Encoding.{Encoding, HasMade, IsFrontOf}
use Rattle.chunk_files.specs.Encrypt.{AreAccepted, IsEncrypted, draws, encrypt}
use Rattle.chunk_files.specs.Keys.{Keys, format_of}
use Rattle.folder_spec.specs.Path.{Path}
use Rattle.folder_spec.specs.Event.{Told}
use Rattle.folder_spec.specs.Written.{IsFrontOfOne}
use Rattle.folder_staging.specs.Pieces.{IsWriting, Stages}
use Rattle.item_making.specs.Ending.{Whole, Damaged, TooLong}
use Rattle.content_writing.specs.Content.{Coming, Gave, HasEnded}
use Rattle.item_making.specs.Faults.{of_encoding}
use Rattle.content_writing.specs.Writing.{DrewZeros}
use Rattle.item_making.specs.declared.fault.PutFault.{PutFault}
use Rattle.item_making.specs.declared.fault.PutFault.TheVariants as puts

-- ---- gathering a chunk

-- a full chunk was gathered, or a shorter one at the content's end; or a fault came, behind what was gathered
abbrev pub EndsGathering : ℕ → List ℕ → Option Coming → Option Coming → Result (Unit {0}) PutFault → Type 0
EndsGathering full gathered coming left (Ok _) = length gathered < full → HasEnded Whole coming left
EndsGathering full gathered coming left (Err (puts.Damaged at fault)) = HasEnded (Damaged at fault) coming left
EndsGathering full gathered coming left (Err (puts.Limit limit)) = HasEnded (TooLong limit) coming left
EndsGathering full gathered coming left (Err puts.Source) = Unit {0}
EndsGathering full gathered coming left (Err puts.Failed) = Unit {0}
EndsGathering full gathered coming left (Err puts.NoMemory) = Unit {0}
EndsGathering full gathered coming left (Err puts.ZeroRandom) = ⊥
EndsGathering full gathered coming left (Err puts.Random) = ⊥
EndsGathering full gathered coming left (Err (puts.Find fault)) = ⊥
EndsGathering full gathered coming left (Err (puts.NotAllowed path)) = ⊥
EndsGathering full gathered coming left (Err (puts.Taken at)) = ⊥

-- what a call gathers of what was to come
pub record Gathers (full : ℕ) (gathered : List ℕ) (coming left : Option Coming) (result : Result (Unit {0}) PutFault) : Type 0 where
  pub gave : Gave gathered coming left
  pub ends : EndsGathering full gathered coming left result

-- so many bytes are taken for those that are gathered, and one more where that ends by a fault
abbrev pub most_gathered : Result (Unit {0}) PutFault → ℕ → ℕ
most_gathered (Ok _) count = count
most_gathered (Err fault) count = suc count

-- ---- storing a header and chunks

-- these bytes are a front part of the content's file under the bytes drawn, and no more bytes were drawn than it draws
pub record IsMadeFor (keys : Keys) (drawn content made : List ℕ) : Type 0 where
  pub enough : length drawn ≤ draws (format_of keys) content
  pub front : IsFrontOf made (encrypt keys drawn content)

-- since then nothing but these bytes was staged, or a front part of them
abbrev pub StagesFront : Path → List ℕ → Option Told → Option Told → Type 0
StagesFront at made before now = (files : List (List ℕ)) → IsFrontOfOne files made → Stages files at before now

-- so far, the staged file has these bytes
abbrev pub IsStaged : Path → List ℕ → Option Told → Option Told → Type 0
IsStaged at made before now = (files : List (List ℕ)) → IsFrontOfOne files made → IsWriting files at made before now

-- where a header was drawn, neither its id nor a nonce drawn is of zeros that are refused
abbrev pub WereAccepted : Keys → List ℕ → Type 0
WereAccepted keys drawn = (format_of keys).header_draw ≤ length drawn → AreAccepted (format_of keys) drawn

-- Why a header or a chunk wasn't stored: the bytes drawn last are sixteen zeros, where these are refused; or an object failed.
abbrev pub FailsToStore : Keys → List ℕ → PutFault → Type 0
FailsToStore keys drawn puts.ZeroRandom = DrewZeros keys drawn
FailsToStore keys drawn puts.Random = Unit {0}
FailsToStore keys drawn puts.Failed = Unit {0}
FailsToStore keys drawn puts.NoMemory = Unit {0}
FailsToStore keys drawn puts.Source = ⊥
FailsToStore keys drawn (puts.Damaged at fault) = ⊥
FailsToStore keys drawn (puts.Limit limit) = ⊥
FailsToStore keys drawn (puts.Find fault) = ⊥
FailsToStore keys drawn (puts.NotAllowed path) = ⊥
FailsToStore keys drawn (puts.Taken at) = ⊥

-- The chunk is the last one, or full, where more may follow.
abbrev pub IsNextChunk : Keys → List ℕ → List ℕ → Type 0
IsNextChunk keys chunk rest = (length chunk ≡ (format_of keys).full_size) ⊎ (rest ≡ [])

-- these bytes are the file of a content of one chunk or of none; where that is full, more may follow
pub record IsFront (keys : Keys) (chunk drawn made : List ℕ) (e : Encoding) : Type 0 where
  pub same_keys : e.keys ≡ keys
  pub few : e.number ≤ length chunk
  pub is_open : 0 < length chunk → e.is_open ≡ true
  pub whole : IsEncrypted keys drawn chunk made
  pub goes_on : length chunk ≡ (format_of keys).full_size → HasMade e drawn chunk made

abbrev pub FrontBy : Keys → List ℕ → List ℕ → List ℕ → Encoding → Result (Unit {0}) EncodeFault → Type 0
FrontBy keys chunk drawn made e (Ok _) = IsFront keys chunk drawn made e
FrontBy keys chunk drawn made e (Err fault) = FailsToStore keys drawn (of_encoding fault)

-- A call makes the header of a content's file and the first chunk, if the content has bytes.
pub record MakesFront (keys : Keys) (chunk : List ℕ) (stream stream' : Option ByteStream) (e : Encoding) (made : List ℕ) (result : Result (Unit {0}) EncodeFault) : Type 0 where
  pub drawn : List ℕ
  pub were_drawn : Draws stream stream' drawn
  pub fits : (rest : List ℕ) → IsNextChunk keys chunk rest → IsMadeFor keys drawn (chunk ++ rest) made
  pub accepted : result ≢ Err encodes.ZeroRandom → WereAccepted keys drawn
  pub ends : FrontBy keys chunk drawn made e result

abbrev pub BeginsBy : Keys → List ℕ → Path → List ℕ → List ℕ → Option Told → Option Told → Encoding → Result (Unit {0}) PutFault → Type 0
BeginsBy keys chunk at drawn made before after e (Ok _) = IsFront keys chunk drawn made e × IsStaged at made before after
BeginsBy keys chunk at drawn made before after e (Err fault) = FailsToStore keys drawn fault

-- A call begins the file of a content with its header and its first chunk, if it has bytes.
pub record BeginsContent (keys : Keys) (chunk : List ℕ) (at : Path) (stream stream' : Option ByteStream) (before after : Option Told) (e : Encoding) (result : Result (Unit {0}) PutFault) : Type 0 where
  pub drawn : List ℕ
  pub made : List ℕ
  pub were_drawn : Draws stream stream' drawn
  pub fits : (rest : List ℕ) → IsNextChunk keys chunk rest → IsMadeFor keys drawn (chunk ++ rest) made
  pub accepted : result ≢ Err puts.ZeroRandom → WereAccepted keys drawn
  pub stages : StagesFront at made before after
  pub ends : BeginsBy keys chunk at drawn made before after e result

-- what was made ends the file of the content with this chunk; where that is full, more may follow
pub record GoesOnWith (e e' : Encoding) (chunk drawn piece : List ℕ) : Type 0 where
  pub same_keys : e'.keys ≡ e.keys
  pub is_open : e'.is_open ≡ e.is_open
  pub whole : (drawn0 content file : List ℕ) → HasMade e drawn0 content file → IsEncrypted e.keys (drawn0 ++ drawn) (content ++ chunk) (file ++ piece)
  pub goes_on : (drawn0 content file : List ℕ) → HasMade e drawn0 content file → length chunk ≡ (format_of e.keys).full_size
      → HasMade e' (drawn0 ++ drawn) (content ++ chunk) (file ++ piece)

abbrev pub StoresBy : Encoding → Encoding → List ℕ → List ℕ → List ℕ → Result (Unit {0}) PutFault → Type 0
StoresBy e e' chunk drawn piece (Ok _) = GoesOnWith e e' chunk drawn piece
StoresBy e e' chunk drawn piece (Err fault) = (drawn0 content file : List ℕ) → HasMade e drawn0 content file → FailsToStore e.keys (drawn0 ++ drawn) fault

-- A call stores the next chunk of a content.
pub record StoresChunk (e e' : Encoding) (chunk : List ℕ) (at : Path) (stream stream' : Option ByteStream) (old new : Option Told) (result : Result (Unit {0}) PutFault) : Type 0 where
  pub drawn : List ℕ
  pub piece : List ℕ
  pub were_drawn : Draws stream stream' drawn
  pub fits : (drawn0 content file rest : List ℕ) → HasMade e drawn0 content file → IsNextChunk e.keys chunk rest
      → IsMadeFor e.keys (drawn0 ++ drawn) ((content ++ chunk) ++ rest) (file ++ piece)
  pub accepted : (drawn0 content file : List ℕ) → HasMade e drawn0 content file → result ≢ Err puts.ZeroRandom → AreAccepted (format_of e.keys) (drawn0 ++ drawn)
  pub stages : (before : Option Told) (made : List ℕ) → IsStaged at made before old → StagesFront at (made ++ piece) before new
  pub staged : OnOk result ((before : Option Told) (made : List ℕ) → IsStaged at made before old → IsStaged at (made ++ piece) before new)
  pub ends : StoresBy e e' chunk drawn piece result

-- ---- the whole

-- a content that is to be written, where that began
pub record Start : Type 0 where
  pub keys : Keys
  pub at : Path
  pub told : Option Told
  pub stream : Option ByteStream
  pub coming : Option Coming

-- So far a front part of the content was stored, of chunks of which this is the last. Where it is full, more may follow; else the
-- content has ended.
pub record IsUnderway (w : Start) (e : Encoding) (chunk : List ℕ) (told : Option Told) (stream : Option ByteStream) (left : Option Coming) : Type 0 where
  pub drawn : List ℕ
  pub content : List ℕ
  pub made : List ℕ
  pub same_keys : e.keys ≡ w.keys
  pub were_drawn : Draws w.stream stream drawn
  pub gave : Gave content w.coming left
  pub fits : (rest : List ℕ) → IsNextChunk w.keys chunk rest → IsMadeFor w.keys drawn (content ++ rest) made
  pub staged : IsStaged w.at made w.told told
  pub whole : IsEncrypted w.keys drawn content made
  pub goes_on : length chunk ≡ (format_of w.keys).full_size → HasMade e drawn content made
  pub is_open : length chunk ≡ (format_of w.keys).full_size → e.is_open ≡ true
  pub size : length chunk ≤ (format_of w.keys).full_size
  pub last : length chunk < (format_of w.keys).full_size → HasEnded Whole w.coming left
