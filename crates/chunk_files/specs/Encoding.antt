-- What an encoder has made of a content so far.
use Rattle.std.specs.Prelude.{◌≡◌, ℕ, ◌+◌, ◌*◌, ◌&&◌, not, Bool, false, List, [], ◌++◌, length, take, Option}
use Rattle.port_model.specs.Draws.{ByteStream, Draws}
use Rattle.chunk_files.specs.Format.{Header}
use Rattle.chunk_files.specs.Keys.{Keys, format_of}
use Rattle.chunk_files.specs.Pieces.{pieces}
use Rattle.chunk_files.specs.Encrypt.{AreAccepted, IsEncrypted, encrypt, has_no_bytes, header_and_chunks}

-- an encoder: the keys, what the file's header tells, and how many chunks were made
pub record Encoding : Type 0 where
  pub keys : Keys
  pub header : Header
  pub number : ℕ
  -- whether a file was begun that may have chunks, which one that was begun as empty has not
  pub is_open : Bool

-- an encoder of which no file was begun
abbrev pub unbegun : Keys → Header → Encoding
unbegun keys header = record { keys = keys; header = header; number = 0; is_open = false }

-- an encoder of which a file was begun, as empty or not, and that made no chunk yet
abbrev pub begun : Keys → Bool → Header → Encoding
begun keys empty header = record { keys = keys; header = header; number = 0; is_open = not empty }

-- one chunk later
abbrev pub one_chunk_later : Encoding → Encoding
one_chunk_later e = record e { number = e.number + 1 }

-- this was made of the content so far, whose chunks are all full, under the bytes drawn so far
pub record HasMade (e : Encoding) (drawn content file : List ℕ) : Type 0 where
  pub drawn_so_far : length drawn ≡ (format_of e.keys).header_draw + (format_of e.keys).nonce_size * e.number
  pub accepted : AreAccepted (format_of e.keys) drawn
  pub header : e.header ≡ (format_of e.keys).new_told (take (format_of e.keys).header_draw drawn)
  pub full : length content ≡ (format_of e.keys).full_size * e.number
  pub is : file ≡ header_and_chunks (format_of e.keys) drawn (pieces (format_of e.keys).full_size content)

-- a file was begun: these bytes are the header made under the bytes drawn, and the whole file of no content where
-- that has a header
pub record HasBegun (keys : Keys) (left left' : Option ByteStream) (e : Encoding) (file : List ℕ) : Type 0 where
  pub drawn : List ℕ
  pub were_drawn : Draws left left' drawn
  pub made : HasMade e drawn [] file
  pub whole : (format_of keys).empty_has_no_header ≡ false → IsEncrypted keys drawn [] file

-- whether a file is begun without a header
abbrev pub begins_bare : Keys → Bool → Bool
begins_bare keys empty = empty && (format_of keys).empty_has_no_header

-- The next chunk stored, under the nonce at its front, ends the file of the content with that chunk. Where
-- the chunk is full, more may follow.
abbrev pub GoesOn : Encoding → Encoding → List ℕ → List ℕ → Type 0
GoesOn e e' chunk stored =
    (drawn content file : List ℕ) → HasMade e drawn content file
    → IsEncrypted e.keys (drawn ++ take (format_of e.keys).nonce_size stored) (content ++ chunk) (file ++ stored)
    × (length chunk ≡ (format_of e.keys).full_size
    → HasMade e' (drawn ++ take (format_of e.keys).nonce_size stored) (content ++ chunk) (file ++ stored))

-- some bytes stand at the front of others
pub record IsFrontOf (front whole : List ℕ) : Type 0 where
  pub behind : List ℕ
  pub is : whole ≡ front ++ behind

-- more bytes drawn give the same file or a longer one
abbrev pub MoreDrawnGiveMore : Type 0
MoreDrawnGiveMore = (keys : Keys) (drawn more content : List ℕ) → IsFrontOf (encrypt keys drawn content) (encrypt keys (drawn ++ more) content)

-- what was made so far is the front of the file of any content that goes on so
abbrev pub MadeIsAFront : Type 0
MadeIsAFront = (e : Encoding) (drawn more content rest file : List ℕ) → HasMade e drawn content file
    → has_no_bytes (format_of e.keys) (content ++ rest) ≡ false
    → IsFrontOf file (encrypt e.keys (drawn ++ more) (content ++ rest))
