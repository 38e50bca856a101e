-- Which files are of which content: a header, and the sealed chunks of the content in order.
use Rattle.std.specs.Prelude.{◌≡◌, ℕ, ◌+◌, ◌≤◌, ◌⊎◌, ◌↔◌, Bool, true, false, List, [], ◌∷◌, ◌++◌, length, replicate}
use Rattle.std.specs.List.{concat}
use Rattle.chunk_files.specs.Format.{Format, Header, stored_size}
use Rattle.chunk_files.specs.Keys.{Keys, format_of, IsHeaderOf}
use Rattle.chunk_files.specs.Reading.{Whole}
use Rattle.chunk_files.specs.Contents.{is_refused, read_file, readable}
use Rattle.chunk_files.specs.Encrypt.{IsEncrypted}

-- a chunk sealed under a nonce that isn't refused
pub record IsSealedChunk (f : Format) (header : Header) (number : ℕ) (stored chunk : List ℕ) : Type 0 where
  pub nonce : List ℕ
  pub size : length nonce ≡ f.nonce_size
  pub accepted : is_refused f nonce ≡ false
  pub is : stored ≡ f.sealed_chunk header number nonce chunk

-- a hole, which stands for a full chunk of zeros
pub record IsHole (f : Format) (stored chunk : List ℕ) : Type 0 where
  pub allowed : f.has_holes ≡ true
  pub zeros : stored ≡ replicate (stored_size f) 0
  pub plain : chunk ≡ replicate f.full_size 0

-- the stored chunk of this number is of this chunk
abbrev pub IsStored : Format → Header → ℕ → List ℕ → List ℕ → Type 0
IsStored f header number stored chunk = IsHole f stored chunk ⊎ IsSealedChunk f header number stored chunk

-- a chunk is full, or is the last one and no longer
abbrev pub IsFullOrLast : Format → List ℕ → List (List ℕ) → Type 0
IsFullOrLast f chunk behind = (length chunk ≡ f.full_size) ⊎ ((length chunk ≤ f.full_size) × (behind ≡ []))

-- some bytes begin with the stored chunk of this chunk, and the rest is left
pub record BeginsWithChunk (f : Format) (header : Header) (number : ℕ) (bytes chunk rest : List ℕ) : Type 0 where
  pub stored : List ℕ
  pub parts : bytes ≡ stored ++ rest
  pub of : IsStored f header number stored chunk

-- these chunks from this number on, stored one after the other
abbrev pub AreStored : Format → Header → ℕ → List ℕ → List (List ℕ) → Type 0
AreStored f header number bytes [] = bytes ≡ []
AreStored f header number bytes (chunk ∷ chunks) =
    IsFullOrLast f chunk chunks
    × ((rest : List ℕ) × BeginsWithChunk f header number bytes chunk rest × AreStored f header (number + 1) rest chunks)

-- a header, and the content's chunks behind it
pub record HasChunks (keys : Keys) (bytes content : List ℕ) : Type 0 where
  pub header : Header
  pub head : List ℕ
  pub is_header : IsHeaderOf keys header head
  pub behind : List ℕ
  pub parts : bytes ≡ head ++ behind
  pub chunks : List (List ℕ)
  pub of : AreStored (format_of keys) header 0 behind chunks
  pub joined : content ≡ concat chunks

-- no bytes stand for no content
pub record IsEmptyFile (f : Format) (bytes content : List ℕ) : Type 0 where
  pub allowed : f.empty_has_no_header ≡ true
  pub stored : bytes ≡ []
  pub plain : content ≡ []

-- these bytes are a file of this content
abbrev pub IsFileOf : Keys → List ℕ → List ℕ → Type 0
IsFileOf keys bytes content = IsEmptyFile (format_of keys) bytes content ⊎ HasChunks keys bytes content

-- reading these bytes meets no fault and gives this content
pub record Gives (keys : Keys) (bytes content : List ℕ) : Type 0 where
  pub whole : (readable keys bytes).ending ≡ Whole
  pub joined : content ≡ concat (readable keys bytes).chunks

-- a file is of a content exactly where reading it ends without a fault and gives that content
abbrev pub FilesAreWhatTheyGive : Type 0
FilesAreWhatTheyGive = (keys : Keys) (bytes content : List ℕ) → IsFileOf keys bytes content ↔ Gives keys bytes content

-- what is encrypted is a file of its content
abbrev pub EncryptedFilesAreFiles : Type 0
EncryptedFilesAreFiles = (keys : Keys) (drawn content file : List ℕ) → IsEncrypted keys drawn content file → IsFileOf keys file content

-- bytes behind which a file goes on are read as no whole file
abbrev pub WholeFilesEnd : Type 0
WholeFilesEnd = (keys : Keys) (bytes : List ℕ) (goes_on : Bool) → (read_file keys bytes goes_on).ending ≡ Whole → goes_on ≡ false
