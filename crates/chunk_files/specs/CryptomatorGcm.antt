-- Content files of Cryptomator, vault format 8, with the cipher combination SIV_GCM.
--
-- A file begins with a header of 68 bytes: a nonce of 12 bytes, the encrypted text and a tag of 16 bytes, by
-- GCM under the encryption key without associated data. The plain text is eight reserved bytes, which are
-- written as 0xFF and not looked at, and a content key of 32 bytes. Chunks of 32,796 bytes follow, the last
-- perhaps shorter: a nonce of 12 bytes, the encrypted text and a tag of 16 bytes, by GCM under the content
-- key. The associated data are the chunk's number, from 0, as eight bytes, big-endian, and the header's
-- nonce. Twelve bytes are drawn for the header's nonce, 32 for the content key, and then twelve for the
-- nonce of each chunk.
use Rattle.std.specs.Prelude.{◌≡◌, ℕ, false, List, [], ◌∷◌, ◌++◌, length, take, drop, replicate, Option, None, Some, Result, Ok, Err}
use Rattle.chunk_files.specs.declared.fault.ChunkFault.{ChunkFault}
use Rattle.chunk_files.specs.declared.fault.ChunkFault.TheVariants.{HeaderTag}
use Rattle.chunk_files.specs.Format.{Format, Header}
use Rattle.chunk_files.specs.Sealed.{sealed_text, opened_text, chunk_data}

-- what a header with this nonce and plain text tells: the content key behind the reserved bytes
abbrev pub cm_header : List ℕ → List ℕ → Header
cm_header nonce plain = record { key = drop 8 plain; file = nonce }

-- what a header tells whose plain text is this, or that its tag is wrong
abbrev pub told_by_plain : List ℕ → Option (List ℕ) → Result Header ChunkFault
told_by_plain nonce (Some plain) = Ok (cm_header nonce plain)
told_by_plain nonce None = Err HeaderTag

-- what a whole header tells, or that its tag is wrong
unfoldable pub read_cm_header : List ℕ → List ℕ → Result Header ChunkFault
read_cm_header key header = told_by_plain (take 12 header) (opened_text key [] 12 header)

-- these bytes are a header that seals eight reserved bytes and a content key, and tell this
pub record IsCmHeader (key : List ℕ) (header : Header) (bytes : List ℕ) : Type 0 where
  pub nonce : List ℕ
  pub twelve : length nonce ≡ 12
  pub plain : List ℕ
  pub forty : length plain ≡ 40
  pub is : bytes ≡ sealed_text key [] nonce plain
  pub tells : header ≡ cm_header nonce plain

-- the plain text of a new header: eight reserved bytes, and the content key
abbrev pub new_plain : List ℕ → List ℕ
new_plain key = replicate 8 0xFF ++ key

abbrev pub cm_gcm_format : List ℕ → Format
cm_gcm_format key = record {
  header_size = 68;
  nonce_size = 12;
  seal_size = 28;
  full_size = 32768;
  read_header = read_cm_header key;
  sealed_chunk = λ header number nonce chunk. sealed_text header.key (chunk_data header number) nonce chunk;
  opened_chunk = λ header number stored. opened_text header.key (chunk_data header number) 12 stored;
  header_draw = 44;
  header_draws = 12 ∷ 32 ∷ [];
  new_header = λ drawn. sealed_text key [] (take 12 drawn) (new_plain (drop 12 drawn));
  new_told = λ drawn. cm_header (take 12 drawn) (new_plain (drop 12 drawn));
  refuses_zeros = false;
  has_holes = false;
  empty_has_no_header = false;
}
