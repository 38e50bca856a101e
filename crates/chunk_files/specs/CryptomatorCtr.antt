-- Content files of Cryptomator, vault format 8, with the cipher combination SIV_CTRMAC.
--
-- A file begins with a header of 88 bytes: a nonce of 16 bytes, the text encrypted in counter mode from that nonce under the
-- encryption key, and a tag of 32 bytes, the HMAC-SHA-256 of both under the MAC key. The plain text is that of SIV_GCM: eight
-- reserved bytes, which are written as 0xFF and not looked at, and a content key of 32 bytes. Chunks of 32,816 bytes follow, the
-- last perhaps shorter: a nonce of 16 bytes, the text encrypted from it under the content key, and a tag of 32 bytes, the
-- HMAC-SHA-256 under the MAC key of the header's nonce, the chunk's number, from 0, as eight bytes, big-endian, the chunk's nonce
-- and the encrypted text. Sixteen bytes are drawn for the header's nonce, 32 for the content key, and then sixteen for the nonce of
-- each chunk.
use Rattle.std.specs.Prelude.{◌≡◌, ℕ, false, List, [], ◌∷◌, ◌++◌, length, take, drop, Result}
use Rattle.std.specs.Int.{to_be_bytes, w64}
use Rattle.chunk_files.specs.declared.fault.ChunkFault.{ChunkFault}
use Rattle.chunk_files.specs.Format.{Format, Header}
use Rattle.chunk_files.specs.CryptomatorGcm.{cm_header, new_plain, told_by_plain}
use Rattle.chunk_files.specs.Tagged.{tagged_text, opened_tagged}

-- what a whole header tells, or that its tag is wrong
unfoldable pub read_ctr_header : List ℕ → List ℕ → List ℕ → Result Header ChunkFault
read_ctr_header key mac header = told_by_plain (take 16 header) (opened_tagged key mac [] header)

-- these bytes are a header that seals eight reserved bytes and a content key, and tell this
pub record IsCtrHeader (key mac : List ℕ) (header : Header) (bytes : List ℕ) : Type 0 where
  pub nonce : List ℕ
  pub sixteen : length nonce ≡ 16
  pub plain : List ℕ
  pub forty : length plain ≡ 40
  pub is : bytes ≡ tagged_text key mac [] nonce plain
  pub tells : header ≡ cm_header nonce plain

-- the associated data of the chunk of this number: the header's nonce, and the number as eight bytes, big-endian
abbrev pub ctr_chunk_data : Header → ℕ → List ℕ
ctr_chunk_data header number = header.file ++ to_be_bytes w64 number

abbrev pub cm_ctr_format : List ℕ → List ℕ → Format
cm_ctr_format key mac = record {
  header_size = 88;
  nonce_size = 16;
  seal_size = 48;
  full_size = 32768;
  read_header = read_ctr_header key mac;
  sealed_chunk = λ header number nonce chunk. tagged_text header.key mac (ctr_chunk_data header number) nonce chunk;
  opened_chunk = λ header number stored. opened_tagged header.key mac (ctr_chunk_data header number) stored;
  header_draw = 48;
  header_draws = 16 ∷ 32 ∷ [];
  new_header = λ drawn. tagged_text key mac [] (take 16 drawn) (new_plain (drop 16 drawn));
  new_told = λ drawn. cm_header (take 16 drawn) (new_plain (drop 16 drawn));
  refuses_zeros = false;
  has_holes = false;
  empty_has_no_header = false;
}
