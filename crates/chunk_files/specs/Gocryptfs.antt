-- Content files of gocryptfs, on-disk format 2, with GCM contents.
--
-- An empty file is the empty content. Any other file begins with a header of 18 bytes: the format's number
-- 2 as two bytes, big-endian, and a file id of 16 bytes, which aren't all zero. Blocks of 4,128 bytes
-- follow, the last perhaps shorter: a nonce of 16 bytes, which aren't all zero, the encrypted text, and a
-- tag of 16 bytes, by GCM under the content key. The associated data are the block's number, from 0, as
-- eight bytes, big-endian, and the file id. A block of 4,128 zero bytes is a hole: it stands for 4,096
-- zero bytes. Sixteen bytes are drawn for the file id, and then sixteen for the nonce of each block.
use Rattle.std.specs.Prelude.{◌≡◌, ℕ, ◌==◌, not, true, false, List, [], ◌∷◌, length, take, drop, if◌then◌else◌, Result, Ok, Err}
use Rattle.std.specs.Int.{from_be_bytes, w16}
use Rattle.chunk_files.specs.declared.fault.ChunkFault.{ChunkFault}
use Rattle.chunk_files.specs.declared.fault.ChunkFault.TheVariants.{HeaderVersion, ZeroId}
use Rattle.chunk_files.specs.Zeros.{is_all_zero}
use Rattle.chunk_files.specs.Format.{Format, Header}
use Rattle.chunk_files.specs.Sealed.{sealed_text, opened_text, chunk_data}

-- the number of the format that a header names
abbrev pub header_version : List ℕ → ℕ
header_version header = from_be_bytes w16 (take 2 header)

abbrev pub file_id : List ℕ → List ℕ
file_id header = drop 2 header

-- what the header of the file of this id tells
abbrev pub go_header : List ℕ → List ℕ → Header
go_header key id = record { key = key; file = id }

-- the header of the file of this id: the format's number 2 and the id
abbrev pub go_header_of : List ℕ → List ℕ
go_header_of id = 0 ∷ 2 ∷ id

-- what a whole header tells, or its first fault
unfoldable pub read_go_header : List ℕ → List ℕ → Result Header ChunkFault
read_go_header key header =
    if not (header_version header == 2) then Err (HeaderVersion (header_version header))
    else if is_all_zero (file_id header) then Err ZeroId
    else Ok (go_header key (file_id header))

-- these bytes are the header of a file with an id that isn't all zero, and tell this
pub record IsGoHeader (key : List ℕ) (header : Header) (bytes : List ℕ) : Type 0 where
  pub id : List ℕ
  pub sixteen : length id ≡ 16
  pub some_bit : is_all_zero id ≡ false
  pub is : bytes ≡ go_header_of id
  pub tells : header ≡ go_header key id

abbrev pub go_format : List ℕ → Format
go_format key = record {
  header_size = 18;
  nonce_size = 16;
  seal_size = 32;
  full_size = 4096;
  read_header = read_go_header key;
  sealed_chunk = λ header number nonce chunk. sealed_text header.key (chunk_data header number) nonce chunk;
  opened_chunk = λ header number stored. opened_text header.key (chunk_data header number) 16 stored;
  header_draw = 16;
  header_draws = 16 ∷ [];
  new_header = go_header_of;
  new_told = go_header key;
  refuses_zeros = true;
  has_holes = true;
  empty_has_no_header = true;
}
