-- The content file that is made of a content under the bytes drawn: a header, and a sealed chunk for each
-- chunk, without holes. Bytes are drawn for the header, and then for the nonce of each chunk. Where fewer are
-- drawn, the file ends before the first part that wants more.
use Rattle.std.specs.Prelude.{◌≡◌, ℕ, ◌+◌, ◌*◌, ◌==◌, ◌&&◌, nat_lt, Bool, false, List, [], ◌∷◌, ◌++◌, length, take, drop, if◌then◌else◌}
use Rattle.std.specs.List.{All}
use Rattle.chunk_files.specs.Format.{Format, Header}
use Rattle.chunk_files.specs.Keys.{Keys, format_of}
use Rattle.chunk_files.specs.Pieces.{pieces}
use Rattle.chunk_files.specs.Contents.{is_refused}

-- these chunks sealed, from this number on
unfoldable pub sealed_chunks : Format → Header → ℕ → List ℕ → List (List ℕ) → List ℕ
sealed_chunks f header number drawn [] = []
sealed_chunks f header number drawn (chunk ∷ chunks) =
    if nat_lt (length drawn) f.nonce_size then []
    else f.sealed_chunk header number (take f.nonce_size drawn) chunk
    ++ sealed_chunks f header (number + 1) (drop f.nonce_size drawn) chunks

-- a header, and these chunks sealed
unfoldable pub header_and_chunks : Format → List ℕ → List (List ℕ) → List ℕ
header_and_chunks f drawn chunks =
    if nat_lt (length drawn) f.header_draw then []
    else f.new_header (take f.header_draw drawn)
    ++ sealed_chunks f (f.new_told (take f.header_draw drawn)) 0 (drop f.header_draw drawn) chunks

-- whether a content's file has no bytes at all
abbrev pub has_no_bytes : Format → List ℕ → Bool
has_no_bytes f content = (length content == 0) && f.empty_has_no_header

unfoldable pub encrypt_by : Format → List ℕ → List ℕ → List ℕ
encrypt_by f drawn content =
    if has_no_bytes f content then [] else header_and_chunks f drawn (pieces f.full_size content)

-- the file of a content under the bytes drawn
abbrev pub encrypt : Keys → List ℕ → List ℕ → List ℕ
encrypt keys drawn content = encrypt_by (format_of keys) drawn content

-- how many bytes the file of a content draws
abbrev pub draws : Format → List ℕ → ℕ
draws f content =
    if has_no_bytes f content then 0 else f.header_draw + f.nonce_size * length (pieces f.full_size content)

-- neither the id nor a nonce drawn is of zeros, where these are refused
pub record AreAccepted (f : Format) (drawn : List ℕ) : Type 0 where
  pub id : is_refused f (take f.header_draw drawn) ≡ false
  pub nonces : All (λ nonce. is_refused f nonce ≡ false) (pieces f.nonce_size (drop f.header_draw drawn))

-- this is the file of the content under these bytes, which are as many as it draws
pub record IsEncrypted (keys : Keys) (drawn content file : List ℕ) : Type 0 where
  pub enough : length drawn ≡ draws (format_of keys) content
  pub accepted : has_no_bytes (format_of keys) content ≡ false → AreAccepted (format_of keys) drawn
  pub is : file ≡ encrypt keys drawn content
