-- A text sealed by GCM and stored as its nonce, the encrypted text and a tag of sixteen bytes.
use Rattle.std.specs.Prelude.{ℕ, ◌+◌, ◌-◌, Bool, List, ◌++◌, length, take, drop, if◌then◌else◌, Option, None, Some}
use Rattle.std.specs.Str.{bytes_eq}
use Rattle.std.specs.Int.{to_be_bytes, w64}
use Rattle.aes_lanes.specs.Cipher.{aes256}
use Rattle.gcm_mode.specs.Gcm.{encrypted, sealed, tag_of}
use Rattle.chunk_files.specs.Format.{Header}

-- a text under a key, with associated data and a nonce
unfoldable pub sealed_text : List ℕ → List ℕ → List ℕ → List ℕ → List ℕ
sealed_text key associated nonce text =
    nonce ++ (sealed (aes256 key) nonce associated text).text ++ (sealed (aes256 key) nonce associated text).tag

-- the parts of what is stored, with a nonce of n bytes
abbrev pub nonce_of : ℕ → List ℕ → List ℕ
nonce_of n stored = take n stored

abbrev pub text_of : ℕ → List ℕ → List ℕ
text_of n stored = take (length stored - (n + 16)) (drop n stored)

abbrev pub tag_in : List ℕ → List ℕ
tag_in stored = drop (length stored - 16) stored

-- whether the tag is that of the text with these associated data
unfoldable pub is_tag_right : List ℕ → List ℕ → ℕ → List ℕ → Bool
is_tag_right key associated n stored =
    bytes_eq (tag_in stored) (tag_of (aes256 key) (nonce_of n stored) associated (text_of n stored))

-- the plain text (SP 800-38D, section 7.2): the text encrypted again, which decrypts it
unfoldable pub plain_text : List ℕ → ℕ → List ℕ → List ℕ
plain_text key n stored = encrypted (aes256 key) (nonce_of n stored) (text_of n stored)

-- the plain text where the tag is right
unfoldable pub opened_text : List ℕ → List ℕ → ℕ → List ℕ → Option (List ℕ)
opened_text key associated n stored = if is_tag_right key associated n stored then Some (plain_text key n stored) else None

-- the associated data of the chunk of this number: the number as eight bytes, big-endian, and the bytes that
-- bind it to its file
abbrev pub chunk_data : Header → ℕ → List ℕ
chunk_data header number = to_be_bytes w64 number ++ header.file
