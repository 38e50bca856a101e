-- The stored names of gocryptfs, on-disk format 2, in the encrypting direction: `key` is the vault's name key, and `iv` the
-- sixteen bytes of a directory's `gocryptfs.diriv`.
use Rattle.std.specs.Prelude.{◌≡◌, ◌==◌, ◌&&◌, ℕ, ◌-◌, ◌/◌, ◌%◌, Bool, List, ◌++◌, length, take, drop, replicate, codes, nat_le, if◌then◌else◌, IsTrue, Some, None}
use Rattle.std.specs.List.{flat_map, list_all}
use Rattle.std.specs.Simd.{first_chunks}
use Rattle.std.specs.Str.{bytes_eq}
use Rattle.sha2.specs.Sha256.{sha256}
use Rattle.base64.specs.Engines.{url_safe_no_pad}
use Rattle.base64.specs.GeneralPurpose.{encode_of}
use Rattle.eme_mode.specs.Eme.{eme256}
use Rattle.json_fields.specs.Base64.{is_base64url}
use Rattle.plain_tree.specs.Names.{is_name}
use Rattle.vault_names.specs.declared.entry.Stored.{Stored}

-- PKCS#7 (RFC 5652, section 6.3): 1 to 16 bytes are added, each the number of bytes added, up to a multiple of sixteen
unfoldable pub padded_bytes : List ℕ → List ℕ
padded_bytes bytes = let added = 16 - length bytes % 16 in bytes ++ replicate added added

-- bytes as blocks of sixteen
abbrev pub blocks_of : List ℕ → List (List ℕ)
blocks_of bytes = first_chunks 16 (length bytes / 16) bytes

-- the bytes of blocks
abbrev pub bytes_of : List (List ℕ) → List ℕ
bytes_of blocks = flat_map (λ block. block) blocks

-- base64url without padding (RFC 4648, sections 3.2 and 5)
abbrev pub base64url : List ℕ → List ℕ
base64url bytes = encode_of url_safe_no_pad bytes

-- the whole encrypted text of a name: padded, by EME under the name key with the directory's bytes as the tweak, in base64url
unfoldable pub go_text : List ℕ → List ℕ → List ℕ → List ℕ
go_text key iv name = base64url (bytes_of (eme256 key iv (blocks_of (padded_bytes name))))

-- the entry's name of a text that is too long for one
unfoldable pub long_name : List ℕ → List ℕ
long_name text = codes "gocryptfs.longname." ++ base64url (sha256 text)

-- a name has the form of a long one: `gocryptfs.longname.`, and then 43 characters of base64url
abbrev pub is_long_name : List ℕ → Bool
is_long_name name = (length name == 62) && bytes_eq (take 19 name) (codes "gocryptfs.longname.") && list_all is_base64url (drop 19 name)

-- a text of at most 255 characters is the entry's name; a longer one stands in the long-name file
abbrev pub entry_of : List ℕ → Stored
entry_of text =
    if nat_le (length text) 255 then record { name = text; full = None }
    else record { name = long_name text; full = Some text }

-- the entry of a name and, where its text is too long, what its long-name file holds
unfoldable pub stored : List ℕ → List ℕ → List ℕ → Stored
stored key iv name = entry_of (go_text key iv name)

-- the text is that of a name
pub record IsTextOf (key iv name text : List ℕ) : Type 0 where
  pub named : IsTrue (is_name name)
  pub encrypts : go_text key iv name ≡ text
