-- The stored names of Cryptomator, vault format 8, in the encrypting direction: `id` is the id of a directory, of no bytes
-- for the root.
use Rattle.std.specs.Prelude.{◌≡◌, ◌&&◌, ◌||◌, ◌==◌, ℕ, Bool, List, [], ◌∷◌, ◌++◌, length, take, drop, codes, nat_le, if◌then◌else◌, IsTrue, Some, None}
use Rattle.std.specs.List.{list_all}
use Rattle.std.specs.Str.{bytes_eq}
use Rattle.aes_lanes.specs.Cipher.{aes256}
use Rattle.base64.specs.Engines.{url_safe}
use Rattle.base64.specs.GeneralPurpose.{encode_of}
use Rattle.vault_values.specs.declared.keys.CmKeys.{CmKeys}
use Rattle.json_fields.specs.Base64.{is_base64url}
use Rattle.sha1.specs.Sha1.{sha1}
use Rattle.siv_mode.specs.Keys.{Keys}
use Rattle.siv_mode.specs.Siv.{siv_encrypt}
use Rattle.plain_tree.specs.Names.{is_name}
use Rattle.vault_names.specs.declared.entry.Stored.{Stored}
use Rattle.vault_names.specs.Base32.{base32}

-- a vault's two keys, as SIV has them
abbrev pub keys_of : Keys (List ℕ) → CmKeys
keys_of keys = record { enc = keys.ctr; mac = keys.mac }

-- SIV under a vault's keys: S2V under the MAC key, and counter mode under the encryption key
abbrev pub siv_under : CmKeys → List (List ℕ) → List ℕ → List ℕ
siv_under keys strings text = siv_encrypt (aes256 keys.mac) (aes256 keys.enc) strings text

-- base64url with padding (RFC 4648, section 5)
abbrev pub padded_base64url : List ℕ → List ℕ
padded_base64url bytes = encode_of url_safe bytes

-- the whole encrypted text of a name, with the directory's id as associated string
unfoldable pub cm_text : CmKeys → List ℕ → List ℕ → List ℕ
cm_text keys id name = padded_base64url (siv_under keys (id ∷ []) name) ++ codes ".c9r"

-- the entry's name of a text that is too long for one
unfoldable pub cm_long_name : List ℕ → List ℕ
cm_long_name text = padded_base64url (sha1 text) ++ codes ".c9s"

-- a name has the form of a long one: 27 characters of base64url, and then `=.c9s`
abbrev pub is_cm_long_name : List ℕ → Bool
is_cm_long_name name = (length name == 32) && list_all is_base64url (take 27 name) && bytes_eq (drop 27 name) (codes "=.c9s")

-- a text of at most the threshold's characters is the entry's name; a longer one stands in a file of the entry
abbrev pub cm_entry_of : ℕ → List ℕ → Stored
cm_entry_of threshold text =
    if nat_le (length text) threshold then record { name = text; full = None }
    else record { name = cm_long_name text; full = Some text }

-- the entry of a name and, where its text is too long, what its long-name file holds
unfoldable pub cm_stored : CmKeys → ℕ → List ℕ → List ℕ → Stored
cm_stored keys threshold id name = cm_entry_of threshold (cm_text keys id name)

-- the folder of a directory's entries, of 32 characters: the base32 of the SHA-1 of its id, encrypted without associated string
unfoldable pub cm_folder_of : CmKeys → List ℕ → List ℕ
cm_folder_of keys id = base32 (sha1 (siv_under keys [] id))

-- the text is that of a name
pub record IsCmTextOf (keys : CmKeys) (id name text : List ℕ) : Type 0 where
  pub named : IsTrue (is_name name)
  pub encrypts : cm_text keys id name ≡ text

-- a digit, one of `a` to `f`, or `-`
abbrev pub is_id_character : ℕ → Bool
is_id_character c = (nat_le 48 c && nat_le c 57) || (nat_le 97 c && nat_le c 102) || c == 45

-- a letter, a digit, `-`, `_` or `=`
abbrev pub is_padded_base64url : ℕ → Bool
is_padded_base64url c = is_base64url c || c == 61

-- the text is of such characters, and then this ending
pub record IsPlainUpTo (ending text : List ℕ) : Type 0 where
  pub front : List ℕ
  pub plain : IsTrue (list_all is_padded_base64url front)
  pub ended : text ≡ front ++ ending
