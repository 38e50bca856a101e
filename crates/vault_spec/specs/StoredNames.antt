-- Laws that are kept as definitions: what the laws of a vault take from those of stored names.
use Rattle.std.specs.Prelude.{◌≡◌, ◌+◌, ◌*◌, ◌/◌, ℕ, List, length, take, drop, codes, IsTrue}
use Rattle.std.specs.List.{list_all}
use Rattle.aes_lanes.specs.Bytes.{AreBytes, IsBlock}
use Rattle.json_fields.specs.Base64.{is_base64url}
use Rattle.plain_tree.specs.Names.{is_name}
use Rattle.vault_names.specs.Base32.{is_base32}
use Rattle.vault_names.specs.Cryptomator.{cm_folder_of, cm_long_name, cm_text, IsCmTextOf, IsPlainUpTo}
use Rattle.vault_names.specs.Gocryptfs.{go_text, long_name, IsTextOf}
use Rattle.vault_values.specs.declared.keys.CmKeys.{CmKeys}

-- gocryptfs: a text is that of one name, and of which characters texts and long names are
pub record GoTexts : Type 0 where
  pub one : (key iv text name other : List ℕ) → IsBlock iv → IsTextOf key iv name text → IsTextOf key iv other text → name ≡ other
  pub plain : (key iv name : List ℕ) → IsBlock iv → IsTrue (is_name name) → IsTrue (list_all is_base64url (go_text key iv name))
  pub long_size : (text : List ℕ) → length (long_name text) ≡ 62
  pub long_prefix : (text : List ℕ) → take 19 (long_name text) ≡ codes "gocryptfs.longname."
  pub long_rest : (text : List ℕ) → IsTrue (list_all is_base64url (drop 19 (long_name text)))

-- Cryptomator, under a vault's keys: the same, their sizes, and those of a content folder's two parts and their characters
pub record CmTexts (keys : CmKeys) : Type 0 where
  pub one : (id name other text : List ℕ) → AreBytes id → IsCmTextOf keys id name text → IsCmTextOf keys id other text → name ≡ other
  pub plain : (id name : List ℕ) → AreBytes id → IsTrue (is_name name) → IsPlainUpTo (codes ".c9r") (cm_text keys id name)
  pub size : (id name : List ℕ) → length (cm_text keys id name) ≡ 4 * ((length name + 16 + 2) / 3) + 4
  pub long_plain : (text : List ℕ) → IsPlainUpTo (codes ".c9s") (cm_long_name text)
  pub long_size : (text : List ℕ) → length (cm_long_name text) ≡ 32
  pub folder_first : (id : List ℕ) → length (take 2 (cm_folder_of keys id)) ≡ 2
  pub folder_rest : (id : List ℕ) → length (drop 2 (cm_folder_of keys id)) ≡ 30
  pub folder_plain : (id : List ℕ) → IsTrue (list_all is_base32 (cm_folder_of keys id))
