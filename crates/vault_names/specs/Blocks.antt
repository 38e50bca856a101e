-- The blocks behind a text (private contracts only).
use Rattle.std.specs.Prelude.{◌≡◌, ℕ, ◌%◌, ◌<◌, ◌≤◌, List, length, IsTrue}
use Rattle.std.specs.List.{All}
use Rattle.aes_lanes.specs.Bytes.{IsBlock}
use Rattle.plain_tree.specs.Names.{is_name}
use Rattle.vault_names.specs.Gocryptfs.{base64url, bytes_of, padded_bytes}

-- 1 to 128 blocks, and the text is the base64url of their bytes
pub record AreBlocksOf (text : List ℕ) (blocks : List (List ℕ)) : Type 0 where
  pub some : 0 < length blocks
  pub most : length blocks ≤ 128
  pub each : All IsBlock blocks
  pub encoded : text ≡ base64url (bytes_of blocks)

-- so many bytes are 1 to 128 blocks
pub record IsSizeOfBlocks (size : ℕ) : Type 0 where
  pub some : 0 < size
  pub most : size ≤ 2048
  pub whole : size % 16 ≡ 0

-- the bytes are a name with its padding
pub record IsPaddedName (name bytes : List ℕ) : Type 0 where
  pub named : IsTrue (is_name name)
  pub padded : padded_bytes name ≡ bytes
