-- HMAC (RFC 2104, section 2) of a text that comes in pieces.
use Rattle.std.specs.Prelude.{ℕ, List, ◌++◌}
use Rattle.sha2.specs.Sha256.{sha256}
use Rattle.sha2.specs.Hashers.{Holds256}
use Rattle.sha2.specs.declared.Sha256.{Sha256}
use Rattle.kdf_suite.specs.Hmac.{key_block, xored_with}

-- the two hashes of an HMAC that isn't ended: H(K xor ipad, text so far) and H(K xor opad)
pub record TwoHashes : Type 0 where
  pub inner : Sha256
  pub outer : Sha256

-- under this key of one block the pieces so far make this text
pub record HoldsUnder (hashes : TwoHashes) (block_key text : List ℕ) : Type 0 where
  pub inner : Holds256 hashes.inner (xored_with 0x36 block_key ++ text)
  pub outer : Holds256 hashes.outer (xored_with 0x5C block_key)

-- under this key, of any length, the pieces so far make this text
abbrev pub HoldsText : TwoHashes → List ℕ → List ℕ → Type 0
HoldsText hashes key text = HoldsUnder hashes (key_block sha256 64 key) text
