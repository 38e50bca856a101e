-- HMAC (RFC 2104), over any hash of byte lists and its block length B in bytes.
use Rattle.std.specs.Prelude.{ℕ, ◌-◌, List, ◌++◌, length, map, replicate, bit_xor, nat_lt, if◌then◌else◌}
use Rattle.sha2.specs.Sha256.{sha256}
use Rattle.sha2.specs.Sha512.{sha384, sha512}

-- each byte xored with the same byte
abbrev pub xored_with : ℕ → List ℕ → List ℕ
xored_with pad bytes = map (λ b. bit_xor b pad) bytes

-- zeros appended to the end up to the block length (section 2, step 1)
abbrev pub zero_padded : ℕ → List ℕ → List ℕ
zero_padded block bytes = bytes ++ replicate (block - length bytes) 0

-- the key K of one block: a longer key is hashed first (section 2)
abbrev pub key_block : (List ℕ → List ℕ) → ℕ → List ℕ → List ℕ
key_block hash block key = zero_padded block (if nat_lt block (length key) then hash key else key)

-- H(K xor opad, H(K xor ipad, text)) for a key K of one block, with ipad the byte 0x36 and opad the
-- byte 0x5C (section 2)
abbrev pub hmac_of_block : (List ℕ → List ℕ) → List ℕ → List ℕ → List ℕ
hmac_of_block hash block_key text =
    hash (xored_with 0x5C block_key ++ hash (xored_with 0x36 block_key ++ text))

-- the HMAC of a text under a key of any length
abbrev pub hmac : (List ℕ → List ℕ) → ℕ → List ℕ → List ℕ → List ℕ
hmac hash block key text = hmac_of_block hash (key_block hash block key) text

-- HMAC-SHA-256 of a text under a key
unfoldable pub hmac_sha256 : List ℕ → List ℕ → List ℕ
hmac_sha256 key text = hmac sha256 64 key text

-- HMAC-SHA-384 of a text under a key
unfoldable pub hmac_sha384 : List ℕ → List ℕ → List ℕ
hmac_sha384 key text = hmac sha384 128 key text

-- HMAC-SHA-512 of a text under a key
unfoldable pub hmac_sha512 : List ℕ → List ℕ → List ℕ
hmac_sha512 key text = hmac sha512 128 key text
