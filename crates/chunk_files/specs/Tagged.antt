-- A text in counter mode, stored as its nonce, the encrypted text and a tag of 32 bytes, which is the HMAC-SHA-256 of the associated
-- data, the nonce and the encrypted text. The nonce is the first counter block, which counts modulo 2^128.
use Rattle.std.specs.Prelude.{ℕ, ◌-◌, Bool, List, ◌++◌, length, take, drop, if◌then◌else◌, Option, None, Some}
use Rattle.std.specs.Str.{bytes_eq}
use Rattle.aes_lanes.specs.Cipher.{aes256}
use Rattle.aes_lanes.specs.Counter.{ctr128}
use Rattle.kdf_suite.specs.Hmac.{hmac_sha256}

-- a nonce, and a text encrypted from it
unfoldable pub streamed_text : List ℕ → List ℕ → List ℕ → List ℕ
streamed_text key nonce text = nonce ++ ctr128 (aes256 key) nonce text

-- a text under a key of counter mode and a key of tags, with associated data and a nonce
unfoldable pub tagged_text : List ℕ → List ℕ → List ℕ → List ℕ → List ℕ → List ℕ
tagged_text key mac associated nonce text =
    streamed_text key nonce text ++ hmac_sha256 mac (associated ++ streamed_text key nonce text)

-- the parts of what is stored: the nonce and the encrypted text, and the tag
abbrev pub before_tag : List ℕ → List ℕ
before_tag stored = take (length stored - 32) stored

abbrev pub long_tag : List ℕ → List ℕ
long_tag stored = drop (length stored - 32) stored

-- whether the tag is that of the bytes before it with these associated data
unfoldable pub is_long_tag_right : List ℕ → List ℕ → List ℕ → Bool
is_long_tag_right mac associated stored = bytes_eq (long_tag stored) (hmac_sha256 mac (associated ++ before_tag stored))

-- the plain text (SP 800-38A, section 6.5): the text encrypted again, which decrypts it
unfoldable pub restored_text : List ℕ → List ℕ → List ℕ
restored_text key stored = ctr128 (aes256 key) (take 16 stored) (drop 16 (before_tag stored))

-- the plain text where the tag is right
unfoldable pub opened_tagged : List ℕ → List ℕ → List ℕ → List ℕ → Option (List ℕ)
opened_tagged key mac associated stored =
    if is_long_tag_right mac associated stored then Some (restored_text key stored) else None
