-- GCM-AE: NIST SP 800-38D, section 7.1, over a block cipher that is given as the image of a block.
use Rattle.std.specs.Prelude.{◌≡◌, ℕ, ◌+◌, ◌*◌, ◌^◌, List, [], ◌∷◌, ◌++◌, length, replicate, ◌==◌, if◌then◌else◌}
use Rattle.aes_lanes.specs.Cipher.{aes256}
use Rattle.aes_lanes.specs.Counter.{ctr32, increment32}
use Rattle.gcm_mode.specs.Hash.{block_number, block_bytes, ghash, blocks_of}

-- the hash subkey H: the image of the zero block
unfoldable pub hash_subkey : (List ℕ → List ℕ) → ℕ
hash_subkey image = block_number (image (replicate 16 0))

-- the pre-counter block J0 of an initialization vector: the vector and the number 1, or GHASH of the
-- vector and its length in bits
unfoldable pub pre_counter : (List ℕ → List ℕ) → List ℕ → List ℕ
pre_counter image iv =
    if length iv == 12
    then iv ++ 0 ∷ 0 ∷ 0 ∷ 1 ∷ []
    else block_bytes (ghash (hash_subkey image) (blocks_of iv ++ 8 * length iv ∷ []))

-- the block of two lengths in bits, of 64 bits each
unfoldable pub lengths_block : List ℕ → List ℕ → ℕ
lengths_block ad text = 8 * length ad * 2 ^ 64 + 8 * length text

-- the block S: GHASH of the associated data, the encrypted text and their lengths
unfoldable pub hashed : (List ℕ → List ℕ) → List ℕ → List ℕ → ℕ
hashed image ad text = ghash (hash_subkey image) (blocks_of ad ++ blocks_of text ++ lengths_block ad text ∷ [])

-- the tag T of an encrypted text: S, encrypted from J0 on
unfoldable pub tag_of : (List ℕ → List ℕ) → List ℕ → List ℕ → List ℕ → List ℕ
tag_of image iv ad text = ctr32 image (pre_counter image iv) (block_bytes (hashed image ad text))

-- the encrypted text C: the plain text, encrypted from the block after J0 on
unfoldable pub encrypted : (List ℕ → List ℕ) → List ℕ → List ℕ → List ℕ
encrypted image iv plain = ctr32 image (increment32 (pre_counter image iv)) plain

-- an encrypted text and its tag
pub record Sealed : Type 0 where
  pub text : List ℕ
  pub tag : List ℕ

-- GCM-AE of a plain text
unfoldable pub sealed : (List ℕ → List ℕ) → List ℕ → List ℕ → List ℕ → Sealed
sealed image iv ad plain =
    record { text = encrypted image iv plain; tag = tag_of image iv ad (encrypted image iv plain) }

-- the plain text is the one that an encrypted text and its tag open to: the one that seals to them
abbrev pub Opens : (List ℕ → List ℕ) → List ℕ → List ℕ → Sealed → List ℕ → Type 0
Opens image iv ad s plain = sealed image iv ad plain ≡ s

-- no plain text seals to an encrypted text and its tag
abbrev pub OpensToNothing : (List ℕ → List ℕ) → List ℕ → List ℕ → Sealed → Type 0
OpensToNothing image iv ad s = (plain : List ℕ) → ¬ Opens image iv ad s plain

-- under AES-256, an encrypted text and its tag open to one plain text at most
abbrev pub OpensToOneText : Type 0
OpensToOneText =
    (key iv ad plain other : List ℕ) (s : Sealed)
    → Opens (aes256 key) iv ad s plain
    → Opens (aes256 key) iv ad s other
    → plain ≡ other
