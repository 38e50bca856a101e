-- A sealed master key has 64 bytes.
use Rattle.std.proofs.Common.{◌≡◌, ℕ, List, ◌++◌, length, arith, length-append}
use Rattle.aes_lanes.specs.Cipher.{aes256}
use Rattle.aes_lanes.proofs.Bytes.{bytes-append}
use Rattle.base64.specs.GeneralPurpose.{IsBytes}
use Rattle.gcm_mode.specs.Gcm.{Sealed, sealed}
use Rattle.gocrypt_conf.specs.MasterKey.{sealed_key}
use Rattle.gocrypt_conf.proofs.Sealing.{zeros, HasTags}

-- sealed texts are as long as the plain ones, and of bytes
pub record HasTexts : Type 0 where
  pub text : (key iv ad plain : List ℕ) → IsBytes iv → IsBytes plain → IsBytes (sealed (aes256 key) iv ad plain).text
  pub as_long : (key iv ad plain : List ℕ) → length (sealed (aes256 key) iv ad plain).text ≡ length plain
  pub tag : (key iv ad plain : List ℕ) → IsBytes iv → IsBytes (sealed (aes256 key) iv ad plain).tag

pub length-sealed_key : HasTags → HasTexts → (key nonce master : List ℕ) → length nonce ≡ 16 → length master ≡ 32 → length (sealed_key key nonce master) ≡ 64
unfolding sealed_key
length-sealed_key tags texts key nonce master sixteen long =
    let s : Sealed = sealed (aes256 key) nonce zeros master in
    omega (arith, length-append (nonce ++ s.text) s.tag, length-append nonce s.text, texts.as_long key nonce zeros master, tags key nonce zeros master, sixteen, long)

pub bytes-sealed_key : HasTexts → (key nonce master : List ℕ) → IsBytes nonce → IsBytes master → IsBytes (sealed_key key nonce master)
unfolding sealed_key
bytes-sealed_key texts key nonce master nonce_bytes master_bytes =
    bytes-append _ _ (bytes-append nonce _ nonce_bytes (texts.text key nonce zeros master nonce_bytes master_bytes)) (texts.tag key nonce zeros master nonce_bytes)
