-- The keys of a Cryptomator vault.
use Rattle.std.specs.Prelude.{ℕ, List, if◌then◌else◌, encode_utf8_all}
use Rattle.std.specs.Str.{is_utf8, chars}
use Rattle.unicode_normalization.specs.Forms.{nfc}
use Rattle.aes_lanes.specs.Cipher.{aes256}
use Rattle.kdf_suite.specs.Scrypt.{scrypt_key}
use Rattle.kdf_suite.specs.ScryptCost.{Cost}
use Rattle.key_wrap.specs.Wrap.{IsKey, Unwraps}
use Rattle.cryptomator_conf.specs.declared.conf.MasterFile.{MasterFile}
use Rattle.vault_values.specs.declared.keys.CmKeys.{CmKeys}

-- a passphrase as it is used: in Unicode's normalization form C where it is UTF-8, and else as its bytes
unfoldable pub passphrase : List ℕ → List ℕ
passphrase pass = if is_utf8 pass then encode_utf8_all (nfc (chars pass)) else pass

-- the key of 32 bytes that both keys are wrapped under, from the passphrase
unfoldable pub wrapping_key : List ℕ → List ℕ → Cost → List ℕ
wrapping_key pass salt cost = scrypt_key (passphrase pass) salt cost.n cost.r cost.p 32

-- the keys are those that, wrapped under the passphrase's key, are what the file has
pub record Unlocks (file : MasterFile) (pass : List ℕ) (keys : CmKeys) : Type 0 where
  pub enc : Unwraps (aes256 (wrapping_key pass file.salt file.cost)) file.primary keys.enc
  pub mac : Unwraps (aes256 (wrapping_key pass file.salt file.cost)) file.hmac keys.mac

-- two keys of 32 bytes
pub record AreKeys (keys : CmKeys) : Type 0 where
  pub enc : IsKey keys.enc
  pub mac : IsKey keys.mac
