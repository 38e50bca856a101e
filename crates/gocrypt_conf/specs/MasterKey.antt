-- The master key of a gocryptfs vault, as its configuration keeps it.
use Rattle.std.specs.Prelude.{◌≡◌, ℕ, List, ◌++◌, take, replicate}
use Rattle.aes_lanes.specs.Cipher.{aes256}
use Rattle.gcm_mode.specs.Gcm.{Sealed, sealed}
use Rattle.gocrypt_conf.specs.declared.conf.GoConf.{GoConf}
use Rattle.vault_values.specs.declared.keys.GoKeys.{GoKeys}
use Rattle.gocrypt_conf.specs.Keys.{keys_of, unlocking_key}

-- a master key sealed under a key and a nonce: the nonce, the encrypted key and the tag, by GCM with
-- eight zero bytes as associated data
unfoldable pub sealed_key : List ℕ → List ℕ → List ℕ → List ℕ
sealed_key key nonce master =
    let s : Sealed = sealed (aes256 key) nonce (replicate 8 0) master in
    nonce ++ s.text ++ s.tag

-- the master key, sealed under the passphrase's key and the nonce that the configuration has, is what the configuration has
abbrev pub Holds : GoConf → List ℕ → List ℕ → Type 0
Holds conf pass master = sealed_key (unlocking_key pass conf.salt conf.cost) (take 16 conf.sealed) master ≡ conf.sealed

-- the keys are those of the master key that the configuration holds under the passphrase
pub record Unlocks (conf : GoConf) (pass : List ℕ) (keys : GoKeys) : Type 0 where
  pub master : List ℕ
  pub seals : Holds conf pass master
  pub gives : keys ≡ keys_of master
