-- The text of a configuration, of a new one and of one with another passphrase: compact JSON with its keys in byte order, and no newline.
use Rattle.std.specs.Prelude.{◌≡◌, ℕ, List, ◌++◌, length, codes, decimal}
use Rattle.base64.specs.Engines.{standard}
use Rattle.base64.specs.GeneralPurpose.{IsBytes, encode_of}
use Rattle.kdf_suite.specs.ScryptCost.{Cost}
use Rattle.gocrypt_conf.specs.declared.conf.GoConf.{GoConf}
use Rattle.gocrypt_conf.specs.declared.conf.GoDraw.{GoDraw}
use Rattle.gocrypt_conf.specs.Keys.{unlocking_key}
use Rattle.gocrypt_conf.specs.MasterKey.{Holds, sealed_key}

-- the text, of the base64 of the sealed key and of the salt, and of scrypt's N, R and P
unfoldable pub text_with : List ℕ → List ℕ → ℕ → ℕ → ℕ → List ℕ
text_with sealed salt n r p =
    codes "{\"Creator\":\"vaultmove 1\",\"EncryptedKey\":\"" ++ sealed
    ++ codes "\",\"FeatureFlags\":[\"GCMIV128\",\"HKDF\",\"DirIV\",\"EMENames\",\"LongNames\",\"Raw64\"],\"ScryptObject\":{\"KeyLen\":32,\"N\":"
    ++ decimal n ++ codes ",\"P\":" ++ decimal p ++ codes ",\"R\":" ++ decimal r
    ++ codes ",\"Salt\":\"" ++ salt ++ codes "\"},\"Version\":2}"

-- the text of a configuration
abbrev pub conf_text : GoConf → List ℕ
conf_text conf =
    text_with (encode_of standard conf.sealed) (encode_of standard conf.salt) conf.cost.n conf.cost.r conf.cost.p

-- the configuration of a new vault: the drawn master key, sealed under the passphrase's key
abbrev pub made_conf : List ℕ → Cost → GoDraw → GoConf
made_conf pass cost drawn = record {
  salt = drawn.salt;
  cost = cost;
  sealed = sealed_key (unlocking_key pass drawn.salt cost) drawn.nonce drawn.master;
}

-- the text for another passphrase, with the salt and the nonce that were drawn: that of a new configuration whose master key
-- is the one that the old passphrase opens
pub record Reseals (conf : GoConf) (pass new_pass : List ℕ) (cost : Cost) (salt nonce text : List ℕ) : Type 0 where
  pub master : List ℕ
  pub size : length master ≡ 32
  pub bytes : IsBytes master
  pub held : Holds conf pass master
  pub written : text ≡ conf_text (made_conf new_pass cost (record { master = master; salt = salt; nonce = nonce }))
