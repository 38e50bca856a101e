-- The signature of `vault.cryptomator` (RFC 7518, section 3.2).
use Rattle.std.specs.Prelude.{ℕ, List, ◌++◌}
use Rattle.kdf_suite.specs.Hmac.{hmac_sha256, hmac_sha384, hmac_sha512}
use Rattle.cryptomator_conf.specs.declared.conf.Alg.{Alg}
use Rattle.cryptomator_conf.specs.declared.conf.Alg.TheVariants.{Hs256, Hs384, Hs512}
use Rattle.vault_values.specs.declared.keys.CmKeys.{CmKeys}

-- the HMAC of a text by the named hash
abbrev pub hmac_by : Alg → List ℕ → List ℕ → List ℕ
hmac_by Hs256 key text = hmac_sha256 key text
hmac_by Hs384 key text = hmac_sha384 key text
hmac_by Hs512 key text = hmac_sha512 key text

-- the keys' signature of a text; they sign as one key of 64 bytes
abbrev pub signature_of : Alg → CmKeys → List ℕ → List ℕ
signature_of alg keys text = hmac_by alg (keys.enc ++ keys.mac) text
