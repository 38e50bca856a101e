-- The keys of a gocryptfs vault (on-disk format 2).
use Rattle.std.specs.Prelude.{ℕ, List, [], codes}
use Rattle.kdf_suite.specs.Hkdf.{hkdf_sha256}
use Rattle.kdf_suite.specs.Scrypt.{scrypt_key}
use Rattle.kdf_suite.specs.ScryptCost.{Cost}
use Rattle.vault_values.specs.declared.keys.GoKeys.{GoKeys}

-- what keys of AES-256-GCM and of EME are for
abbrev pub content_info : List ℕ
content_info = codes "AES-GCM file content encryption"

abbrev pub names_info : List ℕ
names_info = codes "EME filename encryption"

-- the key of 32 bytes that HKDF makes of a secret for a purpose, with the empty salt
unfoldable pub derived_key : List ℕ → List ℕ → List ℕ
derived_key secret info = hkdf_sha256 secret [] info 32

-- the keys of a vault, from its master key
abbrev pub keys_of : List ℕ → GoKeys
keys_of master =
    record { content = derived_key master content_info; names = derived_key master names_info }

-- the key that the master key is sealed under, from the passphrase
unfoldable pub unlocking_key : List ℕ → List ℕ → Cost → List ℕ
unlocking_key pass salt cost = derived_key (scrypt_key pass salt cost.n cost.r cost.p 32) content_info
