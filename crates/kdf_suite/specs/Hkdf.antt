-- HKDF (RFC 5869) over HMAC-SHA-256.
use Rattle.std.specs.Prelude.{ℕ, zero, suc, List, [], ◌∷◌, ◌++◌, take}
use Rattle.std.specs.Int.{div_ceil}
use Rattle.kdf_suite.specs.Hmac.{hmac_sha256}
use Rattle.kdf_suite.specs.Blocks.{joined_from_one}

-- the pseudorandom key (section 2.2)
abbrev pub hkdf_extract : List ℕ → List ℕ → List ℕ
hkdf_extract salt secret = hmac_sha256 salt secret

-- T(n) (section 2.3): T(0) is empty, and T(n) is the HMAC of T(n - 1), the info and the byte n
unfoldable pub hkdf_block : List ℕ → List ℕ → ℕ → List ℕ
hkdf_block key info zero = []
hkdf_block key info (suc n) = hmac_sha256 key (hkdf_block key info n ++ info ++ suc n ∷ [])

-- the first bytes of T(1), T(2), …, as many as asked for (section 2.3)
abbrev pub hkdf_expand : List ℕ → List ℕ → ℕ → List ℕ
hkdf_expand key info len = take len (joined_from_one (hkdf_block key info) (div_ceil len 32))

-- the output keying material
unfoldable pub hkdf_sha256 : List ℕ → List ℕ → List ℕ → ℕ → List ℕ
hkdf_sha256 secret salt info len = hkdf_expand (hkdf_extract salt secret) info len
