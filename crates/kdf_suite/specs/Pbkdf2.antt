-- PBKDF2 (RFC 8018, section 5.2) over HMAC-SHA-256.
use Rattle.std.specs.Prelude.{ℕ, zero, suc, List, ◌++◌, take, replicate, bit_xor}
use Rattle.std.specs.Int.{div_ceil, w32, to_be_bytes}
use Rattle.std.specs.Simd.Lanes.{zip2}
use Rattle.kdf_suite.specs.Hmac.{hmac_sha256}
use Rattle.kdf_suite.specs.Blocks.{joined_from_one}

-- U_c of the block of this number: each U is the HMAC of the one before, and before U_1 stand the salt
-- and the number in four bytes, high byte first
unfoldable pub pbkdf2_u : List ℕ → List ℕ → ℕ → ℕ → List ℕ
pbkdf2_u pass salt number zero = salt ++ to_be_bytes w32 number
pbkdf2_u pass salt number (suc c) = hmac_sha256 pass (pbkdf2_u pass salt number c)

-- F: the block T of this number after c rounds, U_1 xor U_2 xor … xor U_c, a sum that begins with zeros
unfoldable pub pbkdf2_block : List ℕ → List ℕ → ℕ → ℕ → List ℕ
pbkdf2_block pass salt zero number = replicate 32 0
pbkdf2_block pass salt (suc c) number =
    zip2 bit_xor (pbkdf2_block pass salt c number) (pbkdf2_u pass salt number (suc c))

-- the derived key: the first bytes of T_1, T_2, …, as many as asked for
unfoldable pub pbkdf2_sha256 : List ℕ → List ℕ → ℕ → ℕ → List ℕ
pbkdf2_sha256 pass salt rounds len =
    take len (joined_from_one (pbkdf2_block pass salt rounds) (div_ceil len 32))
