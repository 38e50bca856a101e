-- Key wrapping: RFC 3394, section 2.2.1, over a block cipher that is given as the image of a block.
use Rattle.std.specs.Prelude.{◌≡◌, ℕ, zero, suc, ◌*◌, ◌/◌, ◌<◌, List, ◌++◌, length, take, drop, replicate, slice_index}
use Rattle.std.specs.Int.{bytes_high_first}
use Rattle.aes_lanes.specs.Cipher.{aes256}
use Rattle.aes_lanes.specs.Bytes.{xor_bytes}

-- the initial value of A (2.2.3.1)
abbrev pub initial_value : List ℕ
initial_value = replicate 8 0xa6

-- a block B with t added to its first half: the new A and the new R_n
unfoldable pub numbered : ℕ → List ℕ → List ℕ
numbered t b = xor_bytes (take 8 b) (bytes_high_first 8 t) ++ drop 8 b

-- step t on A followed by R_1 to R_n, each of eight bytes. B is the image of A | R_1. A becomes the
-- first half of B, xored with t, R_1 to R_(n-1) become R_2 to R_n, and R_n the second half of B
unfoldable pub step : (List ℕ → List ℕ) → ℕ → List ℕ → List ℕ
step image t state =
    let b : List ℕ = numbered t (image (take 16 state)) in
    take 8 b ++ drop 16 state ++ drop 8 b

-- steps 1 to t
unfoldable pub steps : (List ℕ → List ℕ) → ℕ → List ℕ → List ℕ
steps image zero state = state
steps image (suc t) state = step image (suc t) (steps image t state)

-- a key of n parts, wrapped: A and R_1 to R_n after 6 n steps
unfoldable pub wrapped : (List ℕ → List ℕ) → List ℕ → List ℕ
wrapped image key = steps image (6 * (length key / 8)) (initial_value ++ key)

-- 32 bytes
pub record IsKey (key : List ℕ) : Type 0 where
  pub thirty_two : length key ≡ 32
  pub bytes : (k : ℕ) → slice_index key k < 256

-- the key is one that wraps to these bytes
abbrev pub Unwraps : (List ℕ → List ℕ) → List ℕ → List ℕ → Type 0
Unwraps image bytes key = wrapped image key ≡ bytes

-- no key wraps to these bytes
abbrev pub UnwrapsToNothing : (List ℕ → List ℕ) → List ℕ → Type 0
UnwrapsToNothing image bytes = (key : List ℕ) → IsKey key → ¬ Unwraps image bytes key

-- under AES-256, bytes unwrap to one key at most
abbrev pub UnwrapsToOneKey : Type 0
UnwrapsToOneKey =
    (kek bytes key other : List ℕ)
    → IsKey key
    → IsKey other
    → Unwraps (aes256 kek) bytes key
    → Unwraps (aes256 kek) bytes other
    → key ≡ other
