-- A digest is of bytes.
use Rattle.std.proofs.Common.{◌≡◌, ℕ, zero, suc, ◌<◌, List, [], ◌∷◌, ◌++◌, length, slice_index, arith, lit<}
use Rattle.std.specs.Int.{bytes_high_first}
use Rattle.sha2.specs.Sha256.{sha256, digest_bytes}
use Rattle.sha2.proofs.Facts256.{length-sha256}
use Rattle.kdf_suite.specs.Hmac.{hmac_sha256}

abbrev AreBytes : List ℕ → Type 0
AreBytes xs = (place : ℕ) → slice_index xs place < 256

bytes-append : (xs ys : List ℕ) → AreBytes xs → AreBytes ys → AreBytes (xs ++ ys)
bytes-append [] ys left right place = right place
bytes-append (x ∷ xs) ys left right zero = left zero
bytes-append (x ∷ xs) ys left right (suc place) = bytes-append xs ys (λ i. left (suc i)) right place

bytes-high_first : (i n : ℕ) → AreBytes (bytes_high_first i n)
bytes-high_first zero n place = lit< tt
bytes-high_first (suc zero) n zero = omega arith
bytes-high_first (suc (suc i)) n zero = omega arith
bytes-high_first (suc i) n (suc place) = bytes-high_first i n place

bytes-digest : (h : List ℕ) (n : ℕ) → AreBytes (digest_bytes h n)
unfolding digest_bytes
bytes-digest h zero = λ place. lit< tt
bytes-digest h (suc n) = bytes-append _ _ (bytes-digest h n) (bytes-high_first 4 (slice_index h n))

pub bytes-sha256 : (text : List ℕ) (place : ℕ) → slice_index (sha256 text) place < 256
unfolding sha256
bytes-sha256 text = bytes-digest _ 8

pub bytes-hmac_sha256 : (key text : List ℕ) (place : ℕ) → slice_index (hmac_sha256 key text) place < 256
unfolding hmac_sha256
bytes-hmac_sha256 key text = bytes-sha256 _

pub length-hmac_sha256 : (key text : List ℕ) → length (hmac_sha256 key text) ≡ 32
unfolding hmac_sha256
length-hmac_sha256 key text = length-sha256 _
