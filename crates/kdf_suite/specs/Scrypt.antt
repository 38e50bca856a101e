-- scrypt (RFC 7914, section 6).
use Rattle.std.specs.Prelude.{ℕ, zero, suc, ◌+◌, ◌*◌, List, [], ◌∷◌, ◌++◌, take, drop, slice_index}
use Rattle.std.specs.Int.{w32, from_le_bytes, to_le_bytes}
use Rattle.std.specs.List.{flat_map}
use Rattle.kdf_suite.specs.Blocks.{joined}
use Rattle.kdf_suite.specs.Pbkdf2.{pbkdf2_sha256}
use Rattle.kdf_suite.specs.RoMix.{ro_mix}

-- the word of this place: four bytes, low byte first (section 3)
abbrev pub word_at : List ℕ → ℕ → ℕ
word_at bytes i = from_le_bytes w32
    (slice_index bytes (4 * i) ∷ slice_index bytes (4 * i + 1) ∷ slice_index bytes (4 * i + 2)
    ∷ slice_index bytes (4 * i + 3) ∷ [])

-- the first n words
unfoldable pub words_of : ℕ → List ℕ → List ℕ
words_of zero bytes = []
words_of (suc n) bytes = words_of n bytes ++ word_at bytes n ∷ []

-- the bytes of words
abbrev pub bytes_of : List ℕ → List ℕ
bytes_of words = flat_map (λ w. to_le_bytes w32 w) words

-- B_i, the part of 128 r bytes at place i of b, mixed by ROMix (step 2)
abbrev pub mixed_part : ℕ → ℕ → List ℕ → ℕ → List ℕ
mixed_part n r b i =
    bytes_of (ro_mix n r (words_of (32 * r) (take (128 * r) (drop (128 * r * i) b))))

-- the derived key of this length (steps 1 to 3)
unfoldable pub scrypt_key : List ℕ → List ℕ → ℕ → ℕ → ℕ → ℕ → List ℕ
scrypt_key pass salt n r p len =
    let b = pbkdf2_sha256 pass salt 1 (128 * r * p) in
    pbkdf2_sha256 pass (joined (mixed_part n r b) p) 1 len
