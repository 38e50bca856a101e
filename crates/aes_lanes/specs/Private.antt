-- Words of private contracts: a block added to a part of a list of bytes, the key of a schedule, the lanes of a vector,
-- and a cipher in either direction.
use Rattle.std.specs.Prelude.{◌≡◌, ℕ, ◌+◌, ◌*◌, ◌<◌, ◌≤◌, length, take, List, [], bit_xor, get_or, slice_index}
use Rattle.std.specs.List.{flat_map}
use Rattle.std.specs.Int.{w32, to_be_bytes}
use Rattle.aes_lanes.specs.declared.direction.Direction.{Direction}
use Rattle.aes_lanes.specs.declared.direction.Direction.TheVariants.{Forward, Backward}
use Rattle.aes_lanes.specs.Cipher.{cipher, inverse_cipher}

-- bytes to which a block was added from a place on, as far as they go
pub record IsXoredAt (at : ℕ) (block old new : List ℕ) : Type 0 where
  pub same_length : length new ≡ length old
  pub inside : (k : ℕ) → k < 16 → at + k < length old
      → slice_index new (at + k) ≡ bit_xor (slice_index old (at + k)) (slice_index block k)
  pub before : (k : ℕ) → k < at → slice_index new k ≡ slice_index old k
  pub after : (k : ℕ) → at + 16 ≤ k → slice_index new k ≡ slice_index old k

-- bytes to which the first n of some blocks were added, end to end, from a place on
pub record AreXoredAt (at n : ℕ) (blocks : List (List ℕ)) (old new : List ℕ) : Type 0 where
  pub same_length : length new ≡ length old
  pub inside : (i r : ℕ) → i < n → r < 16
      → slice_index new (at + 16 * i + r) ≡ bit_xor (slice_index old (at + 16 * i + r)) (slice_index (get_or blocks i []) r)
  pub before : (k : ℕ) → k < at → slice_index new k ≡ slice_index old k
  pub after : (k : ℕ) → at + 16 * n ≤ k → slice_index new k ≡ slice_index old k

-- the bytes of the first n words: the key from which a schedule was expanded
unfoldable pub key_of : ℕ → List ℕ → List ℕ
key_of n words = flat_map (to_be_bytes w32) (take n words)

-- the lanes of a vector of 64 bytes
pub record AreLanes (v : List ℕ) : Type 0 where
  pub sixty_four : length v ≡ 64
  pub bytes : (k : ℕ) → slice_index v k < 256

-- what so many rounds make of a block in a direction, with the words of a key schedule
abbrev pub ciphered : Direction → ℕ → List ℕ → List ℕ → List ℕ
ciphered Forward = cipher
ciphered Backward = inverse_cipher
