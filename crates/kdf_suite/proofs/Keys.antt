-- The one block that stands for a key.
use Rattle.std.proofs.Common.{◌≡◌, ℕ, ◌+◌, ◌<◌, ◌≤◌, List, ◌++◌, length, take, drop, set, get_or, replicate, bit_xor, ap, ◌∙◌, arith}
use Rattle.std.proofs.lemmas.List.{append-nil, drop-replicate, drop_all, get_or_default, length-append, length-drop, length-map, length-replicate, length-take, take_all}
use Rattle.std.proofs.lemmas.List.Edits.{map_over_more}
use Rattle.std.proofs.lemmas.Bool.Decides.{nat_tests}
use Rattle.kdf_suite.specs.Hmac.{key_block, xored_with, zero_padded}

-- a longer key is hashed
pub key_block-long : (hash : List ℕ → List ℕ) (block : ℕ) (key : List ℕ) → block < length key → key_block hash block key ≡ zero_padded block (hash key)
key_block-long hash block key long = grind (arith, nat_tests)

-- a key of at most one block stands as it is
pub key_block-short : (hash : List ℕ → List ℕ) (block : ℕ) (key : List ℕ) → length key ≤ block → key_block hash block key ≡ zero_padded block key
key_block-short hash block key short = grind (arith, nat_tests)

module _ (pad : ℕ) (xs ys : List ℕ) (i : ℕ) where
  -- the list with its first i bytes xored
  abbrev pub IsXoredBelow : Type 0
  IsXoredBelow = ys ≡ xored_with pad (take i xs) ++ drop i xs

  -- one more byte is xored in place
  pub xored_more : i < length xs → IsXoredBelow → set ys i (bit_xor (get_or ys i 0) pad) ≡ xored_with pad (take (i + 1) xs) ++ drop (i + 1) xs
  xored_more within below =
      let lengths : length ys ≡ length xs =
      ap length below ∙ simp (length-append, length-map, length-take, length-drop) (omega arith) in
      map_over_more (λ b. bit_xor b pad) xs ys i (get_or ys i 0) within below (get_or_default ys i 0 (get_or ys i 0) (omega arith))

  -- all bytes are xored
  pub xored_all : length xs ≤ i → IsXoredBelow → ys ≡ xored_with pad xs
  xored_all end below = below ∙ simp (take_all i xs end, drop_all i xs end, append-nil)

-- a key written over the front of a block of zeros
pub zero_padded-is : (block : ℕ) (key front : List ℕ) → front ≡ key → front ++ drop (length key) (replicate block 0) ≡ zero_padded block key
zero_padded-is block key front same = ap (λ f. f ++ drop (length key) (replicate block 0)) same ∙ ap (λ r. key ++ r) (drop-replicate (length key) block 0)

-- a padded key is one block long
pub length-zero_padded : (block : ℕ) (key : List ℕ) → length key ≤ block → length (zero_padded block key) ≡ block
length-zero_padded block key short = simp (length-append, length-replicate) (omega arith)
