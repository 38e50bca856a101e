-- GHASH of lists that are joined.
use Rattle.std.proofs.Common.{◌≡◌, ℕ, zero, suc, ◌+◌, ◌*◌, ◌<◌, ◌≤◌, min, List, [], ◌∷◌, ◌++◌, length, take, drop, refl, sym, ap, ap₂, ◌∙◌, arith, bit_xor}
use Rattle.std.proofs.lemmas.List.{drop-drop, drop-take, length-drop, length-take-le, nil_from_length, take-take, take_all}
use Rattle.gcm_mode.specs.Field.{product}
use Rattle.gcm_mode.specs.Hash.{block_number, blocks_of, ghash}
use Rattle.gcm_mode.specs.Private.{ghash_from}
use Rattle.gcm_mode.proofs.Blocks.{blocks_of-more}

pub ghash_from-append : (h y : ℕ) (xs ys : List ℕ) → ghash_from h y (xs ++ ys) ≡ ghash_from h (ghash_from h y xs) ys
unfolding ghash_from
ghash_from-append h y [] ys = refl
ghash_from-append h y (x ∷ xs) ys = ghash_from-append h (product (bit_xor y x) h) xs ys

-- GHASH of some blocks and a last one
pub ghash-last : (h : ℕ) (xs : List ℕ) (x : ℕ) → ghash h (xs ++ x ∷ []) ≡ product (bit_xor (ghash_from h 0 xs) x) h
unfolding ghash ghash_from
ghash-last h xs x = ghash_from-append h 0 xs (x ∷ [])

no_blocks : (xs bytes : List ℕ) → xs ≡ [] → blocks_of xs ++ blocks_of bytes ≡ blocks_of bytes
unfolding blocks_of
no_blocks xs bytes e = ap (λ (ys : List ℕ). blocks_of ys ++ blocks_of bytes) e

-- some whole blocks at the front of a byte string
blocks_of-front : (n : ℕ) (bytes : List ℕ) → 16 * n ≤ length bytes → blocks_of bytes ≡ blocks_of (take (16 * n) bytes) ++ blocks_of (drop (16 * n) bytes)
blocks_of-front zero bytes long = sym (no_blocks (take 0 bytes) bytes refl)
blocks_of-front (suc n) bytes long =
    let sixteen : 16 * suc n ≡ 16 + 16 * n = omega arith in
    let rest : List ℕ = drop 16 bytes in
    let left : 16 * n ≤ length rest = omega (arith, length-drop 16 bytes) in
    let size : length (take (16 * suc n) bytes) ≡ 16 * suc n = length-take-le (16 * suc n) bytes long in
    let first : take 16 (take (16 * suc n) bytes) ≡ take 16 bytes = take-take 16 (16 * suc n) bytes (omega arith) in
    let others : drop 16 (take (16 * suc n) bytes) ≡ take (16 * n) rest = ap (λ (k : ℕ). drop 16 (take k bytes)) sixteen ∙ drop-take 16 (16 * n) bytes in
    let behind : drop (16 * n) rest ≡ drop (16 * suc n) bytes = drop-drop (16 * n) 16 bytes ∙ ap (λ (k : ℕ). drop k bytes) (sym sixteen) in
    let whole : blocks_of bytes ≡ block_number (take 16 bytes) ∷ blocks_of rest = blocks_of-more bytes 16 (omega arith) (omega arith) in
    let front : blocks_of (take (16 * suc n) bytes) ≡ block_number (take 16 bytes) ∷ blocks_of (take (16 * n) rest) =
    blocks_of-more (take (16 * suc n) bytes) 16 (omega arith) (omega arith) ∙ ap₂ (λ (a b : List ℕ). block_number a ∷ blocks_of b) first others in
    whole ∙ ap (λ (xs : List ℕ). block_number (take 16 bytes) ∷ xs) (blocks_of-front n rest left ∙ ap (λ (b : List ℕ). blocks_of (take (16 * n) rest) ++ blocks_of b) behind)
    ∙ sym (ap (λ (xs : List ℕ). xs ++ blocks_of (drop (16 * suc n) bytes)) front)

pub ghash_from-part : (h y hash : ℕ) (rest front back : List ℕ) (n : ℕ) → 16 * n ≤ length rest → front ≡ take (16 * n) rest → back ≡ drop (16 * n) rest
    → hash ≡ ghash_from h y (blocks_of front) → ghash_from h hash (blocks_of back) ≡ ghash_from h y (blocks_of rest)
ghash_from-part h y hash rest front back n long front_is back_is hash_is =
    ap₂ (λ (x : ℕ) (xs : List ℕ). ghash_from h x (blocks_of xs)) (hash_is ∙ ap (λ (xs : List ℕ). ghash_from h y (blocks_of xs)) front_is) back_is
    ∙ sym (ap (ghash_from h y) (blocks_of-front n rest long) ∙ ghash_from-append h y (blocks_of (take (16 * n) rest)) (blocks_of (drop (16 * n) rest)))

pub ghash_from-none : (h y : ℕ) (bytes : List ℕ) → length bytes ≡ 0 → ghash_from h y (blocks_of bytes) ≡ y
unfolding ghash_from blocks_of
ghash_from-none h y bytes none = ap (λ (xs : List ℕ). ghash_from h y (blocks_of xs)) (nil_from_length bytes none)

-- the first block of a byte string
ghash_from-more : (h y x : ℕ) (bytes first : List ℕ) (n : ℕ) → n ≡ min (length bytes) 16 → 0 < length bytes → first ≡ take n bytes → x ≡ block_number first
    → ghash_from h y (blocks_of bytes) ≡ ghash_from h (product (bit_xor y x) h) (blocks_of (drop n bytes))
unfolding ghash_from
ghash_from-more h y x bytes first n size some first_is x_is =
    ap (ghash_from h y) (blocks_of-more bytes n size some)
    ∙ ap (λ (k : ℕ). ghash_from h (product (bit_xor y k) h) (blocks_of (drop n bytes))) (sym (x_is ∙ ap block_number first_is))

pub ghash_from-one : (h y x : ℕ) (bytes : List ℕ) → 0 < length bytes → length bytes ≤ 16 → x ≡ block_number bytes → ghash_from h y (blocks_of bytes) ≡ product (bit_xor y x) h
ghash_from-one h y x bytes some few x_is =
    let size = length-drop (length bytes) bytes in
    ghash_from-more h y x bytes bytes (length bytes) (omega arith) some (sym (take_all (length bytes) bytes (omega arith))) x_is
    ∙ ghash_from-none h (product (bit_xor y x) h) (drop (length bytes) bytes) (omega (arith, size))

-- the first two blocks, of which the second may be the last and short
pub ghash_from-two : (h y a b next : ℕ) (rest first behind second others : List ℕ) (n : ℕ) → 16 < length rest → first ≡ take 16 rest → behind ≡ drop 16 rest
    → n ≡ min (length behind) 16 → second ≡ take n behind → others ≡ drop n behind → a ≡ block_number first → b ≡ block_number second
    → next ≡ product (bit_xor (product (bit_xor y a) h) b) h → ghash_from h next (blocks_of others) ≡ ghash_from h y (blocks_of rest)
ghash_from-two h y a b next rest first behind second others n some first_is behind_is size second_is others_is a_is b_is next_is =
    let more : 0 < length behind = omega (arith, ap length behind_is, length-drop 16 rest) in
    ap₂ (λ (x : ℕ) (xs : List ℕ). ghash_from h x (blocks_of xs)) next_is others_is
    ∙ sym (ghash_from-more h (product (bit_xor y a) h) b behind second n size more second_is b_is)
    ∙ ap (λ (xs : List ℕ). ghash_from h (product (bit_xor y a) h) (blocks_of xs)) behind_is
    ∙ sym (ghash_from-more h y a rest first 16 (omega arith) (omega arith) first_is a_is)
