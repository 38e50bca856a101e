-- Sums of bytes and of lists of bytes.
use Rattle.std.proofs.Common.{◌≡◌, ℕ, zero, suc, ◌+◌, ◌<◌, ◌≤◌, List, [], ◌∷◌, bit_xor, bit_or, bit_and, length, get_or, slice_index, map, refl, sym, ap, ◌∙◌, arith}
use Rattle.std.proofs.lemmas.List.{ext_get_or}
use Rattle.std.proofs.lemmas.List.FromFn.{get_or-map-range_with_len, length-map-range_with_len}
use Rattle.std.specs.List.{range_with_len}
use lib.Bits.{xor_assoc, xor_comm, xor_self, xor_zero_l, xor_zero_r, or_add_and, and_le_l, and_le_r}
use Rattle.aes_lanes.specs.Bytes.{xor_bytes}

-- a list is its elements
pub gathered : (l : List ℕ) (n : ℕ) → length l ≡ n → l ≡ map (λ i. get_or l i 0) (range_with_len 0 n)
gathered l n h =
    ext_get_or 0 l (map (λ i. get_or l i 0) (range_with_len 0 n))
    (h ∙ sym (length-map-range_with_len (λ i. get_or l i 0) 0 n))
    (λ i lt. sym (get_or-map-range_with_len (λ i. get_or l i 0) 0 n i i 0 (omega arith) (omega arith)))

pub length-xor_bytes : (xs ys : List ℕ) → length xs ≤ length ys → length (xor_bytes xs ys) ≡ length xs
unfolding xor_bytes
length-xor_bytes [] ys h = refl
length-xor_bytes (x ∷ xs) [] h = absurd (omega arith)
length-xor_bytes (x ∷ xs) (y ∷ ys) h =
    let h' : length xs ≤ length ys = omega arith in
    ap suc (length-xor_bytes xs ys h')

pub bit_or-zero : (a b : ℕ) → bit_or a b ≡ 0 → (a ≡ 0) × (b ≡ 0)
bit_or-zero a b h =
    let whole : bit_or a b + bit_and a b ≡ a + b = or_add_and a b in
    let below_a : bit_and a b ≤ a = and_le_l a b in
    let below_b : bit_and a b ≤ b = and_le_r a b in
    (omega arith, omega arith)

pub bit_or-none : (d a b : ℕ) → d ≡ 0 → a ≡ b → bit_or d (bit_xor a b) ≡ 0
bit_or-none d a b none same = rw (none, same, xor_self b) refl

pub bit_xor-twice : (a b : ℕ) → bit_xor (bit_xor a b) b ≡ a
bit_xor-twice a b = xor_assoc a b b ∙ ap (bit_xor a) (xor_self b) ∙ xor_zero_r a

pub bit_xor-zero : (a b : ℕ) → bit_xor a b ≡ 0 → a ≡ b
bit_xor-zero a b h = sym (bit_xor-twice a b) ∙ ap (λ n. bit_xor n b) h ∙ xor_zero_l b

pub slice_index-xor_bytes : (xs ys : List ℕ) (k : ℕ) → k < length xs → k < length ys
    → slice_index (xor_bytes xs ys) k ≡ bit_xor (slice_index xs k) (slice_index ys k)
unfolding xor_bytes
slice_index-xor_bytes [] ys k hx hy = absurd (omega arith)
slice_index-xor_bytes (x ∷ xs) [] k hx hy = absurd (omega arith)
slice_index-xor_bytes (x ∷ xs) (y ∷ ys) zero hx hy = refl
slice_index-xor_bytes (x ∷ xs) (y ∷ ys) (suc k) hx hy = slice_index-xor_bytes xs ys k (omega arith) (omega arith)

-- a list that is the sum of two at each place is their sum
pub xor_bytes-from_places : (sum xs ys : List ℕ) → length sum ≡ length xs → length xs ≤ length ys
    → ((k : ℕ) → k < length xs → slice_index sum k ≡ bit_xor (slice_index xs k) (slice_index ys k))
    → sum ≡ xor_bytes xs ys
xor_bytes-from_places sum xs ys same long each =
    ext_get_or 0 sum (xor_bytes xs ys) (same ∙ sym (length-xor_bytes xs ys long))
    (λ k lt.
    let here : k < length xs = omega arith in
    let there : k < length ys = omega arith in
    each k here ∙ sym (slice_index-xor_bytes xs ys k here there))

pub xor_bytes-twice : (xs ys : List ℕ) → length xs ≤ length ys → xor_bytes (xor_bytes xs ys) ys ≡ xs
unfolding xor_bytes
xor_bytes-twice [] ys h = refl
xor_bytes-twice (x ∷ xs) [] h = absurd (omega arith)
xor_bytes-twice (x ∷ xs) (y ∷ ys) h =
    let rest : length xs ≤ length ys = omega arith in
    ap (λ z. z ∷ xor_bytes (xor_bytes xs ys) ys) (bit_xor-twice x y) ∙ ap (λ l. x ∷ l) (xor_bytes-twice xs ys rest)

pub xor_bytes-swap : (xs ys : List ℕ) → xor_bytes xs ys ≡ xor_bytes ys xs
unfolding xor_bytes
xor_bytes-swap [] [] = refl
xor_bytes-swap [] (y ∷ ys) = refl
xor_bytes-swap (x ∷ xs) [] = refl
xor_bytes-swap (x ∷ xs) (y ∷ ys) =
    ap (λ z. z ∷ xor_bytes xs ys) (xor_comm x y) ∙ ap (λ l. bit_xor y x ∷ l) (xor_bytes-swap xs ys)

pub xor_bytes-regroup : (xs ys zs : List ℕ) → xor_bytes (xor_bytes xs ys) zs ≡ xor_bytes xs (xor_bytes ys zs)
unfolding xor_bytes
xor_bytes-regroup [] ys zs = refl
xor_bytes-regroup (x ∷ xs) [] zs = refl
xor_bytes-regroup (x ∷ xs) (y ∷ ys) [] = refl
xor_bytes-regroup (x ∷ xs) (y ∷ ys) (z ∷ zs) =
    ap (λ a. a ∷ xor_bytes (xor_bytes xs ys) zs) (xor_assoc x y z)
    ∙ ap (λ l. bit_xor x (bit_xor y z) ∷ l) (xor_bytes-regroup xs ys zs)
