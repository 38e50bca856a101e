-- GHASH of some blocks by powers of the hash subkey.
use Rattle.std.proofs.Common.{◌≡◌, ℕ, zero, suc, ◌+◌, ◌-◌, ◌*◌, ◌/◌, ◌^◌, ◌<◌, List, [], ◌∷◌, length, map, get_or, set, take, drop, bit_xor, refl, sym, ap, ap₂, ◌∙◌, arith, get_or-set_same}
use lib.Bits.{xor_assoc, xor_zero_r}
use Rattle.std.specs.List.{range_with_len}
use Rattle.std.specs.Simd.{first_chunks}
use Rattle.std.proofs.lemmas.List.{drop-drop, get_or-drop, get_or-take}
use Rattle.gcm_mode.specs.Field.{product}
use Rattle.gcm_mode.specs.Hash.{block_number, blocks_of}
use Rattle.gcm_mode.specs.Pairs.{lane, number_of}
use Rattle.gcm_mode.specs.Private.{ghash_from, power}
use Rattle.gcm_mode.specs.Products.{ArePowers, HaveRows, products_sum}
use Rattle.gcm_mode.specs.Tables.{AreRows, block_in}
use Rattle.gcm_mode.specs.declared.vectors.Nibbles.{Nibbles}
use Rattle.gcm_mode.specs.declared.tables.Pair.{Pair}
use Rattle.gcm_mode.proofs.Algebra.{product-regroup}
use Rattle.gcm_mode.proofs.FieldSums.{product-lt}
use Rattle.gcm_mode.proofs.Lanes.{lane-same}
use Rattle.gcm_mode.proofs.Linear.{pairs, product-xor}
use Rattle.gcm_mode.proofs.Numbers.{block_number-is, number_of-same}

pub power-lt : (h n : ℕ) → h < 2 ^ 128 → power h n < 2 ^ 128
unfolding power
power-lt h zero fits = fits
power-lt h (suc n) fits = product-lt (power h n) h fits

power-front : (h n : ℕ) → h < 2 ^ 128 → product h (power h n) ≡ power h (suc n)
unfolding power
power-front h zero fits = refl
power-front h (suc n) fits =
    sym (product-regroup h (power h n) h (power-lt h n fits) fits) ∙ ap (λ (p : ℕ). product p h) (power-front h n fits)

power-two_on : (h n : ℕ) → h < 2 ^ 128 → product (power h 1) (power h n) ≡ power h (suc (suc n))
unfolding power
power-two_on h n fits =
    product-regroup h h (power h n) fits (power-lt h n fits) ∙ ap (product h) (power-front h n fits) ∙ power-front h (suc n) fits

-- a lane of a pair that was just written
pub lane-written : (l : ℕ) (ps : List Pair) (k : ℕ) (p none : Pair) (powers : List ℕ) → p.powers ≡ powers → k < length ps
    → lane l (get_or (set ps k p) k none).powers ≡ lane l powers
lane-written l ps k p none powers is within = ap (λ (q : Pair). lane l q.powers) (get_or-set_same ps k p none within) ∙ ap (lane l) is

-- a power from the last but one, by the second power
pub lane-two_on : (h n l : ℕ) (ps : List Pair) (k : ℕ) (p none : Pair) (step result next : List ℕ) → h < 2 ^ 128
    → lane l step ≡ power h 1 → lane l p.powers ≡ power h n → lane l result ≡ product (lane l step) (lane l (get_or (set ps k p) k none).powers)
    → next ≡ result → k < length ps → lane l next ≡ power h (suc (suc n))
lane-two_on h n l ps k p none step result next fits second last is written within =
    ap (lane l) written ∙ is ∙ ap₂ product second (lane-written l ps k p none p.powers refl within ∙ last) ∙ power-two_on h n fits

-- blocks, each times a power of h, the last one by h itself
unfoldable pub weighed : ℕ → List ℕ → ℕ
weighed h [] = 0
weighed h (x ∷ xs) = bit_xor (product x (power h (length xs))) (weighed h xs)

pub ghash-weighed : (h y x : ℕ) (xs : List ℕ) → h < 2 ^ 128 → ghash_from h y (x ∷ xs) ≡ weighed h (bit_xor y x ∷ xs)
unfolding ghash_from weighed power
ghash-weighed h y x [] fits = sym (xor_zero_r (product (bit_xor y x) h))
ghash-weighed h y x (z ∷ xs) fits =
    let first : ℕ = bit_xor y x in
    let last : ℕ = power h (length xs) in
    let whole : product (product first h) last ≡ product first (power h (suc (length xs))) =
    product-regroup first h last fits (power-lt h (length xs) fits) ∙ ap (product first) (power-front h (length xs) fits) in
    ghash-weighed h (product first h) z xs fits
    ∙ ap (λ (p : ℕ). bit_xor p (weighed h xs)) (product-xor (product first h) z last ∙ ap (λ (p : ℕ). bit_xor p (product z last)) whole)
    ∙ xor_assoc (product first (power h (suc (length xs)))) (product z last) (weighed h xs)

-- two steps at once
pub two-weighed : (h x y : ℕ) → h < 2 ^ 128 → bit_xor (product x (power h 1)) (product y (power h 0)) ≡ product (bit_xor (product x h) y) h
unfolding power
two-weighed h x y fits =
    sym (product-xor (product x h) y h ∙ ap (λ (p : ℕ). bit_xor p (product y h)) (product-regroup x h h fits fits))

-- two sums, and the rest of both lanes
two : (a x a' b y b' z : ℕ) → a ≡ a' → b ≡ b' → bit_xor x y ≡ z → bit_xor (bit_xor a x) (bit_xor b y) ≡ bit_xor a' (bit_xor b' z)
two a x a' b y b' z ea eb rest =
    pairs a x b y ∙ xor_assoc a b (bit_xor x y) ∙ ap₂ bit_xor ea (ap₂ bit_xor eb rest)

-- both lanes of four pairs
pub eight-weighed : (h : ℕ) (ps : List Pair) (a b c d : Nibbles) → ArePowers h ps
    → bit_xor (products_sum 0 ps (a ∷ b ∷ c ∷ d ∷ [])) (products_sum 1 ps (a ∷ b ∷ c ∷ d ∷ []))
    ≡ weighed h (block_in 0 a ∷ block_in 1 a ∷ block_in 0 b ∷ block_in 1 b ∷ block_in 0 c ∷ block_in 1 c ∷ block_in 0 d ∷ block_in 1 d ∷ [])
unfolding products_sum weighed
eight-weighed h [] a b c d powers = absurd (omega (arith, powers.four))
eight-weighed h (p ∷ []) a b c d powers = absurd (omega (arith, powers.four))
eight-weighed h (p ∷ q ∷ []) a b c d powers = absurd (omega (arith, powers.four))
eight-weighed h (p ∷ q ∷ r ∷ []) a b c d powers = absurd (omega (arith, powers.four))
eight-weighed h (p ∷ q ∷ r ∷ s ∷ []) a b c d powers =
    let each : (i l : ℕ) → i < 4 → l < 2 → lane l (get_or (p ∷ q ∷ r ∷ s ∷ []) i p).powers ≡ power h (7 - (2 * i + l)) = powers.each p in
    two (product (block_in 0 a) (lane 0 p.powers)) _ _ (product (block_in 1 a) (lane 1 p.powers)) _ _ _
    (ap (product (block_in 0 a)) (each 0 0 (omega arith) (omega arith))) (ap (product (block_in 1 a)) (each 0 1 (omega arith) (omega arith)))
    (two (product (block_in 0 b) (lane 0 q.powers)) _ _ (product (block_in 1 b) (lane 1 q.powers)) _ _ _
    (ap (product (block_in 0 b)) (each 1 0 (omega arith) (omega arith))) (ap (product (block_in 1 b)) (each 1 1 (omega arith) (omega arith)))
    (two (product (block_in 0 c) (lane 0 r.powers)) _ _ (product (block_in 1 c) (lane 1 r.powers)) _ _ _
    (ap (product (block_in 0 c)) (each 2 0 (omega arith) (omega arith))) (ap (product (block_in 1 c)) (each 2 1 (omega arith) (omega arith)))
    (two (product (block_in 0 d) (lane 0 s.powers)) _ _ (product (block_in 1 d) (lane 1 s.powers)) _ _ _
    (ap (product (block_in 0 d)) (each 3 0 (omega arith) (omega arith))) (ap (product (block_in 1 d)) (each 3 1 (omega arith) (omega arith)))
    refl)))
eight-weighed h (p ∷ q ∷ r ∷ s ∷ t ∷ more) a b c d powers = absurd (omega (arith, powers.four))

-- block j of a byte string
pub block_at : List ℕ → ℕ → ℕ
block_at bytes j = number_of (λ p. get_or bytes (16 * j + p) 0) 16

chunk_numbers : (n i : ℕ) (bytes : List ℕ) → map block_number (first_chunks 16 n (drop (16 * i) bytes)) ≡ map (block_at bytes) (range_with_len i n)
unfolding block_at
chunk_numbers zero i bytes = refl
chunk_numbers (suc n) i bytes =
    let next : 16 * i + 16 ≡ 16 * (i + 1) = omega arith in
    ap₂ ◌∷◌
    (block_number-is (take 16 (drop (16 * i) bytes)) ∙ number_of-same (λ p. get_or (take 16 (drop (16 * i) bytes)) p 0) (λ p. get_or bytes (16 * i + p) 0) 16 (λ p lt. get_or-take 16 (drop (16 * i) bytes) p 0 lt ∙ get_or-drop (16 * i) bytes p 0))
    (ap (λ (rest : List ℕ). map block_number (first_chunks 16 n rest)) (drop-drop 16 (16 * i) bytes ∙ ap (λ (k : ℕ). drop k bytes) next) ∙ chunk_numbers n (i + 1) bytes)

pub blocks_of-eight : (bytes : List ℕ) → length bytes ≡ 128
    → blocks_of bytes ≡ block_at bytes 0 ∷ block_at bytes 1 ∷ block_at bytes 2 ∷ block_at bytes 3 ∷ block_at bytes 4 ∷ block_at bytes 5 ∷ block_at bytes 6 ∷ block_at bytes 7 ∷ []
unfolding blocks_of
blocks_of-eight bytes long =
    let count : (length bytes + 15) / 16 ≡ 8 = omega arith in
    ap (λ (n : ℕ). map block_number (first_chunks 16 n bytes)) count ∙ chunk_numbers 8 0 bytes

-- the lane of a vector that was read from a byte string
pub lane-loaded : (bytes v : List ℕ) (at j l : ℕ) → l < 2 → at + 16 * l ≡ 16 * j → ((k : ℕ) → k < 32 → get_or v k 0 ≡ get_or bytes (at + k) 0) → lane l v ≡ block_at bytes j
unfolding block_at
lane-loaded bytes v at j l two place each =
    lane-same l v (λ p. get_or bytes (16 * j + p) 0) (λ p lt.
    let same : at + (16 * l + p) ≡ 16 * j + p = omega arith in
    each (16 * l + p) (omega arith) ∙ ap (λ (k : ℕ). get_or bytes k 0) same)

-- GHASH over eight blocks, which begins with a sum of two
pub ghash-eight : (h y : ℕ) (bytes : List ℕ) (a b c d e f g i : ℕ) → h < 2 ^ 128 → length bytes ≡ 128
    → a ≡ bit_xor y (block_at bytes 0) → b ≡ block_at bytes 1 → c ≡ block_at bytes 2 → d ≡ block_at bytes 3
    → e ≡ block_at bytes 4 → f ≡ block_at bytes 5 → g ≡ block_at bytes 6 → i ≡ block_at bytes 7
    → weighed h (a ∷ b ∷ c ∷ d ∷ e ∷ f ∷ g ∷ i ∷ []) ≡ ghash_from h y (blocks_of bytes)
ghash-eight h y bytes a b c d e f g i fits long ea eb ec ed ee ef eg ei =
    ap (weighed h) (ap₂ ◌∷◌ ea (ap₂ ◌∷◌ eb (ap₂ ◌∷◌ ec (ap₂ ◌∷◌ ed (ap₂ ◌∷◌ ee (ap₂ ◌∷◌ ef (ap₂ ◌∷◌ eg (ap (λ (x : ℕ). x ∷ []) ei))))))))
    ∙ sym (ap (ghash_from h y) (blocks_of-eight bytes long)
    ∙ ghash-weighed h y (block_at bytes 0) (block_at bytes 1 ∷ block_at bytes 2 ∷ block_at bytes 3 ∷ block_at bytes 4 ∷ block_at bytes 5 ∷ block_at bytes 6 ∷ block_at bytes 7 ∷ []) fits)

-- a product with one of two powers alone
pub one-product : (l : ℕ) (p : Pair) (n : Nibbles) (x : ℕ) → block_in l n ≡ x → products_sum l (p ∷ []) (n ∷ []) ≡ product x (lane l p.powers)
unfolding products_sum
one-product l p n x is =
    xor_zero_r (product (block_in l n) (lane l p.powers)) ∙ ap (λ (v : ℕ). product v (lane l p.powers)) is

-- four pairs of powers
pub ArePowers-of : (h : ℕ) (p q r s : Pair)
    → AreRows p.powers p.rows → AreRows q.powers q.rows → AreRows r.powers r.rows → AreRows s.powers s.rows
    → lane 0 p.powers ≡ power h 7 → lane 1 p.powers ≡ power h 6 → lane 0 q.powers ≡ power h 5 → lane 1 q.powers ≡ power h 4
    → lane 0 r.powers ≡ power h 3 → lane 1 r.powers ≡ power h 2 → lane 0 s.powers ≡ power h 1 → lane 1 s.powers ≡ power h 0
    → ArePowers h (p ∷ q ∷ r ∷ s ∷ [])
ArePowers-of h p q r s rows_p rows_q rows_r rows_s p0 p1 q0 q1 r0 r1 s0 s1 = record { four = refl; rows = rows; each = each }
  where
    rows : HaveRows (p ∷ q ∷ r ∷ s ∷ [])
    rows none zero lt = rows_p
    rows none (suc zero) lt = rows_q
    rows none (suc (suc zero)) lt = rows_r
    rows none (suc (suc (suc zero))) lt = rows_s
    rows none (suc (suc (suc (suc i)))) lt = absurd (omega arith)

    each : (none : Pair) (i l : ℕ) → i < 4 → l < 2 → lane l (get_or (p ∷ q ∷ r ∷ s ∷ []) i none).powers ≡ power h (7 - (2 * i + l))
    each none zero zero four lt = p0
    each none zero (suc zero) four lt = p1
    each none (suc zero) zero four lt = q0
    each none (suc zero) (suc zero) four lt = q1
    each none (suc (suc zero)) zero four lt = r0
    each none (suc (suc zero)) (suc zero) four lt = r1
    each none (suc (suc (suc zero))) zero four lt = s0
    each none (suc (suc (suc zero))) (suc zero) four lt = s1
    each none (suc (suc (suc (suc i)))) l four lt = absurd (omega arith)
    each none i (suc (suc l)) four lt = absurd (omega arith)

-- four pairs that were written in the place of others, the last one twice
pub ArePowers-written : (h : ℕ) (ps : List Pair) (first p q r s : Pair) → length ps ≡ 4 → ArePowers h (p ∷ q ∷ r ∷ s ∷ [])
    → ArePowers h (set (set (set (set (set ps 3 first) 3 s) 2 r) 1 q) 0 p)
ArePowers-written h [] first p q r s four powers = absurd (omega arith)
ArePowers-written h (a ∷ []) first p q r s four powers = absurd (omega arith)
ArePowers-written h (a ∷ b ∷ []) first p q r s four powers = absurd (omega arith)
ArePowers-written h (a ∷ b ∷ c ∷ []) first p q r s four powers = absurd (omega arith)
ArePowers-written h (a ∷ b ∷ c ∷ d ∷ []) first p q r s four powers = powers
ArePowers-written h (a ∷ b ∷ c ∷ d ∷ e ∷ ps) first p q r s four powers = absurd (omega arith)
