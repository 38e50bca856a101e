-- Sums in GF(2^128), and a product as the sum of the products of its bytes.
use Rattle.std.proofs.Common.{◌≡◌, ℕ, zero, suc, ◌+◌, ◌-◌, ◌*◌, ◌/◌, ◌%◌, ◌^◌, ◌<◌, ◌≤◌, bit_xor, refl, sym, ap, ap₂, ◌∙◌, arith}
use lib.Bits.{xor_assoc, xor_block, xor_comm, xor_lt, xor_mod, xor_self, xor_shifted, xor_shr, xor_zero_l, xor_zero_r}
use Rattle.std.proofs.Math.Nat.{mul-le-mul_left, mul-mod_left}
use Rattle.std.proofs.lemmas.Nat.{mod-pow-add, pow-add, pow_pos}
use Rattle.gcm_mode.specs.Field.{coefficient, product, terms, times_power, times_u}
use Rattle.gcm_mode.specs.Pairs.{byte_of, bytes_with, number_of}
use Rattle.gcm_mode.proofs.Algebra.{at_each, coefficient-lt, from_powers, product-times_power, times_power-lt, times_power-xor, times_u-half}
use Rattle.gcm_mode.proofs.Linear.{pairs, product-xor}
use Rattle.gcm_mode.proofs.Numbers.{bits_more, number_of-bytes}

-- the sum of the first n values of a function
unfoldable pub sum_below : (ℕ → ℕ) → ℕ → ℕ
sum_below f zero = 0
sum_below f (suc n) = bit_xor (sum_below f n) (f n)

pub sum_below-same : (f g : ℕ → ℕ) (n : ℕ) → ((i : ℕ) → i < n → f i ≡ g i) → sum_below f n ≡ sum_below g n
unfolding sum_below
sum_below-same f g zero h = refl
sum_below-same f g (suc n) h = ap₂ bit_xor (sum_below-same f g n (λ i l. h i (omega arith))) (h n (omega arith))

pub sum_below-zero : (n : ℕ) → sum_below (λ i. 0) n ≡ 0
unfolding sum_below
sum_below-zero zero = refl
sum_below-zero (suc n) = ap (λ (s : ℕ). bit_xor s 0) (sum_below-zero n)

pub sum_below-xor : (f g : ℕ → ℕ) (n : ℕ) → sum_below (λ i. bit_xor (f i) (g i)) n ≡ bit_xor (sum_below f n) (sum_below g n)
unfolding sum_below
sum_below-xor f g zero = refl
sum_below-xor f g (suc n) =
    ap (λ (s : ℕ). bit_xor s (bit_xor (f n) (g n))) (sum_below-xor f g n) ∙ pairs (sum_below f n) (sum_below g n) (f n) (g n)

sum_below-swap : (f : ℕ → ℕ → ℕ) (m n : ℕ) → sum_below (λ i. sum_below (f i) n) m ≡ sum_below (λ j. sum_below (λ i. f i j) m) n
unfolding sum_below
sum_below-swap f zero n = sym (sum_below-zero n)
sum_below-swap f (suc m) n =
    ap (λ (s : ℕ). bit_xor s (sum_below (f m) n)) (sum_below-swap f m n)
    ∙ sym (sum_below-xor (λ j. sum_below (λ i. f i j) m) (f m) n)

sum_below-front : (f : ℕ → ℕ) (n : ℕ) → sum_below f (suc n) ≡ bit_xor (f 0) (sum_below (λ i. f (i + 1)) n)
unfolding sum_below
sum_below-front f zero = xor_comm 0 (f 0)
sum_below-front f (suc n) =
    let next : suc n ≡ n + 1 = omega arith in
    ap (λ (s : ℕ). bit_xor s (f (suc n))) (sum_below-front f n)
    ∙ xor_assoc (f 0) (sum_below (λ i. f (i + 1)) n) (f (suc n))
    ∙ ap (λ (k : ℕ). bit_xor (f 0) (bit_xor (sum_below (λ i. f (i + 1)) n) (f k))) next

-- what takes sums to sums takes those of many
pub sum_below-linear : (g : ℕ → ℕ) → ((a b : ℕ) → g (bit_xor a b) ≡ bit_xor (g a) (g b)) → (f : ℕ → ℕ) (n : ℕ) → g (sum_below f n) ≡ sum_below (λ i. g (f i)) n
unfolding sum_below
sum_below-linear g linear f zero = linear 0 0 ∙ xor_self (g 0)
sum_below-linear g linear f (suc n) =
    linear (sum_below f n) (f n) ∙ ap (λ (s : ℕ). bit_xor s (g (f n))) (sum_below-linear g linear f n)

-- powers of u
times_power-zero : (k : ℕ) → times_power k 0 ≡ 0
times_power-zero k = times_power-xor k 0 0 ∙ xor_self (times_power k 0)

times_power-add : (i j v : ℕ) → times_power (i + j) v ≡ times_power i (times_power j v)
unfolding times_power
times_power-add zero j v = ap (λ (k : ℕ). times_power k v) (omega arith)
times_power-add (suc i) j v =
    let next : suc i + j ≡ suc (i + j) = omega arith in
    ap (λ (k : ℕ). times_power k v) next ∙ ap times_u (times_power-add i j v)

times_power-swap : (i j v : ℕ) → times_power i (times_power j v) ≡ times_power j (times_power i v)
times_power-swap i j v =
    let other : i + j ≡ j + i = omega arith in
    sym (times_power-add i j v) ∙ ap (λ (k : ℕ). times_power k v) other ∙ times_power-add j i v

times_u-double : (x : ℕ) → times_u (x * 2) ≡ x
times_u-double x =
    let even : x * 2 % 2 ≡ 0 = omega arith in
    let half : x * 2 / 2 ≡ x = omega arith in
    times_u-half (x * 2) even ∙ half

times_power-shift : (k m c : ℕ) → times_power k (c * 2 ^ (m + k)) ≡ c * 2 ^ m
unfolding times_power
times_power-shift zero m c = ap (λ (j : ℕ). c * 2 ^ j) (omega arith)
times_power-shift (suc k) m c =
    let longer : m + suc k ≡ suc m + k = omega arith in
    let next : suc m ≡ m + 1 = omega arith in
    let power : 2 ^ suc m ≡ 2 ^ m * 2 = ap (λ (j : ℕ). 2 ^ j) next ∙ pow-add 2 m 1 in
    let double : c * 2 ^ suc m ≡ c * 2 ^ m * 2 = ap (λ (p : ℕ). c * p) power ∙ omega arith in
    ap (λ (j : ℕ). times_u (times_power k (c * 2 ^ j))) longer
    ∙ ap times_u (times_power-shift k (suc m) c ∙ double) ∙ times_u-double (c * 2 ^ m)

-- products of blocks are blocks
term-lt : (c v : ℕ) → c < 2 → v < 2 ^ 128 → c * v < 2 ^ 128
term-lt zero v l h = omega arith
term-lt (suc zero) v l h = omega arith
term-lt (suc (suc c)) v l h = absurd (omega arith)

terms-lt : (n x y : ℕ) → y < 2 ^ 128 → terms n x y < 2 ^ 128
unfolding terms
terms-lt zero x y h = omega arith
terms-lt (suc n) x y h =
    xor_lt 128 (terms n x y) (coefficient x n * times_power n y) (terms-lt n x y h)
    (term-lt (coefficient x n) (times_power n y) (coefficient-lt x n) (times_power-lt n y h))

pub product-lt : (x y : ℕ) → y < 2 ^ 128 → product x y < 2 ^ 128
unfolding product
product-lt x y h = terms-lt 128 x y h

-- a number as the sum of its bytes in their places
place_sum : (a c k : ℕ) → c < 256 → (a * 256 + c) * 2 ^ (8 * k) ≡ bit_xor (a * 2 ^ (8 * suc k)) (c * 2 ^ (8 * k))
place_sum a c k byte =
    let more = bits_more k in
    let some : 0 < 2 ^ (8 * k) = pow_pos (8 * k) in
    let most : c ≤ 255 = omega arith in
    let bound = mul-le-mul_left (2 ^ (8 * k)) most in
    let small : c * 2 ^ (8 * k) < 2 ^ (8 * suc k) = omega (arith, more, some, bound) in
    let place : a * 2 ^ (8 * suc k) ≡ a * 256 * 2 ^ (8 * k) = ap (λ (p : ℕ). a * p) more ∙ omega arith in
    sym (xor_shifted a (8 * suc k) (c * 2 ^ (8 * k)) small ∙ ap (λ (p : ℕ). p + c * 2 ^ (8 * k)) place ∙ omega arith)

number_of-places : (f : ℕ → ℕ) (n : ℕ) → n ≤ 16 → ((p : ℕ) → p < n → f p < 256)
    → number_of f n * 2 ^ (8 * (16 - n)) ≡ sum_below (λ p. f p * 2 ^ (8 * (15 - p))) n
unfolding number_of sum_below
number_of-places f zero le h = omega arith
number_of-places f (suc n) le h =
    let rest : 16 - suc n ≡ 15 - n = omega arith in
    let more : 16 - n ≡ suc (15 - n) = omega arith in
    ap (λ (k : ℕ). (number_of f n * 256 + f n) * 2 ^ (8 * k)) rest
    ∙ place_sum (number_of f n) (f n) (15 - n) (h n (omega arith))
    ∙ ap (λ (k : ℕ). bit_xor (number_of f n * 2 ^ (8 * k)) (f n * 2 ^ (8 * (15 - n)))) (sym more)
    ∙ ap (λ (s : ℕ). bit_xor s (f n * 2 ^ (8 * (15 - n)))) (number_of-places f n (omega arith) (λ p l. h p (omega arith)))

-- a block as the sum of its bytes, each from the first place on times a power of u
number_of-sum : (f : ℕ → ℕ) → ((p : ℕ) → p < 16 → f p < 256) → number_of f 16 ≡ sum_below (λ p. times_power (8 * p) (f p * 2 ^ 120)) 16
number_of-sum f h =
    let one : number_of f 16 ≡ number_of f 16 * 2 ^ (8 * (16 - 16)) = omega arith in
    one ∙ number_of-places f 16 (omega arith) h ∙ sum_below-same (λ p. f p * 2 ^ (8 * (15 - p))) (λ p. times_power (8 * p) (f p * 2 ^ 120)) 16 (λ p l.
    let whole : 8 * (15 - p) + 8 * p ≡ 120 = omega arith in
    sym (ap (λ (k : ℕ). times_power (8 * p) (f p * 2 ^ k)) (sym whole) ∙ times_power-shift (8 * p) (8 * (15 - p)) (f p)))

byte_of-lt : (b n : ℕ) → byte_of b n < 256
unfolding byte_of
byte_of-lt b n = omega arith

number_of-own : (x : ℕ) → x < 2 ^ 128 → number_of (λ b. byte_of b x) 16 ≡ x
number_of-own x fits = number_of-bytes x 16 (omega arith) fits ∙ omega arith

bytes_with-is : (b h : ℕ) (f : ℕ → ℕ) → bytes_with b h f ≡ number_of (λ p. byte_of b (product (f p * 2 ^ 120) h)) 16
unfolding bytes_with
bytes_with-is b h f = refl

-- a product from the bytes of the products with each byte
pub product-bytes : (f : ℕ → ℕ) (h : ℕ) → ((p : ℕ) → p < 16 → f p < 256) → h < 2 ^ 128
    → sum_below (λ b. times_power (8 * b) (bytes_with b h f)) 16 ≡ product (number_of f 16) h
product-bytes f h bytes fits =
    let part : ℕ → ℕ = λ p. product (f p * 2 ^ 120) h in
    let cell : ℕ → ℕ → ℕ = λ b p. byte_of b (part p) * 2 ^ 120 in
    let row : (b : ℕ) → times_power (8 * b) (bytes_with b h f) ≡ sum_below (λ p. times_power (8 * b) (times_power (8 * p) (cell b p))) 16 =
    λ b. ap (times_power (8 * b)) (bytes_with-is b h f ∙ number_of-sum (λ p. byte_of b (part p)) (λ p l. byte_of-lt b (part p)))
    ∙ sum_below-linear (times_power (8 * b)) (times_power-xor (8 * b)) (λ p. times_power (8 * p) (cell b p)) 16 in
    let column : (p : ℕ) → sum_below (λ b. times_power (8 * b) (times_power (8 * p) (cell b p))) 16 ≡ times_power (8 * p) (part p) =
    λ p. sum_below-same (λ b. times_power (8 * b) (times_power (8 * p) (cell b p))) (λ b. times_power (8 * p) (times_power (8 * b) (cell b p))) 16 (λ b l. times_power-swap (8 * b) (8 * p) (cell b p))
    ∙ sym (sum_below-linear (times_power (8 * p)) (times_power-xor (8 * p)) (λ b. times_power (8 * b) (cell b p)) 16)
    ∙ ap (times_power (8 * p)) (sym (number_of-sum (λ b. byte_of b (part p)) (λ b l. byte_of-lt b (part p))) ∙ number_of-own (part p) (product-lt (f p * 2 ^ 120) h fits)) in
    sum_below-same (λ b. times_power (8 * b) (bytes_with b h f)) (λ b. sum_below (λ p. times_power (8 * b) (times_power (8 * p) (cell b p))) 16) 16 (λ b l. row b)
    ∙ sum_below-swap (λ b p. times_power (8 * b) (times_power (8 * p) (cell b p))) 16 16
    ∙ sum_below-same (λ p. sum_below (λ b. times_power (8 * b) (times_power (8 * p) (cell b p))) 16) (λ p. times_power (8 * p) (part p)) 16 (λ p l. column p)
    ∙ sym (ap (λ (x : ℕ). product x h) (number_of-sum f bytes)
    ∙ sum_below-linear (λ x. product x h) (λ a b. product-xor a b h) (λ p. times_power (8 * p) (f p * 2 ^ 120)) 16
    ∙ sum_below-same (λ p. product (times_power (8 * p) (f p * 2 ^ 120)) h) (λ p. times_power (8 * p) (part p)) 16 (λ p l.
    let byte = bytes p l in
    let block : f p * 2 ^ 120 < 2 ^ 128 = omega arith in
    product-times_power (8 * p) (f p * 2 ^ 120) h block fits))

-- what is gathered when the values from the fifteenth down are added, each before the rest is multiplied by u^8
unfoldable pub gathered : (ℕ → ℕ) → ℕ → ℕ
gathered f zero = f 15
gathered f (suc s) = bit_xor (times_power 8 (gathered f s)) (f (14 - s))

pub gathered-first : (f : ℕ → ℕ) (low high : ℕ) → low ≡ f 15 → high ≡ 0 → bit_xor low (times_power 128 high) ≡ gathered f 0
unfolding gathered
gathered-first f low high low_is none =
    ap (bit_xor low) (ap (times_power 128) none ∙ times_power-zero 128) ∙ xor_zero_r low ∙ low_is

pub gathered-next : (f : ℕ → ℕ) (s : ℕ) → bit_xor (times_power 8 (gathered f s)) (f (14 - s)) ≡ gathered f (s + 1)
unfolding gathered
gathered-next f s =
    let next : suc s ≡ s + 1 = omega arith in
    ap (gathered f) next

gathered-is : (f : ℕ → ℕ) (s : ℕ) → s ≤ 15 → gathered f s ≡ sum_below (λ i. times_power (8 * i) (f (15 - s + i))) (suc s)
unfolding gathered sum_below times_power
gathered-is f zero le = sym (xor_zero_l (f 15))
gathered-is f (suc s) le =
    let later : ℕ → ℕ = λ i. times_power (8 * i) (f (15 - s + i)) in
    let all : ℕ → ℕ = λ i. times_power (8 * i) (f (15 - suc s + i)) in
    let first : 14 - s ≡ 15 - suc s + 0 = omega arith in
    let each : (i : ℕ) → times_power 8 (later i) ≡ all (i + 1) =
    λ i.
    let power : 8 + 8 * i ≡ 8 * (i + 1) = omega arith in
    let place : 15 - s + i ≡ 15 - suc s + (i + 1) = omega arith in
    sym (times_power-add 8 (8 * i) (f (15 - s + i))) ∙ ap₂ (λ (k j : ℕ). times_power k (f j)) power place in
    ap (λ (v : ℕ). bit_xor (times_power 8 v) (f (14 - s))) (gathered-is f s (omega arith))
    ∙ ap₂ bit_xor (sum_below-linear (times_power 8) (times_power-xor 8) later (suc s) ∙ sum_below-same (λ i. times_power 8 (later i)) (λ i. all (i + 1)) (suc s) (λ i l. each i)) (ap f first)
    ∙ xor_comm (sum_below (λ i. all (i + 1)) (suc s)) (all 0)
    ∙ sym (sum_below-front all (suc s))

pub gathered-all : (f : ℕ → ℕ) → gathered f 15 ≡ sum_below (λ b. times_power (8 * b) (f b)) 16
gathered-all f =
    gathered-is f 15 (omega arith)
    ∙ sum_below-same (λ i. times_power (8 * i) (f (15 - 15 + i))) (λ b. times_power (8 * b) (f b)) 16 (λ i l.
    let same : 15 - 15 + i ≡ i = omega arith in
    ap (λ (j : ℕ). times_power (8 * i) (f j)) same)

-- a sum that is moved to the left
pub shifted-xor : (k a b : ℕ) → bit_xor a b * 2 ^ k ≡ bit_xor (a * 2 ^ k) (b * 2 ^ k)
shifted-xor k a b =
    let some : 0 < 2 ^ k = pow_pos k in
    let a_is : a * 2 ^ k + 0 ≡ a * 2 ^ k = omega arith in
    let b_is : b * 2 ^ k + 0 ≡ b * 2 ^ k = omega arith in
    let sum_is : bit_xor a b * 2 ^ k ≡ bit_xor a b * 2 ^ k + 0 = omega arith in
    sum_is ∙ sym (xor_block k a b 0 0 some some) ∙ ap₂ bit_xor a_is b_is

-- u^8 times a block: what falls off its end comes back times u^128
carry : ℕ → ℕ
carry n = bit_xor (n / 2 ^ 8) (times_power 128 (n % 2 ^ 8 * 2 ^ 120))

carry-xor : (a b : ℕ) → carry (bit_xor a b) ≡ bit_xor (carry a) (carry b)
unfolding carry
carry-xor a b =
    ap₂ bit_xor (xor_shr a b 8)
    (ap (λ (n : ℕ). times_power 128 (n * 2 ^ 120)) (xor_mod a b 8) ∙ ap (times_power 128) (shifted-xor 120 (a % 2 ^ 8) (b % 2 ^ 8)) ∙ times_power-xor 128 (a % 2 ^ 8 * 2 ^ 120) (b % 2 ^ 8 * 2 ^ 120))
    ∙ pairs (a / 2 ^ 8) (b / 2 ^ 8) (times_power 128 (a % 2 ^ 8 * 2 ^ 120)) (times_power 128 (b % 2 ^ 8 * 2 ^ 120))

eight_powers : (i : ℕ) → i < 128 → times_power 8 (2 ^ i) ≡ carry (2 ^ i)
unfolding times_power times_u carry
eight_powers = at_each 128 (λ i. times_power 8 (2 ^ i)) (λ i. carry (2 ^ i)) refl

low_eight : (n : ℕ) → n < 2 ^ 128 → times_power 8 n ≡ bit_xor (n / 2 ^ 8) (times_power 128 (n % 2 ^ 8 * 2 ^ 120))
unfolding carry
low_eight n fits = from_powers (times_power 8) carry 128 (times_power-xor 8) carry-xor eight_powers 128 (omega arith) n fits

high_eight : (n : ℕ) → n % 2 ^ 8 ≡ 0 → times_power 8 n ≡ n / 2 ^ 8
high_eight n whole =
    let parts : n ≡ n / 2 ^ 8 * 2 ^ (0 + 8) = omega arith in
    ap (times_power 8) parts ∙ times_power-shift 8 0 (n / 2 ^ 8) ∙ omega arith

-- one more byte gathered: low and high stand for low + u^128 high
pub gathered-more : (low high v : ℕ) → low < 2 ^ 128 → high % 2 ^ 8 ≡ 0
    → bit_xor (bit_xor (low / 2 ^ 8) v) (times_power 128 (bit_xor (low % 2 ^ 8 * 2 ^ 120) (high / 2 ^ 8)))
    ≡ bit_xor (times_power 8 (bit_xor low (times_power 128 high))) v
gathered-more low high v fits whole =
    let a : ℕ = low / 2 ^ 8 in
    let b : ℕ = times_power 128 (low % 2 ^ 8 * 2 ^ 120) in
    let c : ℕ = times_power 128 (high / 2 ^ 8) in
    let eighth : times_power 8 (bit_xor low (times_power 128 high)) ≡ bit_xor (bit_xor a b) c =
    times_power-xor 8 low (times_power 128 high)
    ∙ ap₂ bit_xor (low_eight low fits) (times_power-swap 8 128 high ∙ ap (times_power 128) (high_eight high whole)) in
    ap (bit_xor (bit_xor a v)) (times_power-xor 128 (low % 2 ^ 8 * 2 ^ 120) (high / 2 ^ 8))
    ∙ pairs a v b c ∙ ap (bit_xor (bit_xor a b)) (xor_comm v c) ∙ sym (xor_assoc (bit_xor a b) c v)
    ∙ ap (λ (s : ℕ). bit_xor s v) (sym eighth)

-- and the high part keeps zeros at its end, one byte less of them
pub zeros_left : (low high j : ℕ) → j ≤ 15 → high % 2 ^ (8 * j + 8) ≡ 0
    → (high % 2 ^ 8 ≡ 0) × (bit_xor (low % 2 ^ 8 * 2 ^ 120) (high / 2 ^ 8) % 2 ^ (8 * j) ≡ 0)
zeros_left low high j le whole =
    let split : high % 2 ^ (8 * j + 8) ≡ (high / 2 ^ 8 % 2 ^ (8 * j)) * 2 ^ 8 + high % 2 ^ 8 = mod-pow-add high (8 * j) 8 in
    let last : high % 2 ^ 8 ≡ 0 = omega arith in
    let rest : high / 2 ^ 8 % 2 ^ (8 * j) ≡ 0 = omega arith in
    let parts : 120 - 8 * j + 8 * j ≡ 120 = omega arith in
    let power : low % 2 ^ 8 * 2 ^ 120 ≡ low % 2 ^ 8 * 2 ^ (120 - 8 * j) * 2 ^ (8 * j) =
    ap (λ (k : ℕ). low % 2 ^ 8 * 2 ^ k) (sym parts) ∙ ap (λ (p : ℕ). low % 2 ^ 8 * p) (pow-add 2 (120 - 8 * j) (8 * j)) ∙ omega arith in
    let first : low % 2 ^ 8 * 2 ^ 120 % 2 ^ (8 * j) ≡ 0 = ap (λ (n : ℕ). n % 2 ^ (8 * j)) power ∙ mul-mod_left (low % 2 ^ 8 * 2 ^ (120 - 8 * j)) (2 ^ (8 * j)) in
    (last, xor_mod (low % 2 ^ 8 * 2 ^ 120) (high / 2 ^ 8) (8 * j) ∙ ap₂ bit_xor first rest)

-- u^128 times a block of which the last byte is 0
folded : ℕ → ℕ
folded n = bit_xor (bit_xor (bit_xor n (n / 2 ^ 1)) (n / 2 ^ 2)) (n / 2 ^ 7)

folded-xor : (a b : ℕ) → folded (bit_xor a b) ≡ bit_xor (folded a) (folded b)
unfolding folded
folded-xor a b =
    ap₂ bit_xor (ap₂ bit_xor (ap (bit_xor (bit_xor a b)) (xor_shr a b 1) ∙ pairs a b (a / 2 ^ 1) (b / 2 ^ 1)) (xor_shr a b 2)
    ∙ pairs (bit_xor a (a / 2 ^ 1)) (bit_xor b (b / 2 ^ 1)) (a / 2 ^ 2) (b / 2 ^ 2)) (xor_shr a b 7)
    ∙ pairs (bit_xor (bit_xor a (a / 2 ^ 1)) (a / 2 ^ 2)) (bit_xor (bit_xor b (b / 2 ^ 1)) (b / 2 ^ 2)) (a / 2 ^ 7) (b / 2 ^ 7)

folded_powers : (i : ℕ) → i < 120 → times_power 128 (2 ^ i * 2 ^ 8) ≡ folded (2 ^ i * 2 ^ 8)
unfolding times_power times_u folded
folded_powers = at_each 120 (λ i. times_power 128 (2 ^ i * 2 ^ 8)) (λ i. folded (2 ^ i * 2 ^ 8)) refl

pub times_power-folded : (n : ℕ) → n < 2 ^ 128 → n % 2 ^ 8 ≡ 0
    → times_power 128 n ≡ bit_xor (bit_xor (bit_xor n (n / 2 ^ 1)) (n / 2 ^ 2)) (n / 2 ^ 7)
unfolding folded
times_power-folded n fits whole =
    let parts : n ≡ n / 2 ^ 8 * 2 ^ 8 = omega arith in
    let small : n / 2 ^ 8 < 2 ^ 120 = omega arith in
    ap (times_power 128) parts
    ∙ from_powers (λ c. times_power 128 (c * 2 ^ 8)) (λ c. folded (c * 2 ^ 8)) 120
    (λ a b. ap (times_power 128) (shifted-xor 8 a b) ∙ times_power-xor 128 (a * 2 ^ 8) (b * 2 ^ 8))
    (λ a b. ap folded (shifted-xor 8 a b) ∙ folded-xor (a * 2 ^ 8) (b * 2 ^ 8))
    folded_powers 120 (omega arith) (n / 2 ^ 8) small
    ∙ ap folded (sym parts)
