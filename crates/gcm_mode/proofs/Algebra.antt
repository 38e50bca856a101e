-- Products distribute over sums, and are associative.
use Rattle.std.proofs.Common.{◌≡◌, ℕ, zero, suc, ◌+◌, ◌-◌, ◌*◌, ◌/◌, ◌%◌, ◌^◌, ◌<◌, ◌≤◌, bit_xor, map, get_or, refl, sym, ap, ap₂, ◌∙◌, arith, inl, inr}
use lib.Bits.{xor_lt, xor_self, xor_shifted, xor_zero_r}
use Rattle.std.specs.List.{range_with_len}
use Rattle.std.proofs.lemmas.Bool.{cases_lt}
use Rattle.std.proofs.lemmas.List.FromFn.{get_or-map-range_with_len}
use Rattle.std.proofs.lemmas.Nat.{pow-add}
use Rattle.std.proofs.lemmas.Nat.Bits.{bit_at-lt}
use Rattle.gcm_mode.specs.Field.{reduction, coefficient, times_u, times_power, terms, product}
use Rattle.gcm_mode.proofs.Linear.{pairs, zero-times, product-xor, product-zero}
use Rattle.gcm_mode.proofs.Halves.{times_u-xor, product-half}

-- one coefficient
pub coefficient-lt : (x i : ℕ) → coefficient x i < 2
unfolding coefficient
coefficient-lt x i = bit_at-lt x (127 - i)

one-times : (v : ℕ) → 1 * v ≡ v
one-times v = omega arith

coefficient-xor : (c a b : ℕ) → c < 2 → c * bit_xor a b ≡ bit_xor (c * a) (c * b)
coefficient-xor zero a b l = rw (zero-times (bit_xor a b), zero-times a, zero-times b) refl
coefficient-xor (suc zero) a b l = rw (one-times (bit_xor a b), one-times a, one-times b) refl
coefficient-xor (suc (suc c)) a b l = absurd (omega arith)

coefficient-product : (c v z : ℕ) → c < 2 → product (c * v) z ≡ c * product v z
coefficient-product zero v z l = rw (zero-times v, zero-times (product v z)) (product-zero z)
coefficient-product (suc zero) v z l = rw (one-times v, one-times (product v z)) refl
coefficient-product (suc (suc c)) v z l = absurd (omega arith)

-- a product distributes over a sum on its right
pub times_power-xor : (i a b : ℕ) → times_power i (bit_xor a b) ≡ bit_xor (times_power i a) (times_power i b)
unfolding times_power
times_power-xor zero a b = refl
times_power-xor (suc i) a b = ap times_u (times_power-xor i a b) ∙ times_u-xor (times_power i a) (times_power i b)

terms-sum : (n x y z : ℕ) → terms n x (bit_xor y z) ≡ bit_xor (terms n x y) (terms n x z)
unfolding terms
terms-sum zero x y z = refl
terms-sum (suc n) x y z =
    ap₂ bit_xor (terms-sum n x y z)
    (ap (λ v. coefficient x n * v) (times_power-xor n y z)
    ∙ coefficient-xor (coefficient x n) (times_power n y) (times_power n z) (coefficient-lt x n))
    ∙ pairs (terms n x y) (terms n x z) (coefficient x n * times_power n y) (coefficient x n * times_power n z)

pub product-sum : (x y z : ℕ) → product x (bit_xor y z) ≡ bit_xor (product x y) (product x z)
unfolding product
product-sum x y z = terms-sum 128 x y z

-- u times a block is a block
pub times_u-lt : (v : ℕ) → v < 2 ^ 128 → times_u v < 2 ^ 128
unfolding times_u
times_u-lt v l =
    let half : v / 2 < 2 ^ 128 = omega arith in
    let last : v % 2 * reduction < 2 ^ 128 = omega arith in
    xor_lt 128 (v / 2) (v % 2 * reduction) half last

pub times_power-lt : (i v : ℕ) → v < 2 ^ 128 → times_power i v < 2 ^ 128
unfolding times_power
times_power-lt zero v l = l
times_power-lt (suc i) v l = times_u-lt (times_power i v) (times_power-lt i v l)

-- two functions that take sums to sums and agree on each power of two agree on each number of so many bits
pub from_powers : (f g : ℕ → ℕ) (m : ℕ)
    → ((a b : ℕ) → f (bit_xor a b) ≡ bit_xor (f a) (f b)) → ((a b : ℕ) → g (bit_xor a b) ≡ bit_xor (g a) (g b))
    → ((i : ℕ) → i < m → f (2 ^ i) ≡ g (2 ^ i))
    → (n : ℕ) → n ≤ m → (x : ℕ) → x < 2 ^ n → f x ≡ g x
from_powers f g m f_sum g_sum each zero le x lt =
    let none : x ≡ 0 = omega arith in
    let f_zero : f 0 ≡ 0 = f_sum 0 0 ∙ xor_self (f 0) in
    let g_zero : g 0 ≡ 0 = g_sum 0 0 ∙ xor_self (g 0) in
    ap f none ∙ f_zero ∙ sym g_zero ∙ ap g (sym none)
from_powers f g m f_sum g_sum each (suc n) le x lt = elim (cases_lt x (2 ^ n)) [
  | inl below ↦ from_powers f g m f_sum g_sum each n (omega arith) x below
  | inr above ↦
      let next : suc n ≡ n + 1 = omega arith in
      let double : 2 ^ suc n ≡ 2 ^ n * 2 = ap (λ k. 2 ^ k) next ∙ pow-add 2 n 1 in
      let rest : x - 2 ^ n < 2 ^ n = omega (arith, double) in
      let whole : bit_xor (1 * 2 ^ n) (x - 2 ^ n) ≡ x = xor_shifted 1 n (x - 2 ^ n) rest ∙ omega arith in
      let parts : bit_xor (2 ^ n) (x - 2 ^ n) ≡ x = ap (λ p. bit_xor p (x - 2 ^ n)) (sym (one-times (2 ^ n))) ∙ whole in
      ap f (sym parts) ∙ f_sum (2 ^ n) (x - 2 ^ n)
      ∙ ap₂ bit_xor (each n (omega arith)) (from_powers f g m f_sum g_sum each n (omega arith) (x - 2 ^ n) rest)
      ∙ sym (g_sum (2 ^ n) (x - 2 ^ n)) ∙ ap g parts
]

pub at_each : (n : ℕ) (f g : ℕ → ℕ) → map f (range_with_len 0 n) ≡ map g (range_with_len 0 n) → (i : ℕ) → i < n → f i ≡ g i
at_each n f g e i h =
    sym (get_or-map-range_with_len f 0 n i i (f i) h (omega arith))
    ∙ ap (λ l. get_or l i (f i)) e ∙ get_or-map-range_with_len g 0 n i i (f i) h (omega arith)

-- the block whose last bit alone is set is u^127
last_power : (i : ℕ) → i < 128 → product 1 (2 ^ i) ≡ times_power 127 (2 ^ i)
unfolding product terms coefficient times_power times_u
last_power = at_each 128 (λ i. product 1 (2 ^ i)) (λ i. times_power 127 (2 ^ i)) refl

product-last : (h : ℕ) → h < 2 ^ 128 → product 1 h ≡ times_power 127 h
product-last h l =
    from_powers (product 1) (times_power 127) 128 (product-sum 1) (times_power-xor 127) last_power 128 (omega arith) h l

-- the block whose first bit alone is set is 1
first_power : (i : ℕ) → i < 128 → product (8 * 2 ^ 124) (2 ^ i) ≡ 2 ^ i
unfolding product terms coefficient times_power times_u
first_power = at_each 128 (λ i. product (8 * 2 ^ 124) (2 ^ i)) (λ i. 2 ^ i) refl

pub product-first : (h : ℕ) → h < 2 ^ 128 → product (8 * 2 ^ 124) h ≡ h
product-first h l =
    from_powers (product (8 * 2 ^ 124)) (λ n. n) 128 (product-sum (8 * 2 ^ 124)) (λ a b. refl) first_power 128 (omega arith) h l

-- the block R is u^128
next_power : (i : ℕ) → i < 128 → product reduction (2 ^ i) ≡ times_power 128 (2 ^ i)
unfolding product terms coefficient times_power times_u
next_power = at_each 128 (λ i. product reduction (2 ^ i)) (λ i. times_power 128 (2 ^ i)) refl

product-reduction : (h : ℕ) → h < 2 ^ 128 → product reduction h ≡ times_power 128 h
product-reduction h l =
    from_powers (product reduction) (times_power 128) 128 (product-sum reduction) (times_power-xor 128) next_power 128 (omega arith) h l

-- u goes in and out of a product
reduction-last : (h : ℕ) → h < 2 ^ 128 → product reduction h ≡ times_u (product 1 h)
unfolding times_power
reduction-last h l = product-reduction h l ∙ ap times_u (sym (product-last h l))

times_u-parts : (y : ℕ) → y % 2 ≡ 1 → times_u y ≡ bit_xor (y / 2) reduction
unfolding times_u
times_u-parts y odd = ap (λ c. bit_xor (y / 2) (c * reduction)) odd

pub times_u-half : (y : ℕ) → y % 2 ≡ 0 → times_u y ≡ y / 2
unfolding times_u
times_u-half y even = ap (λ c. bit_xor (y / 2) (c * reduction)) even ∙ xor_zero_r (y / 2)

product-times_u : (y h : ℕ) → y < 2 ^ 128 → h < 2 ^ 128 → product (times_u y) h ≡ times_u (product y h)
product-times_u y h y_fits h_fits = elim (cases_lt (y % 2) 1) [
  | inl zero_last ↦
      let even : y % 2 ≡ 0 = omega arith in
      ap (λ x. product x h) (times_u-half y even) ∙ product-half y h y_fits even
  | inr one_last ↦
      let odd : y % 2 ≡ 1 = omega arith in
      let front : ℕ = y / 2 * 2 in
      let parts : bit_xor front 1 ≡ y = xor_shifted (y / 2) 1 1 (omega arith) ∙ omega arith in
      let half : front / 2 ≡ y / 2 = omega arith in
      let whole : product y h ≡ bit_xor (product front h) (product 1 h) = ap (λ x. product x h) (sym parts) ∙ product-xor front 1 h in
      let halved : product (y / 2) h ≡ times_u (product front h) =
      ap (λ x. product x h) (sym half) ∙ product-half front h (omega arith) (omega arith) in
      ap (λ x. product x h) (times_u-parts y odd) ∙ product-xor (y / 2) reduction h
      ∙ ap₂ bit_xor halved (reduction-last h h_fits)
      ∙ sym (times_u-xor (product front h) (product 1 h)) ∙ ap times_u (sym whole)
]

pub product-times_power : (i y h : ℕ) → y < 2 ^ 128 → h < 2 ^ 128 → product (times_power i y) h ≡ times_power i (product y h)
unfolding times_power
product-times_power zero y h y_fits h_fits = refl
product-times_power (suc i) y h y_fits h_fits =
    product-times_u (times_power i y) h (times_power-lt i y y_fits) h_fits ∙ ap times_u (product-times_power i y h y_fits h_fits)

terms-product : (n x y z : ℕ) → y < 2 ^ 128 → z < 2 ^ 128 → product (terms n x y) z ≡ terms n x (product y z)
unfolding terms
terms-product zero x y z y_fits z_fits = product-zero z
terms-product (suc n) x y z y_fits z_fits =
    product-xor (terms n x y) (coefficient x n * times_power n y) z
    ∙ ap₂ bit_xor (terms-product n x y z y_fits z_fits)
    (coefficient-product (coefficient x n) (times_power n y) z (coefficient-lt x n)
    ∙ ap (λ v. coefficient x n * v) (product-times_power n y z y_fits z_fits))

product-expanded : (x y : ℕ) → product x y ≡ terms 128 x y
unfolding product
product-expanded x y = refl

pub product-regroup : (x y z : ℕ) → y < 2 ^ 128 → z < 2 ^ 128 → product (product x y) z ≡ product x (product y z)
product-regroup x y z y_fits z_fits =
    ap (λ p. product p z) (product-expanded x y) ∙ terms-product 128 x y z y_fits z_fits
    ∙ sym (product-expanded x (product y z))
