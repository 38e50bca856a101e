-- Laws of the field's sum and product, and of bytes.
use Rattle.std.proofs.Common.{◌≡◌, ℕ, zero, suc, ◌<◌, ◌*◌, ◌/◌, ◌%◌, ◌^◌, List, [], ◌∷◌, map, get_or, bit_xor, min, refl, sym, ap, ◌∙◌, arith, inl, inr, zero-mul}
use Rattle.std.proofs.lemmas.List.FromFn.{get_or-map-range_with_len}
use Rattle.std.proofs.lemmas.Bool.{cases_lt}
use Rattle.std.specs.List.{range_with_len}
use lib.Bits.{xor_assoc, xor_comm, xor_self, xor_zero_l, xor_zero_r, xor_lt, xor_mod, xor_shr}
use Rattle.aes_lanes.specs.Field.{xtimes, partial_product, multiply, power, inverse, affine_map, sbox, inverse_affine_map, inverse_sbox}
use Rattle.aes_lanes.specs.Rounds.{sum_of}

-- two functions that agree on each byte, from their tables
pub at_each : {A : Type 0} (f g : ℕ → A) → map f (range_with_len 0 256) ≡ map g (range_with_len 0 256)
    → (x : ℕ) → x < 256 → f x ≡ g x
at_each f g e x h =
    sym (get_or-map-range_with_len f 0 256 x x (f x) h (omega arith))
    ∙ ap (λ l. get_or l x (f x)) e ∙ get_or-map-range_with_len g 0 256 x x (f x) h (omega arith)

pub xor_exchange : (a b c d : ℕ) → bit_xor (bit_xor a b) (bit_xor c d) ≡ bit_xor (bit_xor a c) (bit_xor b d)
xor_exchange a b c d =
    xor_assoc a b (bit_xor c d)
    ∙ ap (bit_xor a) (sym (xor_assoc b c d) ∙ ap (λ x. bit_xor x d) (xor_comm b c) ∙ xor_assoc c b d)
    ∙ sym (xor_assoc a c (bit_xor b d))

-- a function that takes sums to sums
pub record IsAdditive (f : ℕ → ℕ) : Type 0 where
  pub sum : (x y : ℕ) → f (bit_xor x y) ≡ bit_xor (f x) (f y)

additive-sum_of : (f : ℕ → ℕ) → IsAdditive f → (a b c d : ℕ) → f (sum_of a b c d) ≡ sum_of (f a) (f b) (f c) (f d)
additive-sum_of f add a b c d =
    add.sum (bit_xor (bit_xor a b) c) d
    ∙ ap (λ x. bit_xor x (f d)) (add.sum (bit_xor a b) c ∙ ap (λ x. bit_xor x (f c)) (add.sum a b))

-- the sum of two sums, place by place
sum_of-xor : (a b c d p q r s : ℕ)
    → bit_xor (sum_of a b c d) (sum_of p q r s) ≡ sum_of (bit_xor a p) (bit_xor b q) (bit_xor c r) (bit_xor d s)
sum_of-xor a b c d p q r s =
    xor_exchange (bit_xor (bit_xor a b) c) d (bit_xor (bit_xor p q) r) s
    ∙ ap (λ x. bit_xor x (bit_xor d s))
    (xor_exchange (bit_xor a b) c (bit_xor p q) r ∙ ap (λ x. bit_xor x (bit_xor c r)) (xor_exchange a b p q))

-- a sum by rows is the sum by columns
sum_of-columns : (a0 b0 c0 d0 a1 b1 c1 d1 a2 b2 c2 d2 a3 b3 c3 d3 : ℕ)
    → sum_of (sum_of a0 b0 c0 d0) (sum_of a1 b1 c1 d1) (sum_of a2 b2 c2 d2) (sum_of a3 b3 c3 d3)
    ≡ sum_of (sum_of a0 a1 a2 a3) (sum_of b0 b1 b2 b3) (sum_of c0 c1 c2 c3) (sum_of d0 d1 d2 d3)
sum_of-columns a0 b0 c0 d0 a1 b1 c1 d1 a2 b2 c2 d2 a3 b3 c3 d3 =
    ap (λ x. bit_xor (bit_xor x (sum_of a2 b2 c2 d2)) (sum_of a3 b3 c3 d3)) (sum_of-xor a0 b0 c0 d0 a1 b1 c1 d1)
    ∙ ap (λ x. bit_xor x (sum_of a3 b3 c3 d3))
    (sum_of-xor (bit_xor a0 a1) (bit_xor b0 b1) (bit_xor c0 c1) (bit_xor d0 d1) a2 b2 c2 d2)
    ∙ sum_of-xor (bit_xor (bit_xor a0 a1) a2) (bit_xor (bit_xor b0 b1) b2) (bit_xor (bit_xor c0 c1) c2) (bit_xor (bit_xor d0 d1) d2) a3 b3 c3 d3

-- a row of additive functions, on four sums
pub row-sum : (f g h k : ℕ → ℕ) → IsAdditive f → IsAdditive g → IsAdditive h → IsAdditive k
    → (a0 b0 c0 d0 a1 b1 c1 d1 a2 b2 c2 d2 a3 b3 c3 d3 : ℕ)
    → sum_of (f (sum_of a0 b0 c0 d0)) (g (sum_of a1 b1 c1 d1)) (h (sum_of a2 b2 c2 d2)) (k (sum_of a3 b3 c3 d3))
    ≡ sum_of (sum_of (f a0) (g a1) (h a2) (k a3)) (sum_of (f b0) (g b1) (h b2) (k b3))
    (sum_of (f c0) (g c1) (h c2) (k c3)) (sum_of (f d0) (g d1) (h d2) (k d3))
row-sum f g h k af ag ah ak a0 b0 c0 d0 a1 b1 c1 d1 a2 b2 c2 d2 a3 b3 c3 d3 =
    rw (additive-sum_of f af a0 b0 c0 d0, additive-sum_of g ag a1 b1 c1 d1, additive-sum_of h ah a2 b2 c2 d2, additive-sum_of k ak a3 b3 c3 d3)
    (sum_of-columns (f a0) (f b0) (f c0) (f d0) (g a1) (g b1) (g c1) (g d1) (h a2) (h b2) (h c2) (h d2) (k a3) (k b3) (k c3) (k d3))

-- one coefficient times a byte
bit_times-xor : (a b c : ℕ) → bit_xor b c % 2 * a ≡ bit_xor (b % 2 * a) (c % 2 * a)
bit_times-xor a b c = ap (λ n. n * a) (xor_mod b c 1) ∙ elim (cases_lt (b % 2) 1) [
  | inl b0 ↦
      let eb : b % 2 ≡ 0 = omega arith in
      rw eb (simp (zero-mul, xor_zero_l))
  | inr b1 ↦
      let eb : b % 2 ≡ 1 = omega arith in
      elim (cases_lt (c % 2) 1) [
        | inl c0 ↦ let ec : c % 2 ≡ 0 = omega arith in rw (eb, ec, zero-mul, xor_zero_r) refl
        | inr c1 ↦ let ec : c % 2 ≡ 1 = omega arith in rw (eb, ec, zero-mul, xor_self) refl
      ]
]

partial_product-xor : (n a b c : ℕ)
    → partial_product n a (bit_xor b c) ≡ bit_xor (partial_product n a b) (partial_product n a c)
unfolding partial_product
partial_product-xor zero a b c = refl
partial_product-xor (suc n) a b c =
    ap (λ x. bit_xor x (partial_product n (xtimes a) (bit_xor b c / 2))) (bit_times-xor a b c)
    ∙ ap (bit_xor (bit_xor (b % 2 * a) (c % 2 * a)))
    (ap (partial_product n (xtimes a)) (xor_shr b c 1) ∙ partial_product-xor n (xtimes a) (b / 2) (c / 2))
    ∙ xor_exchange (b % 2 * a) (c % 2 * a) (partial_product n (xtimes a) (b / 2)) (partial_product n (xtimes a) (c / 2))

pub multiply-additive : (a : ℕ) → IsAdditive (multiply a)
unfolding multiply
multiply-additive a = record { sum = λ b c. partial_product-xor 8 a b c }

pub same-additive : IsAdditive (λ x. x)
same-additive = record { sum = λ x y. refl }

-- products and sums of bytes are bytes
pub xtimes-lt : (b : ℕ) → b < 256 → xtimes b < 256
unfolding xtimes
xtimes-lt b h =
    let low : b * 2 % 256 < 2 ^ 8 = omega arith in
    let high : b / 128 * 0x1b < 2 ^ 8 = omega arith in
    xor_lt 8 (b * 2 % 256) (b / 128 * 0x1b) low high

bit_times-lt : (a b : ℕ) → a < 256 → b % 2 * a < 256
bit_times-lt a b h = elim (cases_lt (b % 2) 1) [
  | inl b0 ↦ let e : b % 2 ≡ 0 = omega arith in rw (e, zero-mul) (omega arith)
  | inr b1 ↦ let e : b % 2 ≡ 1 = omega arith in rw e (omega arith)
]

partial_product-lt : (n a b : ℕ) → a < 256 → partial_product n a b < 256
unfolding partial_product
partial_product-lt zero a b h = omega arith
partial_product-lt (suc n) a b h =
    xor_lt 8 (b % 2 * a) (partial_product n (xtimes a) (b / 2)) (bit_times-lt a b h)
    (partial_product-lt n (xtimes a) (b / 2) (xtimes-lt a h))

pub multiply-lt : (a b : ℕ) → a < 256 → multiply a b < 256
unfolding multiply
multiply-lt a b h = partial_product-lt 8 a b h

pub sum_of-lt : (a b c d : ℕ) → a < 256 → b < 256 → c < 256 → d < 256 → sum_of a b c d < 256
sum_of-lt a b c d ha hb hc hd =
    xor_lt 8 (bit_xor (bit_xor a b) c) d (xor_lt 8 (bit_xor a b) c (xor_lt 8 a b ha hb) hc) hd

-- the inverse of each byte, in order. The power 254 is computed here alone: what follows goes by this table
unfoldable pub inverses : List ℕ
inverses =
    0x00 ∷ 0x01 ∷ 0x8d ∷ 0xf6 ∷ 0xcb ∷ 0x52 ∷ 0x7b ∷ 0xd1 ∷ 0xe8 ∷ 0x4f ∷ 0x29 ∷ 0xc0 ∷ 0xb0 ∷ 0xe1 ∷ 0xe5 ∷ 0xc7 ∷
    0x74 ∷ 0xb4 ∷ 0xaa ∷ 0x4b ∷ 0x99 ∷ 0x2b ∷ 0x60 ∷ 0x5f ∷ 0x58 ∷ 0x3f ∷ 0xfd ∷ 0xcc ∷ 0xff ∷ 0x40 ∷ 0xee ∷ 0xb2 ∷
    0x3a ∷ 0x6e ∷ 0x5a ∷ 0xf1 ∷ 0x55 ∷ 0x4d ∷ 0xa8 ∷ 0xc9 ∷ 0xc1 ∷ 0x0a ∷ 0x98 ∷ 0x15 ∷ 0x30 ∷ 0x44 ∷ 0xa2 ∷ 0xc2 ∷
    0x2c ∷ 0x45 ∷ 0x92 ∷ 0x6c ∷ 0xf3 ∷ 0x39 ∷ 0x66 ∷ 0x42 ∷ 0xf2 ∷ 0x35 ∷ 0x20 ∷ 0x6f ∷ 0x77 ∷ 0xbb ∷ 0x59 ∷ 0x19 ∷
    0x1d ∷ 0xfe ∷ 0x37 ∷ 0x67 ∷ 0x2d ∷ 0x31 ∷ 0xf5 ∷ 0x69 ∷ 0xa7 ∷ 0x64 ∷ 0xab ∷ 0x13 ∷ 0x54 ∷ 0x25 ∷ 0xe9 ∷ 0x09 ∷
    0xed ∷ 0x5c ∷ 0x05 ∷ 0xca ∷ 0x4c ∷ 0x24 ∷ 0x87 ∷ 0xbf ∷ 0x18 ∷ 0x3e ∷ 0x22 ∷ 0xf0 ∷ 0x51 ∷ 0xec ∷ 0x61 ∷ 0x17 ∷
    0x16 ∷ 0x5e ∷ 0xaf ∷ 0xd3 ∷ 0x49 ∷ 0xa6 ∷ 0x36 ∷ 0x43 ∷ 0xf4 ∷ 0x47 ∷ 0x91 ∷ 0xdf ∷ 0x33 ∷ 0x93 ∷ 0x21 ∷ 0x3b ∷
    0x79 ∷ 0xb7 ∷ 0x97 ∷ 0x85 ∷ 0x10 ∷ 0xb5 ∷ 0xba ∷ 0x3c ∷ 0xb6 ∷ 0x70 ∷ 0xd0 ∷ 0x06 ∷ 0xa1 ∷ 0xfa ∷ 0x81 ∷ 0x82 ∷
    0x83 ∷ 0x7e ∷ 0x7f ∷ 0x80 ∷ 0x96 ∷ 0x73 ∷ 0xbe ∷ 0x56 ∷ 0x9b ∷ 0x9e ∷ 0x95 ∷ 0xd9 ∷ 0xf7 ∷ 0x02 ∷ 0xb9 ∷ 0xa4 ∷
    0xde ∷ 0x6a ∷ 0x32 ∷ 0x6d ∷ 0xd8 ∷ 0x8a ∷ 0x84 ∷ 0x72 ∷ 0x2a ∷ 0x14 ∷ 0x9f ∷ 0x88 ∷ 0xf9 ∷ 0xdc ∷ 0x89 ∷ 0x9a ∷
    0xfb ∷ 0x7c ∷ 0x2e ∷ 0xc3 ∷ 0x8f ∷ 0xb8 ∷ 0x65 ∷ 0x48 ∷ 0x26 ∷ 0xc8 ∷ 0x12 ∷ 0x4a ∷ 0xce ∷ 0xe7 ∷ 0xd2 ∷ 0x62 ∷
    0x0c ∷ 0xe0 ∷ 0x1f ∷ 0xef ∷ 0x11 ∷ 0x75 ∷ 0x78 ∷ 0x71 ∷ 0xa5 ∷ 0x8e ∷ 0x76 ∷ 0x3d ∷ 0xbd ∷ 0xbc ∷ 0x86 ∷ 0x57 ∷
    0x0b ∷ 0x28 ∷ 0x2f ∷ 0xa3 ∷ 0xda ∷ 0xd4 ∷ 0xe4 ∷ 0x0f ∷ 0xa9 ∷ 0x27 ∷ 0x53 ∷ 0x04 ∷ 0x1b ∷ 0xfc ∷ 0xac ∷ 0xe6 ∷
    0x7a ∷ 0x07 ∷ 0xae ∷ 0x63 ∷ 0xc5 ∷ 0xdb ∷ 0xe2 ∷ 0xea ∷ 0x94 ∷ 0x8b ∷ 0xc4 ∷ 0xd5 ∷ 0x9d ∷ 0xf8 ∷ 0x90 ∷ 0x6b ∷
    0xb1 ∷ 0x0d ∷ 0xd6 ∷ 0xeb ∷ 0xc6 ∷ 0x0e ∷ 0xcf ∷ 0xad ∷ 0x08 ∷ 0x4e ∷ 0xd7 ∷ 0xe3 ∷ 0x5d ∷ 0x50 ∷ 0x1e ∷ 0xb3 ∷
    0x5b ∷ 0x23 ∷ 0x38 ∷ 0x34 ∷ 0x68 ∷ 0x46 ∷ 0x03 ∷ 0x8c ∷ 0xdd ∷ 0x9c ∷ 0x7d ∷ 0xa0 ∷ 0xcd ∷ 0x1a ∷ 0x41 ∷ 0x1c ∷ []

unfoldable pub inverse_by_table : ℕ → ℕ
inverse_by_table x = get_or inverses x 0

pub inverse-by_table : (x : ℕ) → x < 256 → inverse x ≡ inverse_by_table x
unfolding xtimes partial_product multiply power inverse inverses inverse_by_table
inverse-by_table = at_each inverse inverse_by_table refl

unfoldable pub sbox_by_table : ℕ → ℕ
sbox_by_table x = affine_map (inverse_by_table x)

pub sbox-by_table : (x : ℕ) → x < 256 → sbox x ≡ sbox_by_table x
unfolding sbox sbox_by_table
sbox-by_table x h = ap affine_map (inverse-by_table x h)

inverse_affine_map-mod : (x : ℕ) → x < 256 → inverse_affine_map x % 256 ≡ inverse_affine_map x
unfolding inverse_affine_map
inverse_affine_map-mod = at_each (λ x. inverse_affine_map x % 256) inverse_affine_map refl

pub inverse_affine_map-lt : (x : ℕ) → x < 256 → inverse_affine_map x < 256
inverse_affine_map-lt x h = let e = inverse_affine_map-mod x h in omega (arith, e)

unfoldable pub inverse_sbox_by_table : ℕ → ℕ
inverse_sbox_by_table x = inverse_by_table (inverse_affine_map x)

pub inverse_sbox-by_table : (x : ℕ) → x < 256 → inverse_sbox x ≡ inverse_sbox_by_table x
unfolding inverse_sbox inverse_sbox_by_table
inverse_sbox-by_table x h = inverse-by_table (inverse_affine_map x) (inverse_affine_map-lt x h)

-- each byte times its inverse, and 0 at 0
pub multiply-inverse : (x : ℕ) → x < 256 → multiply x (inverse x) ≡ min x 1
unfolding xtimes partial_product multiply inverses inverse_by_table
multiply-inverse x h =
    ap (multiply x) (inverse-by_table x h) ∙ at_each (λ x. multiply x (inverse_by_table x)) (λ x. min x 1) refl x h

-- the S-box and its inverse take bytes to bytes, and undo each other
sbox-mod : (x : ℕ) → x < 256 → sbox_by_table x % 256 ≡ sbox_by_table x
unfolding inverses inverse_by_table affine_map sbox_by_table
sbox-mod = at_each (λ x. sbox_by_table x % 256) sbox_by_table refl

pub sbox-lt : (x : ℕ) → x < 256 → sbox x < 256
sbox-lt x h = let e = sbox-by_table x h in let low = sbox-mod x h in omega (arith, e, low)

inverse_sbox-mod : (x : ℕ) → x < 256 → inverse_sbox_by_table x % 256 ≡ inverse_sbox_by_table x
unfolding inverses inverse_by_table inverse_affine_map inverse_sbox_by_table
inverse_sbox-mod = at_each (λ x. inverse_sbox_by_table x % 256) inverse_sbox_by_table refl

pub inverse_sbox-lt : (x : ℕ) → x < 256 → inverse_sbox x < 256
inverse_sbox-lt x h = let e = inverse_sbox-by_table x h in let low = inverse_sbox-mod x h in omega (arith, e, low)

pub inverse_sbox-sbox : (x : ℕ) → x < 256 → inverse_sbox (sbox x) ≡ x
unfolding inverses inverse_by_table affine_map sbox_by_table inverse_affine_map inverse_sbox_by_table
inverse_sbox-sbox x h =
    inverse_sbox-by_table (sbox x) (sbox-lt x h) ∙ ap inverse_sbox_by_table (sbox-by_table x h)
    ∙ at_each (λ x. inverse_sbox_by_table (sbox_by_table x)) (λ x. x) refl x h

pub sbox-inverse_sbox : (x : ℕ) → x < 256 → sbox (inverse_sbox x) ≡ x
unfolding inverses inverse_by_table affine_map sbox_by_table inverse_affine_map inverse_sbox_by_table
sbox-inverse_sbox x h =
    sbox-by_table (inverse_sbox x) (inverse_sbox-lt x h) ∙ ap sbox_by_table (inverse_sbox-by_table x h)
    ∙ at_each (λ x. sbox_by_table (inverse_sbox_by_table x)) (λ x. x) refl x h
