-- Vectors of bytes, lane by lane.
use Rattle.std.proofs.Common.{◌≡◌, ℕ, zero, suc, ◌*◌, ◌/◌, ◌%◌, ◌^◌, ◌<◌, List, [], ◌∷◌, map, length, get_or, replicate, bit_and, bit_or, bit_xor, refl, sym, ap, ap₂, ◌∙◌, arith}
use Rattle.std.specs.Simd.Lanes.{zip2}
use Rattle.std.proofs.lemmas.List.{ext_get_or, get_or-map, length-replicate, get_or-replicate}
use Rattle.std.proofs.lemmas.Simd.{get_or-zip2, length-zip2, zip2_of_maps}
use lib.Bits.{and_mask, xor_assoc, xor_zero_l, xor_zero_r}
use Rattle.aes_lanes.specs.Bytes.{AreBytes}
use Rattle.aes_lanes.specs.Private.{AreLanes}
use Rattle.aes_lanes.specs.Field.{xtimes, partial_product, multiply, inverse, affine_map, inverse_affine_map}
use Rattle.aes_lanes.specs.Laws.Field.{at_each, inverses, inverse_by_table, inverse-by_table, xtimes-lt}

-- functions that agree on bytes agree on lanes
pub map-agree : (f g : ℕ → ℕ) → ((x : ℕ) → x < 256 → f x ≡ g x) → (xs : List ℕ) → AreBytes xs → map f xs ≡ map g xs
map-agree f g each [] bytes = refl
map-agree f g each (x ∷ xs) bytes = ap₂ ◌∷◌ (each x (bytes zero)) (map-agree f g each xs (λ k. bytes (suc k)))

pub map-itself : (xs : List ℕ) → xs ≡ map (λ x. x) xs
map-itself [] = refl
map-itself (x ∷ xs) = ap (λ l. x ∷ l) (map-itself xs)

-- a product that is gathered from a sum on, lowest coefficient first
unfoldable pub gathered_product : ℕ → ℕ → ℕ → ℕ → ℕ
gathered_product zero s a b = s
gathered_product (suc n) s a b = gathered_product n (bit_xor s (b % 2 * a % 2 ^ 8)) (xtimes a) (b / 2)

gathered_product-is : (n s a b : ℕ) → a < 256 → gathered_product n s a b ≡ bit_xor s (partial_product n a b)
unfolding gathered_product partial_product
gathered_product-is zero s a b fits = sym (xor_zero_r s)
gathered_product-is (suc n) s a b fits =
    let whole : b % 2 * a % 2 ^ 8 ≡ b % 2 * a = bit_times (b % 2) a (omega arith) fits in
    gathered_product-is n (bit_xor s (b % 2 * a % 2 ^ 8)) (xtimes a) (b / 2) (xtimes-lt a fits)
    ∙ ap (λ t. bit_xor (bit_xor s t) (partial_product n (xtimes a) (b / 2))) whole
    ∙ xor_assoc s (b % 2 * a) (partial_product n (xtimes a) (b / 2)) where
      bit_times : (c a : ℕ) → c < 2 → a < 256 → c * a % 2 ^ 8 ≡ c * a
      bit_times zero a c_fits a_fits = omega arith
      bit_times (suc zero) a c_fits a_fits = omega arith
      bit_times (suc (suc c)) a c_fits a_fits = absurd (omega arith)

pub gathered_product-whole : (a b : ℕ) → a < 256 → gathered_product 8 0 a b ≡ multiply a b
unfolding multiply
gathered_product-whole a b fits = gathered_product-is 8 0 a b fits ∙ xor_zero_l (partial_product 8 a b)

-- powers by squares and products
unfoldable pub power2 : ℕ → ℕ
power2 x = multiply x x

unfoldable pub power3 : ℕ → ℕ
power3 x = multiply (power2 x) x

unfoldable pub power6 : ℕ → ℕ
power6 x = multiply (power3 x) (power3 x)

unfoldable pub power12 : ℕ → ℕ
power12 x = multiply (power6 x) (power6 x)

unfoldable pub power15 : ℕ → ℕ
power15 x = multiply (power12 x) (power3 x)

unfoldable pub power30 : ℕ → ℕ
power30 x = multiply (power15 x) (power15 x)

unfoldable pub power60 : ℕ → ℕ
power60 x = multiply (power30 x) (power30 x)

unfoldable pub power120 : ℕ → ℕ
power120 x = multiply (power60 x) (power60 x)

unfoldable pub power240 : ℕ → ℕ
power240 x = multiply (power120 x) (power120 x)

unfoldable pub power252 : ℕ → ℕ
power252 x = multiply (power240 x) (power12 x)

unfoldable pub power254 : ℕ → ℕ
power254 x = multiply (power252 x) (power2 x)

pub power254-is : (x : ℕ) → x < 256 → power254 x ≡ inverse x
unfolding power2 power3 power6 power12 power15 power30 power60 power120 power240 power252 power254 xtimes partial_product multiply inverses inverse_by_table
power254-is x h = at_each power254 inverse_by_table refl x h ∙ sym (inverse-by_table x h)

-- what the code does to one lane
unfoldable pub times_x_lane : ℕ → ℕ
times_x_lane x = bit_xor (x * 2 ^ 1 % 2 ^ 8) (x / 2 ^ 7 * 0x1b % 2 ^ 8)

pub times_x_lane-is : (x : ℕ) → x < 256 → times_x_lane x ≡ xtimes x
unfolding times_x_lane xtimes
times_x_lane-is = at_each times_x_lane xtimes refl

unfoldable pub mapped_lane : ℕ → ℕ
mapped_lane x =
    bit_xor (bit_xor (bit_xor (bit_xor (bit_xor x (bit_or (x * 2 ^ 4 % 2 ^ 8) (x / 2 ^ 4))) (bit_or (x * 2 ^ 3 % 2 ^ 8) (x / 2 ^ 5)))
    (bit_or (x * 2 ^ 2 % 2 ^ 8) (x / 2 ^ 6))) (bit_or (x * 2 ^ 1 % 2 ^ 8) (x / 2 ^ 7))) 0x63

pub mapped_lane-is : (x : ℕ) → x < 256 → mapped_lane x ≡ affine_map x
unfolding mapped_lane affine_map
mapped_lane-is = at_each mapped_lane affine_map refl

unfoldable pub unmapped_lane : ℕ → ℕ
unmapped_lane x =
    bit_xor (bit_xor (bit_xor (bit_or (x * 2 ^ 6 % 2 ^ 8) (x / 2 ^ 2)) (bit_or (x * 2 ^ 3 % 2 ^ 8) (x / 2 ^ 5)))
    (bit_or (x * 2 ^ 1 % 2 ^ 8) (x / 2 ^ 7))) 0x05

pub unmapped_lane-is : (x : ℕ) → x < 256 → unmapped_lane x ≡ inverse_affine_map x
unfolding unmapped_lane inverse_affine_map
unmapped_lane-is = at_each unmapped_lane inverse_affine_map refl

same_gathered : (n s t a b c d : ℕ) → s ≡ t → a ≡ b → c ≡ d → gathered_product n s a c ≡ gathered_product n t b d
same_gathered n s t a b c d e f g = ap (λ x. gathered_product n x a c) e ∙ ap (λ x. gathered_product n t x c) f ∙ ap (gathered_product n t b) g

-- one more coefficient of the product of one lane
pub product-next : (n : ℕ) (sum multiple rest next : List ℕ) → length sum ≡ 64 → length multiple ≡ 64 → length rest ≡ 64
    → next ≡ map xtimes multiple → (k : ℕ) → k < 64
    → gathered_product (suc n) (get_or sum k 0) (get_or multiple k 0) (get_or rest k 0)
    ≡ gathered_product n (get_or (zip2 bit_xor sum (zip2 (λ a b. a * b % 2 ^ 8) (zip2 bit_and rest (replicate 64 1)) multiple)) k 0)
    (get_or next k 0) (get_or (zip2 (λ a b. a / 2 ^ b) rest (replicate 64 1)) k 0)
unfolding gathered_product
product-next n sum multiple rest next sum_long multiple_long rest_long doubled k lt =
    let ones : List ℕ = replicate 64 1 in
    let last : List ℕ = zip2 bit_and rest ones in
    let term : List ℕ = zip2 (λ a b. a * b % 2 ^ 8) last multiple in
    let last_long : length last ≡ 64 = length-zip2 bit_and rest ones (rest_long ∙ sym (length-replicate {A = ℕ} 64 1)) ∙ rest_long in
    let term_long : length term ≡ 64 = length-zip2 (λ a b. a * b % 2 ^ 8) last multiple (last_long ∙ sym multiple_long) ∙ last_long in
    let in_sum : k < length sum = omega arith in
    let in_multiple : k < length multiple = omega arith in
    let in_rest : k < length rest = omega arith in
    let in_last : k < length last = omega arith in
    let in_term : k < length term = omega arith in
    let in_ones : k < length ones = omega (arith, length-replicate {A = ℕ} 64 1) in
    let last_is : get_or last k 0 ≡ get_or rest k 0 % 2 =
    get_or-zip2 bit_and rest ones k 0 0 0 in_rest in_ones ∙ ap (bit_and (get_or rest k 0)) (get_or-replicate 64 k 1 0 lt)
    ∙ and_mask (get_or rest k 0) 1 in
    let term_is : get_or term k 0 ≡ get_or rest k 0 % 2 * get_or multiple k 0 % 2 ^ 8 =
    get_or-zip2 (λ a b. a * b % 2 ^ 8) last multiple k 0 0 0 in_last in_multiple ∙ ap (λ l. l * get_or multiple k 0 % 2 ^ 8) last_is in
    let sum_is : get_or (zip2 bit_xor sum term) k 0 ≡ bit_xor (get_or sum k 0) (get_or rest k 0 % 2 * get_or multiple k 0 % 2 ^ 8) =
    get_or-zip2 bit_xor sum term k 0 0 0 in_sum in_term ∙ ap (bit_xor (get_or sum k 0)) term_is in
    let next_is : get_or next k 0 ≡ xtimes (get_or multiple k 0) = ap (λ l. get_or l k 0) doubled ∙ get_or-map xtimes multiple k 0 0 in_multiple in
    let rest_is : get_or (zip2 (λ a b. a / 2 ^ b) rest ones) k 0 ≡ get_or rest k 0 / 2 =
    get_or-zip2 (λ a b. a / 2 ^ b) rest ones k 0 0 0 in_rest in_ones ∙ ap (λ t. get_or rest k 0 / 2 ^ t) (get_or-replicate 64 k 1 0 lt) in
    sym (same_gathered n _ _ _ _ _ _ sum_is next_is rest_is)

-- a vector whose lanes are products
pub product-done : (sum left right : List ℕ) → length sum ≡ 64 → length left ≡ 64 → length right ≡ 64
    → ((k : ℕ) → k < 64 → get_or sum k 0 ≡ multiply (get_or left k 0) (get_or right k 0)) → sum ≡ zip2 multiply left right
product-done sum left right sum_long left_long right_long each =
    let same : length (zip2 multiply left right) ≡ length left = length-zip2 multiply left right (left_long ∙ sym right_long) in
    ext_get_or 0 sum (zip2 multiply left right) (sum_long ∙ sym left_long ∙ sym same) (λ k lt.
    let here : k < 64 = omega arith in
    let in_left : k < length left = omega arith in
    let in_right : k < length right = omega arith in
    each k here ∙ sym (get_or-zip2 multiply left right k 0 0 0 in_left in_right))

-- at the start nothing is gathered
pub product-start : (left right : List ℕ) → AreLanes left → (k : ℕ) → k < 64
    → gathered_product 8 (get_or (replicate 64 0) k 0) (get_or left k 0) (get_or right k 0) ≡ multiply (get_or left k 0) (get_or right k 0)
product-start left right lanes k lt =
    ap (λ s. gathered_product 8 s (get_or left k 0) (get_or right k 0)) (get_or-replicate 64 k 0 0 lt)
    ∙ gathered_product-whole (get_or left k 0) (get_or right k 0) (lanes.bytes k)

-- the power of each lane
pub product-lanes : (f g : ℕ → ℕ) (v left right result : List ℕ) → left ≡ map f v → right ≡ map g v → result ≡ zip2 multiply left right
    → result ≡ map (λ x. multiply (f x) (g x)) v
product-lanes f g v left right result left_is right_is result_is = result_is ∙ zip2_of_maps multiply f g v left_is right_is
