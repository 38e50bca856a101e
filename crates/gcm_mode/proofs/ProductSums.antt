-- Sums of products of blocks and powers, from the bytes of the products with their bytes.
use Rattle.std.proofs.Common.{◌≡◌, ℕ, suc, ◌+◌, ◌*◌, ◌<◌, ◌≤◌, List, [], ◌∷◌, length, get_or, drop, bit_xor, refl, sym, ap, ap₂, ◌∙◌, arith}
use lib.Bits.{xor_assoc, xor_self, xor_zero_l, xor_zero_r}
use Rattle.std.proofs.lemmas.List.{drop_all, drop_more}
use Rattle.gcm_mode.specs.Field.{product, times_power}
use Rattle.gcm_mode.specs.Pairs.{IsPair, bytes_with, lane}
use Rattle.gcm_mode.specs.Products.{HaveRows, bytes_sum, products_sum}
use Rattle.gcm_mode.specs.Tables.{block_in, byte_in}
use Rattle.gcm_mode.specs.declared.vectors.Nibbles.{Nibbles}
use Rattle.gcm_mode.specs.declared.tables.Pair.{Pair}
use Rattle.gcm_mode.proofs.Algebra.{times_power-xor}
use Rattle.gcm_mode.proofs.FieldSums.{gathered, gathered-all, product-bytes, sum_below, sum_below-same, sum_below-xor, sum_below-zero}
use Rattle.gcm_mode.proofs.Lanes.{lane-lt}

pub byte_in-lt : (l : ℕ) (x : Nibbles) (p : ℕ) → byte_in l x p < 256
byte_in-lt l x p =
    let high = x.high_nibbles.nibbles (16 * l + p) in
    let low = x.low_nibbles.nibbles (16 * l + p) in
    omega (arith, high, low)

one_product : (l : ℕ) (p : Pair) (x : Nibbles) → IsPair p.powers → sum_below (λ b. times_power (8 * b) (bytes_with b (lane l p.powers) (byte_in l x))) 16 ≡ product (block_in l x) (lane l p.powers)
unfolding block_in
one_product l p x pair = product-bytes (byte_in l x) (lane l p.powers) (λ k lt. byte_in-lt l x k) (lane-lt l p.powers pair)

nothing : sum_below (λ b. times_power (8 * b) 0) 16 ≡ 0
nothing =
    sum_below-same (λ b. times_power (8 * b) 0) (λ b. 0) 16 (λ b lt. times_power-xor (8 * b) 0 0 ∙ xor_self (times_power (8 * b) 0))
    ∙ sum_below-zero 16

all_products : (l : ℕ) (ps : List Pair) (xs : List Nibbles) → HaveRows ps → sum_below (λ b. times_power (8 * b) (bytes_sum b l ps xs)) 16 ≡ products_sum l ps xs
unfolding bytes_sum products_sum
all_products l [] xs rows = nothing
all_products l (p ∷ ps) [] rows = nothing
all_products l (p ∷ ps) (x ∷ xs) rows =
    let first : ℕ → ℕ = λ b. bytes_with b (lane l p.powers) (byte_in l x) in
    let rest : ℕ → ℕ = λ b. bytes_sum b l ps xs in
    sum_below-same (λ b. times_power (8 * b) (bit_xor (first b) (rest b))) (λ b. bit_xor (times_power (8 * b) (first b)) (times_power (8 * b) (rest b))) 16 (λ b lt. times_power-xor (8 * b) (first b) (rest b))
    ∙ sum_below-xor (λ b. times_power (8 * b) (first b)) (λ b. times_power (8 * b) (rest b)) 16
    ∙ ap₂ bit_xor (one_product l p x (rows p 0 (omega arith)).pair) (all_products l ps xs (λ none i lt. rows none (suc i) (omega arith)))

-- what is gathered of all bytes
pub gathered-products : (l : ℕ) (ps : List Pair) (xs : List Nibbles) → HaveRows ps → gathered (λ b. bytes_sum b l ps xs) 15 ≡ products_sum l ps xs
gathered-products l ps xs rows = gathered-all (λ b. bytes_sum b l ps xs) ∙ all_products l ps xs rows

one_more : (b l : ℕ) (p : Pair) (x : Nibbles) (ps : List Pair) (xs : List Nibbles) → bytes_sum b l (p ∷ ps) (x ∷ xs) ≡ bit_xor (bytes_with b (lane l p.powers) (byte_in l x)) (bytes_sum b l ps xs)
unfolding bytes_sum
one_more b l p x ps xs = refl

-- a sum so far, and what is left of it
pub bytes_sum-start : (b l : ℕ) (ps : List Pair) (xs : List Nibbles) (sum : ℕ) → sum ≡ 0 → bit_xor sum (bytes_sum b l (drop 0 ps) (drop 0 xs)) ≡ bytes_sum b l ps xs
bytes_sum-start b l ps xs sum none = ap (λ (s : ℕ). bit_xor s (bytes_sum b l ps xs)) none ∙ xor_zero_l (bytes_sum b l ps xs)

pub bytes_sum-more : (b l i sum next : ℕ) (ps : List Pair) (xs : List Nibbles) (p : Pair) (x : Nibbles) → i < length ps → i < length xs
    → p ≡ get_or ps i p → x ≡ get_or xs i x → next ≡ bit_xor sum (bytes_with b (lane l p.powers) (byte_in l x))
    → bit_xor next (bytes_sum b l (drop (i + 1) ps) (drop (i + 1) xs)) ≡ bit_xor sum (bytes_sum b l (drop i ps) (drop i xs))
bytes_sum-more b l i sum next ps xs p x in_ps in_xs p_is x_is next_is =
    let first : ℕ = bytes_with b (lane l p.powers) (byte_in l x) in
    let rest : ℕ = bytes_sum b l (drop (i + 1) ps) (drop (i + 1) xs) in
    let ps_is : drop i ps ≡ p ∷ drop (i + 1) ps = drop_more ps i p in_ps ∙ ap (λ (q : Pair). q ∷ drop (i + 1) ps) (sym p_is) in
    let xs_is : drop i xs ≡ x ∷ drop (i + 1) xs = drop_more xs i x in_xs ∙ ap (λ (y : Nibbles). y ∷ drop (i + 1) xs) (sym x_is) in
    ap (λ (s : ℕ). bit_xor s rest) next_is ∙ xor_assoc sum first rest
    ∙ ap (bit_xor sum) (sym (ap₂ (bytes_sum b l) ps_is xs_is ∙ one_more b l p x (drop (i + 1) ps) (drop (i + 1) xs)))

pub bytes_sum-end : (b l i sum : ℕ) (ps : List Pair) (xs : List Nibbles) → length ps ≤ i → bit_xor sum (bytes_sum b l (drop i ps) (drop i xs)) ≡ sum
unfolding bytes_sum
bytes_sum-end b l i sum ps xs past =
    ap (λ (qs : List Pair). bit_xor sum (bytes_sum b l qs (drop i xs))) (drop_all i ps past) ∙ xor_zero_r sum
