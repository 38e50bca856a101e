-- The columns of MIXCOLUMNS and INVMIXCOLUMNS undo each other.
use Rattle.std.proofs.Common.{◌≡◌, ℕ, ◌<◌, List, [], ◌∷◌, refl, ◌∙◌}
use lib.Bits.{xor_zero_l, xor_zero_r}
use Rattle.aes_lanes.specs.Field.{xtimes, partial_product, multiply}
use Rattle.aes_lanes.specs.Bytes.{xor_bytes}
use Rattle.aes_lanes.specs.Rounds.{sum_of, column_product, inverse_column_product}
use Rattle.aes_lanes.specs.Laws.Field.{at_each, row-sum, multiply-additive, same-additive}

-- the sum of four columns
abbrev sum_columns : List ℕ → List ℕ → List ℕ → List ℕ → List ℕ
sum_columns k l m n = xor_bytes (xor_bytes (xor_bytes k l) m) n

-- each matrix takes sums to sums
pub mixed-sum : (a0 b0 c0 d0 a1 b1 c1 d1 a2 b2 c2 d2 a3 b3 c3 d3 : ℕ)
    → column_product (sum_of a0 b0 c0 d0) (sum_of a1 b1 c1 d1) (sum_of a2 b2 c2 d2) (sum_of a3 b3 c3 d3)
    ≡ sum_columns (column_product a0 a1 a2 a3) (column_product b0 b1 b2 b3) (column_product c0 c1 c2 c3) (column_product d0 d1 d2 d3)
unfolding column_product xor_bytes
mixed-sum a0 b0 c0 d0 a1 b1 c1 d1 a2 b2 c2 d2 a3 b3 c3 d3 =
    let row0 = row-sum (multiply 0x02) (multiply 0x03) (λ x. x) (λ x. x) (multiply-additive 0x02) (multiply-additive 0x03) same-additive same-additive a0 b0 c0 d0 a1 b1 c1 d1 a2 b2 c2 d2 a3 b3 c3 d3 in
    let row1 = row-sum (λ x. x) (multiply 0x02) (multiply 0x03) (λ x. x) same-additive (multiply-additive 0x02) (multiply-additive 0x03) same-additive a0 b0 c0 d0 a1 b1 c1 d1 a2 b2 c2 d2 a3 b3 c3 d3 in
    let row2 = row-sum (λ x. x) (λ x. x) (multiply 0x02) (multiply 0x03) same-additive same-additive (multiply-additive 0x02) (multiply-additive 0x03) a0 b0 c0 d0 a1 b1 c1 d1 a2 b2 c2 d2 a3 b3 c3 d3 in
    let row3 = row-sum (multiply 0x03) (λ x. x) (λ x. x) (multiply 0x02) (multiply-additive 0x03) same-additive same-additive (multiply-additive 0x02) a0 b0 c0 d0 a1 b1 c1 d1 a2 b2 c2 d2 a3 b3 c3 d3 in
    cc

unmixed-sum : (a0 b0 c0 d0 a1 b1 c1 d1 a2 b2 c2 d2 a3 b3 c3 d3 : ℕ)
    → inverse_column_product (sum_of a0 b0 c0 d0) (sum_of a1 b1 c1 d1) (sum_of a2 b2 c2 d2) (sum_of a3 b3 c3 d3)
    ≡ sum_columns (inverse_column_product a0 a1 a2 a3) (inverse_column_product b0 b1 b2 b3) (inverse_column_product c0 c1 c2 c3) (inverse_column_product d0 d1 d2 d3)
unfolding inverse_column_product xor_bytes
unmixed-sum a0 b0 c0 d0 a1 b1 c1 d1 a2 b2 c2 d2 a3 b3 c3 d3 =
    let row0 = row-sum (multiply 0x0e) (multiply 0x0b) (multiply 0x0d) (multiply 0x09) (multiply-additive 0x0e) (multiply-additive 0x0b) (multiply-additive 0x0d) (multiply-additive 0x09) a0 b0 c0 d0 a1 b1 c1 d1 a2 b2 c2 d2 a3 b3 c3 d3 in
    let row1 = row-sum (multiply 0x09) (multiply 0x0e) (multiply 0x0b) (multiply 0x0d) (multiply-additive 0x09) (multiply-additive 0x0e) (multiply-additive 0x0b) (multiply-additive 0x0d) a0 b0 c0 d0 a1 b1 c1 d1 a2 b2 c2 d2 a3 b3 c3 d3 in
    let row2 = row-sum (multiply 0x0d) (multiply 0x09) (multiply 0x0e) (multiply 0x0b) (multiply-additive 0x0d) (multiply-additive 0x09) (multiply-additive 0x0e) (multiply-additive 0x0b) a0 b0 c0 d0 a1 b1 c1 d1 a2 b2 c2 d2 a3 b3 c3 d3 in
    let row3 = row-sum (multiply 0x0b) (multiply 0x0d) (multiply 0x09) (multiply 0x0e) (multiply-additive 0x0b) (multiply-additive 0x0d) (multiply-additive 0x09) (multiply-additive 0x0e) a0 b0 c0 d0 a1 b1 c1 d1 a2 b2 c2 d2 a3 b3 c3 d3 in
    cc

-- each matrix, on a column of the other one
unmixed_first : (x : ℕ) → x < 256 → inverse_column_product (multiply 0x02 x) x x (multiply 0x03 x) ≡ x ∷ 0 ∷ 0 ∷ 0 ∷ []
unfolding inverse_column_product xtimes partial_product multiply
unmixed_first = at_each (λ x. inverse_column_product (multiply 0x02 x) x x (multiply 0x03 x)) (λ x. x ∷ 0 ∷ 0 ∷ 0 ∷ []) refl

unmixed_second : (x : ℕ) → x < 256 → inverse_column_product (multiply 0x03 x) (multiply 0x02 x) x x ≡ 0 ∷ x ∷ 0 ∷ 0 ∷ []
unfolding inverse_column_product xtimes partial_product multiply
unmixed_second = at_each (λ x. inverse_column_product (multiply 0x03 x) (multiply 0x02 x) x x) (λ x. 0 ∷ x ∷ 0 ∷ 0 ∷ []) refl

unmixed_third : (x : ℕ) → x < 256 → inverse_column_product x (multiply 0x03 x) (multiply 0x02 x) x ≡ 0 ∷ 0 ∷ x ∷ 0 ∷ []
unfolding inverse_column_product xtimes partial_product multiply
unmixed_third = at_each (λ x. inverse_column_product x (multiply 0x03 x) (multiply 0x02 x) x) (λ x. 0 ∷ 0 ∷ x ∷ 0 ∷ []) refl

unmixed_fourth : (x : ℕ) → x < 256 → inverse_column_product x x (multiply 0x03 x) (multiply 0x02 x) ≡ 0 ∷ 0 ∷ 0 ∷ x ∷ []
unfolding inverse_column_product xtimes partial_product multiply
unmixed_fourth = at_each (λ x. inverse_column_product x x (multiply 0x03 x) (multiply 0x02 x)) (λ x. 0 ∷ 0 ∷ 0 ∷ x ∷ []) refl

mixed_first : (x : ℕ) → x < 256 → column_product (multiply 0x0e x) (multiply 0x09 x) (multiply 0x0d x) (multiply 0x0b x) ≡ x ∷ 0 ∷ 0 ∷ 0 ∷ []
unfolding column_product xtimes partial_product multiply
mixed_first = at_each (λ x. column_product (multiply 0x0e x) (multiply 0x09 x) (multiply 0x0d x) (multiply 0x0b x)) (λ x. x ∷ 0 ∷ 0 ∷ 0 ∷ []) refl

mixed_second : (x : ℕ) → x < 256 → column_product (multiply 0x0b x) (multiply 0x0e x) (multiply 0x09 x) (multiply 0x0d x) ≡ 0 ∷ x ∷ 0 ∷ 0 ∷ []
unfolding column_product xtimes partial_product multiply
mixed_second = at_each (λ x. column_product (multiply 0x0b x) (multiply 0x0e x) (multiply 0x09 x) (multiply 0x0d x)) (λ x. 0 ∷ x ∷ 0 ∷ 0 ∷ []) refl

mixed_third : (x : ℕ) → x < 256 → column_product (multiply 0x0d x) (multiply 0x0b x) (multiply 0x0e x) (multiply 0x09 x) ≡ 0 ∷ 0 ∷ x ∷ 0 ∷ []
unfolding column_product xtimes partial_product multiply
mixed_third = at_each (λ x. column_product (multiply 0x0d x) (multiply 0x0b x) (multiply 0x0e x) (multiply 0x09 x)) (λ x. 0 ∷ 0 ∷ x ∷ 0 ∷ []) refl

mixed_fourth : (x : ℕ) → x < 256 → column_product (multiply 0x09 x) (multiply 0x0d x) (multiply 0x0b x) (multiply 0x0e x) ≡ 0 ∷ 0 ∷ 0 ∷ x ∷ []
unfolding column_product xtimes partial_product multiply
mixed_fourth = at_each (λ x. column_product (multiply 0x09 x) (multiply 0x0d x) (multiply 0x0b x) (multiply 0x0e x)) (λ x. 0 ∷ 0 ∷ 0 ∷ x ∷ []) refl

pub unmixed-mixed : (a b c d : ℕ) → a < 256 → b < 256 → c < 256 → d < 256
    → inverse_column_product (sum_of (multiply 0x02 a) (multiply 0x03 b) c d) (sum_of a (multiply 0x02 b) (multiply 0x03 c) d) (sum_of a b (multiply 0x02 c) (multiply 0x03 d)) (sum_of (multiply 0x03 a) b c (multiply 0x02 d)) ≡ a ∷ b ∷ c ∷ d ∷ []
unfolding xor_bytes
unmixed-mixed a b c d ha hb hc hd =
    unmixed-sum (multiply 0x02 a) (multiply 0x03 b) c d a (multiply 0x02 b) (multiply 0x03 c) d a b (multiply 0x02 c) (multiply 0x03 d) (multiply 0x03 a) b c (multiply 0x02 d)
    ∙ rw (unmixed_first a ha, unmixed_second b hb, unmixed_third c hc, unmixed_fourth d hd)
    (simp (xor_zero_l, xor_zero_r))

pub mixed-unmixed : (a b c d : ℕ) → a < 256 → b < 256 → c < 256 → d < 256
    → column_product (sum_of (multiply 0x0e a) (multiply 0x0b b) (multiply 0x0d c) (multiply 0x09 d)) (sum_of (multiply 0x09 a) (multiply 0x0e b) (multiply 0x0b c) (multiply 0x0d d)) (sum_of (multiply 0x0d a) (multiply 0x09 b) (multiply 0x0e c) (multiply 0x0b d)) (sum_of (multiply 0x0b a) (multiply 0x0d b) (multiply 0x09 c) (multiply 0x0e d)) ≡ a ∷ b ∷ c ∷ d ∷ []
unfolding xor_bytes
mixed-unmixed a b c d ha hb hc hd =
    mixed-sum (multiply 0x0e a) (multiply 0x0b b) (multiply 0x0d c) (multiply 0x09 d) (multiply 0x09 a) (multiply 0x0e b) (multiply 0x0b c) (multiply 0x0d d) (multiply 0x0d a) (multiply 0x09 b) (multiply 0x0e c) (multiply 0x0b d) (multiply 0x0b a) (multiply 0x0d b) (multiply 0x09 c) (multiply 0x0e d)
    ∙ rw (mixed_first a ha, mixed_second b hb, mixed_third c hc, mixed_fourth d hd)
    (simp (xor_zero_l, xor_zero_r))
