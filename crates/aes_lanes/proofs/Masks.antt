-- 0x63 added to the bytes of a state goes through the rows and columns, and goes out with a key that has it too.
use Rattle.std.proofs.Common.{◌≡◌, ℕ, zero, suc, ◌<◌, ◌≤◌, List, [], ◌∷◌, ◌++◌, map, length, replicate, slice_index, bit_xor, refl, sym, ap, ap₂, ◌∙◌, subst, arith}
use Rattle.std.proofs.lemmas.List.{length-map}
use lib.Bits.{xor_zero_r}
use Rattle.aes_lanes.specs.Bytes.{xor_bytes}
use Rattle.aes_lanes.specs.Field.{xtimes, partial_product, multiply, sbox}
use Rattle.aes_lanes.specs.Rounds.{add_round_key, column_product, sum_of, mix_columns, shift_rows, sub_bytes}
use Rattle.aes_lanes.specs.Schedule.{round_key, state_of}
use Rattle.aes_lanes.specs.Planes.{block_of, lane_block}
use Rattle.aes_lanes.specs.PlaneList.{plane_key, sixty_threes}
use Rattle.aes_lanes.specs.Laws.Columns.{mixed-sum}
use Rattle.aes_lanes.specs.Laws.Sums.{gathered, xor_bytes-regroup, xor_bytes-swap, xor_bytes-twice}

-- what holds of each list of sixteen numbers
of_sixteen : (P : List ℕ → Type 0)
    → ((a b c d e f g h i j k l m n o p : ℕ) → P (a ∷ b ∷ c ∷ d ∷ e ∷ f ∷ g ∷ h ∷ i ∷ j ∷ k ∷ l ∷ m ∷ n ∷ o ∷ p ∷ []))
    → (s : List ℕ) → length s ≡ 16 → P s
of_sixteen P each s long =
    let at : ℕ → ℕ = slice_index s in
    subst P (sym (gathered s 16 long))
    (each (at 0) (at 1) (at 2) (at 3) (at 4) (at 5) (at 6) (at 7) (at 8) (at 9) (at 10) (at 11) (at 12) (at 13) (at 14) (at 15))

pub masked-sub : (s : List ℕ) → length s ≡ 16 → map (λ x. bit_xor (sbox x) 0x63) s ≡ xor_bytes (sub_bytes s) sixty_threes
unfolding sub_bytes xor_bytes
masked-sub = of_sixteen _ (λ a b c d e f g h i j k l m n o p. refl)

pub masked-all : (s : List ℕ) → length s ≡ 16 → map (λ x. bit_xor x 0x63) s ≡ xor_bytes s sixty_threes
unfolding xor_bytes
masked-all = of_sixteen _ (λ a b c d e f g h i j k l m n o p. refl)

-- 0x63 added to a state goes through a step
abbrev PassesMask : (List ℕ → List ℕ) → Type 0
PassesMask step = (s : List ℕ) → length s ≡ 16 → step (xor_bytes s sixty_threes) ≡ xor_bytes (step s) sixty_threes

masked-shift : PassesMask shift_rows
unfolding shift_rows xor_bytes
masked-shift = of_sixteen _ (λ a b c d e f g h i j k l m n o p. refl)

-- zeros added
zeros_added : (l : List ℕ) (n : ℕ) → length l ≤ n → xor_bytes l (replicate n 0) ≡ l
unfolding xor_bytes
zeros_added [] n few = refl
zeros_added (x ∷ xs) zero few = absurd (omega arith)
zeros_added (x ∷ xs) (suc n) few = ap₂ (λ y l. y ∷ l) (xor_zero_r x) (zeros_added xs n (omega arith))

abbrev four_63 : List ℕ
four_63 = 0x63 ∷ 0x63 ∷ 0x63 ∷ 0x63 ∷ []

column-63 : column_product 0x63 0x63 0x63 0x63 ≡ four_63
unfolding column_product xtimes partial_product multiply
column-63 = refl

column-zero : column_product 0 0 0 0 ≡ replicate 4 0
unfolding column_product xtimes partial_product multiply
column-zero = refl

four_once : (a b c d : ℕ) → length (xor_bytes (column_product a b c d) four_63) ≡ 4
unfolding column_product xor_bytes
four_once a b c d = refl

four_twice : (a b c d : ℕ) → length (xor_bytes (xor_bytes (column_product a b c d) four_63) (replicate 4 0)) ≡ 4
unfolding column_product xor_bytes
four_twice a b c d = refl

masked-column : (a b c d : ℕ) → column_product (bit_xor a 0x63) (bit_xor b 0x63) (bit_xor c 0x63) (bit_xor d 0x63)
    ≡ xor_bytes (column_product a b c d) four_63
masked-column a b c d =
    let mixed : List ℕ = column_product a b c d in
    let once : List ℕ = xor_bytes mixed four_63 in
    ap₂ (λ x y. column_product x y (bit_xor c 0x63) (bit_xor d 0x63)) (none a) (none b)
    ∙ ap₂ (λ x y. column_product (sum_of a 0x63 0 0) (sum_of b 0x63 0 0) x y) (none c) (none d)
    ∙ mixed-sum a 0x63 0 0 b 0x63 0 0 c 0x63 0 0 d 0x63 0 0
    ∙ ap₂ (λ l z. xor_bytes (xor_bytes (xor_bytes mixed l) z) z) column-63 column-zero
    ∙ zeros_added (xor_bytes once (replicate 4 0)) 4 (omega (arith, four_twice a b c d))
    ∙ zeros_added once 4 (omega (arith, four_once a b c d)) where
      none : (x : ℕ) → bit_xor x 0x63 ≡ sum_of x 0x63 0 0
      none x = sym (xor_zero_r (bit_xor (bit_xor x 0x63) 0) ∙ xor_zero_r (bit_xor x 0x63))

four_columns : (a b c d e f g h i j k l m n o p : ℕ)
    → xor_bytes (column_product a b c d) four_63 ++ xor_bytes (column_product e f g h) four_63
    ++ xor_bytes (column_product i j k l) four_63 ++ xor_bytes (column_product m n o p) four_63
    ≡ xor_bytes (column_product a b c d ++ column_product e f g h ++ column_product i j k l ++ column_product m n o p) sixty_threes
unfolding column_product xor_bytes
four_columns a b c d e f g h i j k l m n o p = refl

masked-mix : PassesMask mix_columns
unfolding mix_columns xor_bytes
masked-mix = of_sixteen _ (λ a b c d e f g h i j k l m n o p.
    ap₂ (λ w x. w ++ x ++ column_product (bit_xor i 0x63) (bit_xor j 0x63) (bit_xor k 0x63) (bit_xor l 0x63)
    ++ column_product (bit_xor m 0x63) (bit_xor n 0x63) (bit_xor o 0x63) (bit_xor p 0x63)) (masked-column a b c d) (masked-column e f g h)
    ∙ ap₂ (λ y z. xor_bytes (column_product a b c d) four_63 ++ xor_bytes (column_product e f g h) four_63 ++ y ++ z)
    (masked-column i j k l) (masked-column m n o p)
    ∙ four_columns a b c d e f g h i j k l m n o p)

-- a key that has 0x63 too, and 0x63 added once more
pub masked-key : (s key : List ℕ) → length key ≡ 16 → xor_bytes (xor_bytes s sixty_threes) (xor_bytes key sixty_threes) ≡ xor_bytes s key
masked-key s key long =
    xor_bytes-regroup s sixty_threes (xor_bytes key sixty_threes)
    ∙ ap (xor_bytes s) (xor_bytes-swap sixty_threes (xor_bytes key sixty_threes) ∙ xor_bytes-twice key sixty_threes (omega (arith, long)))

pub unmasked-key : (s key : List ℕ) → length key ≡ 16 → xor_bytes (xor_bytes s (xor_bytes key sixty_threes)) sixty_threes ≡ xor_bytes s key
unmasked-key s key long =
    xor_bytes-regroup s (xor_bytes key sixty_threes) sixty_threes ∙ ap (xor_bytes s) (xor_bytes-twice key sixty_threes (omega (arith, long)))

pub plane_key-first : (words : List ℕ) (r : ℕ) → r ≡ 0 → round_key words r ≡ plane_key words r
unfolding plane_key
plane_key-first words zero e = refl
plane_key-first words (suc r) e = absurd (omega arith)

pub plane_key-later : (words : List ℕ) (r : ℕ) → 0 < r → plane_key words r ≡ xor_bytes (round_key words r) sixty_threes
unfolding plane_key
plane_key-later words zero some = absurd (omega arith)
plane_key-later words (suc r) some = refl

length-shift_rows : (s : List ℕ) → length (shift_rows s) ≡ 16
unfolding shift_rows
length-shift_rows s = refl

length-round_key : (words : List ℕ) (r : ℕ) → length (round_key words r) ≡ 16
unfolding round_key state_of
length-round_key words r = refl

pub length-block_of : (planes : List (List ℕ)) (k : ℕ) → length (block_of planes k) ≡ 16
unfolding block_of lane_block
length-block_of planes k = refl

-- a round, and the last one, whose key has 0x63 as the state has it
pub masked_round : (s words : List ℕ) (r : ℕ) → length s ≡ 16
    → add_round_key (mix_columns (shift_rows (xor_bytes s sixty_threes))) (xor_bytes (round_key words r) sixty_threes)
    ≡ add_round_key (mix_columns (shift_rows s)) (round_key words r)
unfolding add_round_key
masked_round s words r long =
    let key : List ℕ = xor_bytes (round_key words r) sixty_threes in
    ap (λ t. xor_bytes (mix_columns t) key) (masked-shift s long)
    ∙ ap (λ t. xor_bytes t key) (masked-mix (shift_rows s) (length-shift_rows s))
    ∙ masked-key (mix_columns (shift_rows s)) (round_key words r) (length-round_key words r)

pub masked_last : (s words : List ℕ) (r : ℕ) → length s ≡ 16
    → add_round_key (shift_rows (xor_bytes s sixty_threes)) (xor_bytes (round_key words r) sixty_threes)
    ≡ add_round_key (shift_rows s) (round_key words r)
unfolding add_round_key
masked_last s words r long =
    ap (λ t. xor_bytes t (xor_bytes (round_key words r) sixty_threes)) (masked-shift s long)
    ∙ masked-key (shift_rows s) (round_key words r) (length-round_key words r)

pub length-sub : (s : List ℕ) → length s ≡ 16 → length (sub_bytes s) ≡ 16
unfolding sub_bytes
length-sub s long = length-map s sbox ∙ long

-- a key that has 0x63, added, and 0x63 once more
pub unmasked : (sum state words : List ℕ) (r : ℕ) → sum ≡ add_round_key state (xor_bytes (round_key words r) sixty_threes)
    → xor_bytes sum sixty_threes ≡ add_round_key state (round_key words r)
unfolding add_round_key
unmasked sum state words r is = ap (λ s. xor_bytes s sixty_threes) is ∙ unmasked-key state (round_key words r) (length-round_key words r)
