-- The transformations keep sixteen bytes, and each one's inverse undoes it.
use Rattle.std.proofs.Common.{◌≡◌, ℕ, zero, suc, ◌<◌, ◌≤◌, ◌+◌, ◌*◌, ◌%◌, List, [], ◌∷◌, ◌++◌, map, length, slice_index, refl, sym, ap, ◌∙◌, arith, inl, inr, lit<}
use Rattle.std.proofs.lemmas.List.{get_or-map, get_or_past, length-map}
use Rattle.std.proofs.lemmas.Bool.{cases_lt}
use lib.Bits.{xor_lt}
use Rattle.aes_lanes.specs.Field.{multiply, sbox, inverse_sbox}
use Rattle.aes_lanes.specs.Bytes.{IsBlock, xor_bytes}
use Rattle.aes_lanes.specs.Rounds.{sub_bytes, shift_rows, column_product, sum_of, mix_columns, inverse_sub_bytes, inverse_shift_rows, inverse_column_product, inverse_mix_columns}
use Rattle.aes_lanes.specs.Schedule.{state_of, round_key}
use Rattle.aes_lanes.specs.Laws.Sums.{gathered, length-xor_bytes, slice_index-xor_bytes, xor_bytes-twice}
use Rattle.aes_lanes.specs.Laws.Field.{multiply-lt, sum_of-lt, sbox-lt, inverse_sbox-lt, inverse_sbox-sbox, sbox-inverse_sbox}
use Rattle.aes_lanes.specs.Laws.Columns.{unmixed-mixed, mixed-unmixed}

-- each number of a list is a byte
EachByte : List ℕ → Type 0
EachByte [] = Unit {0}
EachByte (x ∷ xs) = (x < 256) × EachByte xs

bytes_at : (xs : List ℕ) → EachByte xs → (k : ℕ) → slice_index xs k < 256
unfolding EachByte
bytes_at [] p k = lit< tt
bytes_at (x ∷ xs) p zero = p.0
bytes_at (x ∷ xs) p (suc k) = bytes_at xs p.1 k

EachByte-append : (xs ys : List ℕ) → EachByte xs → EachByte ys → EachByte (xs ++ ys)
unfolding EachByte
EachByte-append [] ys p q = q
EachByte-append (x ∷ xs) ys p q = (p.0, EachByte-append xs ys p.1 q)

block_of : (xs : List ℕ) → length xs ≡ 16 → EachByte xs → IsBlock xs
block_of xs h p = record { sixteen = h; bytes = bytes_at xs p }

-- a map of bytes to bytes
IsBlock-map : (f : ℕ → ℕ) → ((x : ℕ) → x < 256 → f x < 256) → (s : List ℕ) → IsBlock s → IsBlock (map f s)
IsBlock-map f f-lt s b = record {
  sixteen = length-map s f ∙ b.sixteen;
  bytes = λ k. elim (cases_lt k (length s)) [
    | inl lt ↦ rw (get_or-map f s k 0 0 lt) (f-lt (slice_index s k) (b.bytes k))
    | inr ge ↦
        let past : length (map f s) ≤ k = omega (arith, length-map s f) in
        rw (get_or_past (map f s) k 0 past) (lit< tt)
  ];
}

map-undone : (f g : ℕ → ℕ) → ((x : ℕ) → x < 256 → f (g x) ≡ x) → (s : List ℕ) → ((k : ℕ) → slice_index s k < 256)
    → map f (map g s) ≡ s
map-undone f g undoes [] bytes = refl
map-undone f g undoes (x ∷ xs) bytes =
    ap (λ y. y ∷ map f (map g xs)) (undoes x (bytes zero)) ∙ ap (λ l. x ∷ l) (map-undone f g undoes xs (λ k. bytes (suc k)))

pub IsBlock-xor : (s t : List ℕ) → IsBlock s → IsBlock t → IsBlock (xor_bytes s t)
IsBlock-xor s t b d =
    let long : length s ≤ length t = omega (arith, b.sixteen, d.sixteen) in
    record {
      sixteen = length-xor_bytes s t long ∙ b.sixteen;
      bytes = λ k. elim (cases_lt k (length s)) [
        | inl lt ↦
            let there : k < length t = omega arith in
            rw (slice_index-xor_bytes s t k lt there)
            (xor_lt 8 (slice_index s k) (slice_index t k) (b.bytes k) (d.bytes k))
        | inr ge ↦
            let past : length (xor_bytes s t) ≤ k = omega (arith, length-xor_bytes s t long) in
            rw (get_or_past (xor_bytes s t) k 0 past) (lit< tt)
      ];
    }

-- with a round key
byte-lt : (n : ℕ) → n % 256 < 256
byte-lt n = omega arith

IsBlock-round_key : (words : List ℕ) (r : ℕ) → IsBlock (round_key words r)
unfolding round_key state_of EachByte
IsBlock-round_key words r =
    block_of (round_key words r) refl (
      byte-lt _,
      (
        byte-lt _,
        (
          byte-lt _,
          (
            byte-lt _,
            (
              byte-lt _,
              (
                byte-lt _,
                (
                  byte-lt _,
                  (
                    byte-lt _,
                    (byte-lt _, (byte-lt _, (byte-lt _, (byte-lt _, (byte-lt _, (byte-lt _, (byte-lt _, (byte-lt _, tt)))))))),
                  ),
                ),
              ),
            ),
          ),
        ),
      ),
    )

pub IsBlock-add : (s words : List ℕ) (r : ℕ) → IsBlock s → IsBlock (xor_bytes s (round_key words r))
IsBlock-add s words r b = IsBlock-xor s (round_key words r) b (IsBlock-round_key words r)

pub add-twice : (s words : List ℕ) (r : ℕ) → IsBlock s → xor_bytes (xor_bytes s (round_key words r)) (round_key words r) ≡ s
add-twice s words r b =
    let key = IsBlock-round_key words r in
    let long : length s ≤ length (round_key words r) = omega (arith, b.sixteen, key.sixteen) in
    xor_bytes-twice s (round_key words r) long

-- the rows
IsBlock-shift_rows : (s : List ℕ) → IsBlock s → IsBlock (shift_rows s)
unfolding shift_rows EachByte
IsBlock-shift_rows s b =
    block_of (shift_rows s) refl (
      b.bytes 0,
      (
        b.bytes 5,
        (
          b.bytes 10,
          (
            b.bytes 15,
            (
              b.bytes 4,
              (
                b.bytes 9,
                (
                  b.bytes 14,
                  (
                    b.bytes 3,
                    (b.bytes 8, (b.bytes 13, (b.bytes 2, (b.bytes 7, (b.bytes 12, (b.bytes 1, (b.bytes 6, (b.bytes 11, tt)))))))),
                  ),
                ),
              ),
            ),
          ),
        ),
      ),
    )

IsBlock-inverse_shift_rows : (s : List ℕ) → IsBlock s → IsBlock (inverse_shift_rows s)
unfolding inverse_shift_rows EachByte
IsBlock-inverse_shift_rows s b =
    block_of (inverse_shift_rows s) refl (
      b.bytes 0,
      (
        b.bytes 13,
        (
          b.bytes 10,
          (
            b.bytes 7,
            (
              b.bytes 4,
              (
                b.bytes 1,
                (
                  b.bytes 14,
                  (
                    b.bytes 11,
                    (b.bytes 8, (b.bytes 5, (b.bytes 2, (b.bytes 15, (b.bytes 12, (b.bytes 9, (b.bytes 6, (b.bytes 3, tt)))))))),
                  ),
                ),
              ),
            ),
          ),
        ),
      ),
    )

inverse_shift_rows-shift_rows : (s : List ℕ) → length s ≡ 16 → inverse_shift_rows (shift_rows s) ≡ s
unfolding shift_rows inverse_shift_rows
inverse_shift_rows-shift_rows s h = sym (gathered s 16 h)

shift_rows-inverse_shift_rows : (s : List ℕ) → length s ≡ 16 → shift_rows (inverse_shift_rows s) ≡ s
unfolding shift_rows inverse_shift_rows
shift_rows-inverse_shift_rows s h = sym (gathered s 16 h)

-- the columns
mixed-bytes : (a b c d : ℕ) → a < 256 → b < 256 → c < 256 → d < 256 → EachByte (column_product a b c d)
unfolding column_product EachByte
mixed-bytes a b c d ha hb hc hd = (
  sum_of-lt _ _ _ _ (multiply-lt 2 a (lit< tt)) (multiply-lt 3 b (lit< tt)) hc hd,
  (
    sum_of-lt _ _ _ _ ha (multiply-lt 2 b (lit< tt)) (multiply-lt 3 c (lit< tt)) hd,
    (
      sum_of-lt _ _ _ _ ha hb (multiply-lt 2 c (lit< tt)) (multiply-lt 3 d (lit< tt)),
      (sum_of-lt _ _ _ _ (multiply-lt 3 a (lit< tt)) hb hc (multiply-lt 2 d (lit< tt)), tt),
    ),
  ),
)

unmixed-bytes : (a b c d : ℕ) → EachByte (inverse_column_product a b c d)
unfolding inverse_column_product EachByte
unmixed-bytes a b c d =
    let row : (p q r s : ℕ) → p < 256 → q < 256 → r < 256 → s < 256 → sum_of (multiply p a) (multiply q b) (multiply r c) (multiply s d) < 256 =
    λ p q r s hp hq hr hs. sum_of-lt _ _ _ _ (multiply-lt p a hp) (multiply-lt q b hq) (multiply-lt r c hr) (multiply-lt s d hs) in (
      row 14 11 13 9 (lit< tt) (lit< tt) (lit< tt) (lit< tt),
      (
        row 9 14 11 13 (lit< tt) (lit< tt) (lit< tt) (lit< tt),
        (row 13 9 14 11 (lit< tt) (lit< tt) (lit< tt) (lit< tt), (row 11 13 9 14 (lit< tt) (lit< tt) (lit< tt) (lit< tt), tt)),
      ),
    )

four_columns : (k l m n : List ℕ) → EachByte k → EachByte l → EachByte m → EachByte n → EachByte (k ++ l ++ m ++ n)
four_columns k l m n hk hl hm hn =
    EachByte-append (k ++ l ++ m) n (EachByte-append (k ++ l) m (EachByte-append k l hk hl) hm) hn

length-mix_columns : (s : List ℕ) → length (mix_columns s) ≡ 16
unfolding mix_columns column_product
length-mix_columns s = refl

pub IsBlock-mix_columns : (s : List ℕ) → IsBlock s → IsBlock (mix_columns s)
unfolding mix_columns
IsBlock-mix_columns s b =
    let column : (c : ℕ) → EachByte (column_product (slice_index s (4 * c)) (slice_index s (1 + 4 * c)) (slice_index s (2 + 4 * c)) (slice_index s (3 + 4 * c))) =
    λ c. mixed-bytes _ _ _ _ (b.bytes (4 * c)) (b.bytes (1 + 4 * c)) (b.bytes (2 + 4 * c)) (b.bytes (3 + 4 * c)) in
    block_of (mix_columns s) (length-mix_columns s) (four_columns _ _ _ _ (column 0) (column 1) (column 2) (column 3))

length-inverse_mix_columns : (s : List ℕ) → length (inverse_mix_columns s) ≡ 16
unfolding inverse_mix_columns inverse_column_product
length-inverse_mix_columns s = refl

pub IsBlock-inverse_mix_columns : (s : List ℕ) → IsBlock (inverse_mix_columns s)
unfolding inverse_mix_columns
IsBlock-inverse_mix_columns s =
    block_of (inverse_mix_columns s) (length-inverse_mix_columns s)
    (four_columns _ _ _ _ (unmixed-bytes _ _ _ _) (unmixed-bytes _ _ _ _) (unmixed-bytes _ _ _ _) (unmixed-bytes _ _ _ _))

pub inverse_mix_columns-mix_columns : (s : List ℕ) → IsBlock s → inverse_mix_columns (mix_columns s) ≡ s
unfolding mix_columns inverse_mix_columns column_product
inverse_mix_columns-mix_columns s b =
    rw (
      unmixed-mixed (slice_index s 0) (slice_index s 1) (slice_index s 2) (slice_index s 3) (b.bytes 0) (b.bytes 1) (b.bytes 2) (b.bytes 3),
      unmixed-mixed (slice_index s 4) (slice_index s 5) (slice_index s 6) (slice_index s 7) (b.bytes 4) (b.bytes 5) (b.bytes 6) (b.bytes 7),
      unmixed-mixed (slice_index s 8) (slice_index s 9) (slice_index s 10) (slice_index s 11) (b.bytes 8) (b.bytes 9) (b.bytes 10) (b.bytes 11),
      unmixed-mixed (slice_index s 12) (slice_index s 13) (slice_index s 14) (slice_index s 15) (b.bytes 12) (b.bytes 13) (b.bytes 14) (b.bytes 15),
    )
    (sym (gathered s 16 b.sixteen))

pub mix_columns-inverse_mix_columns : (s : List ℕ) → IsBlock s → mix_columns (inverse_mix_columns s) ≡ s
unfolding mix_columns inverse_mix_columns inverse_column_product
mix_columns-inverse_mix_columns s b =
    rw (
      mixed-unmixed (slice_index s 0) (slice_index s 1) (slice_index s 2) (slice_index s 3) (b.bytes 0) (b.bytes 1) (b.bytes 2) (b.bytes 3),
      mixed-unmixed (slice_index s 4) (slice_index s 5) (slice_index s 6) (slice_index s 7) (b.bytes 4) (b.bytes 5) (b.bytes 6) (b.bytes 7),
      mixed-unmixed (slice_index s 8) (slice_index s 9) (slice_index s 10) (slice_index s 11) (b.bytes 8) (b.bytes 9) (b.bytes 10) (b.bytes 11),
      mixed-unmixed (slice_index s 12) (slice_index s 13) (slice_index s 14) (slice_index s 15) (b.bytes 12) (b.bytes 13) (b.bytes 14) (b.bytes 15),
    )
    (sym (gathered s 16 b.sixteen))

-- the bytes of a state through the S-box and its rows shifted, and back
pub IsBlock-shifted : (s : List ℕ) → IsBlock s → IsBlock (shift_rows (sub_bytes s))
unfolding sub_bytes
IsBlock-shifted s b = IsBlock-shift_rows (map sbox s) (IsBlock-map sbox sbox-lt s b)

pub IsBlock-unshifted : (s : List ℕ) → IsBlock s → IsBlock (inverse_sub_bytes (inverse_shift_rows s))
unfolding inverse_sub_bytes
IsBlock-unshifted s b = IsBlock-map inverse_sbox inverse_sbox-lt (inverse_shift_rows s) (IsBlock-inverse_shift_rows s b)

pub unshifted-shifted : (s : List ℕ) → IsBlock s → inverse_sub_bytes (inverse_shift_rows (shift_rows (sub_bytes s))) ≡ s
unfolding sub_bytes inverse_sub_bytes
unshifted-shifted s b =
    ap (map inverse_sbox) (inverse_shift_rows-shift_rows (map sbox s) (length-map s sbox ∙ b.sixteen))
    ∙ map-undone inverse_sbox sbox inverse_sbox-sbox s b.bytes

pub shifted-unshifted : (s : List ℕ) → IsBlock s → shift_rows (sub_bytes (inverse_sub_bytes (inverse_shift_rows s))) ≡ s
unfolding sub_bytes inverse_sub_bytes
shifted-unshifted s b =
    let shifted = IsBlock-inverse_shift_rows s b in
    ap shift_rows (map-undone sbox inverse_sbox sbox-inverse_sbox (inverse_shift_rows s) shifted.bytes)
    ∙ shift_rows-inverse_shift_rows s b.sixteen
