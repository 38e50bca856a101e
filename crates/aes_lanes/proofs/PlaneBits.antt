-- Planes of 32 bytes, bit by bit.
use Rattle.std.proofs.Common.{◌≡◌, ℕ, zero, suc, ◌+◌, ◌*◌, ◌/◌, ◌%◌, ◌^◌, ◌<◌, ◌≤◌, List, [], ◌∷◌, map, length, get_or, replicate, bit_and, bit_xor, slice_index, refl, sym, ap, ap₂, ◌∙◌, arith, inl, inr, lit<}
use Rattle.std.specs.Simd.Lanes.{zip2}
use Rattle.std.specs.List.{range_with_len}
use Rattle.std.proofs.lemmas.List.{get_or_past, length-replicate, get_or-replicate}
use Rattle.std.proofs.lemmas.Bool.{cases_lt}
use Rattle.std.proofs.lemmas.Nat.{and_mod, and_shr}
use Rattle.std.proofs.lemmas.Simd.{get_or-zip2, length-zip2, map-map}
use lib.Bits.{xor_lt, xor_mod, xor_shr, and_le_l}
use Rattle.std.proofs.lemmas.List.FromFn.{get_or-map-range_with_len}
use Rattle.aes_lanes.specs.Laws.Field.{at_each}
use Rattle.aes_lanes.specs.Planes.{IsPlane, bit, byte_of, byte_at, block_of, lane_block, place}

-- a function of bytes to bytes, on two planes
pub IsPlane-zip2 : (f : ℕ → ℕ → ℕ) → ((x y : ℕ) → x < 256 → y < 256 → f x y < 256)
    → (u v : List ℕ) → IsPlane u → IsPlane v → IsPlane (zip2 f u v)
IsPlane-zip2 f byte u v a b =
    let same : length (zip2 f u v) ≡ length u = length-zip2 f u v (a.long ∙ sym b.long) in
    record {
      long = same ∙ a.long;
      bytes = λ p. elim (cases_lt p 32) [
        | inl lt ↦
            let in_u : p < length u = omega (arith, a.long) in
            let in_v : p < length v = omega (arith, b.long) in
            rw (get_or-zip2 f u v p 0 0 0 in_u in_v) (byte _ _ (a.bytes p) (b.bytes p))
        | inr ge ↦
            let past : length (zip2 f u v) ≤ p = omega (arith, same, a.long) in
            rw (get_or_past (zip2 f u v) p 0 past) (lit< tt)
      ];
    }

-- an operator that takes bytes to bytes, bit by bit
pub record IsBitwise (f : ℕ → ℕ → ℕ) : Type 0 where
  pub byte : (x y : ℕ) → x < 256 → y < 256 → f x y < 256
  pub at : (k x y : ℕ) → f x y / 2 ^ k % 2 ≡ f (x / 2 ^ k % 2) (y / 2 ^ k % 2)

pub IsBitwise-xor : IsBitwise bit_xor
IsBitwise-xor = record {
  byte = λ x y hx hy. xor_lt 8 x y hx hy;
  at = λ k x y. ap (λ (n : ℕ). n % 2) (xor_shr x y k) ∙ xor_mod (x / 2 ^ k) (y / 2 ^ k) 1;
}

pub IsBitwise-and : IsBitwise bit_and
IsBitwise-and = record {
  byte = λ x y hx hy. let below = and_le_l x y in omega (arith, below);
  at = λ k x y. ap (λ (n : ℕ). n % 2) (and_shr x y k) ∙ and_mod (x / 2 ^ k) (y / 2 ^ k) 1;
}

pub IsPlane-sum : (u v : List ℕ) → IsPlane u → IsPlane v → IsPlane (zip2 bit_xor u v)
IsPlane-sum = IsPlane-zip2 bit_xor IsBitwise-xor.byte

-- the same byte in each place
pub IsPlane-splat : (n : ℕ) → n < 256 → IsPlane (replicate 32 n)
IsPlane-splat n byte = record {
  long = length-replicate {A = ℕ} 32 n;
  bytes = λ p. elim (cases_lt p 32) [
    | inl below ↦ rw (get_or-replicate 32 p n 0 below) byte
    | inr ge ↦
        let past : length (replicate {A = ℕ} 32 n) ≤ p = omega (arith, length-replicate {A = ℕ} 32 n) in
        rw (get_or_past (replicate 32 n) p 0 past) (lit< tt)
  ];
}

-- a bit of such an operator on two planes
pub bit-zip2 : (f : ℕ → ℕ → ℕ) → IsBitwise f → (p k : ℕ) (u v : List ℕ) → p < 32 → IsPlane u → IsPlane v → bit p k (zip2 f u v) ≡ f (bit p k u) (bit p k v)
bit-zip2 f bitwise p k u v lt a b =
    let in_u : p < length u = omega (arith, a.long) in
    let in_v : p < length v = omega (arith, b.long) in
    ap (λ n. n / 2 ^ k % 2) (get_or-zip2 f u v p 0 0 0 in_u in_v) ∙ bitwise.at k (slice_index u p) (slice_index v p)

pub bit-sum : (p k : ℕ) (u v : List ℕ) → p < 32 → IsPlane u → IsPlane v → bit p k (zip2 bit_xor u v) ≡ bit_xor (bit p k u) (bit p k v)
bit-sum = bit-zip2 bit_xor IsBitwise-xor

pub bit-lt : (n : ℕ) → n % 2 < 2
bit-lt n = omega arith

-- what agrees on each place of a range
pub range-agree : {A : Type 0} (f g : ℕ → A) (a n : ℕ) → ((j : ℕ) → j < a + n → f j ≡ g j) → map f (range_with_len a n) ≡ map g (range_with_len a n)
range-agree f g a zero each = refl
range-agree f g a (suc n) each = ap₂ ◌∷◌ (each a (omega arith)) (range-agree f g (a + 1) n (λ j lt. each j (omega arith)))

-- a fact of each of eight numbers
pub eight : (P : ℕ → Type 0) → P 0 → P 1 → P 2 → P 3 → P 4 → P 5 → P 6 → P 7 → (k : ℕ) → k < 8 → P k
eight P a b c d e f g h zero lt = a
eight P a b c d e f g h (suc zero) lt = b
eight P a b c d e f g h (suc (suc zero)) lt = c
eight P a b c d e f g h (suc (suc (suc zero))) lt = d
eight P a b c d e f g h (suc (suc (suc (suc zero)))) lt = e
eight P a b c d e f g h (suc (suc (suc (suc (suc zero))))) lt = f
eight P a b c d e f g h (suc (suc (suc (suc (suc (suc zero)))))) lt = g
eight P a b c d e f g h (suc (suc (suc (suc (suc (suc (suc zero))))))) lt = h
eight P a b c d e f g h (suc (suc (suc (suc (suc (suc (suc (suc k)))))))) lt = absurd (omega arith)

-- a list of eight
abbrev pub eight_of : {A : Type 0} → A → A → A → A → A → A → A → A → List A
eight_of a b c d e f g h = a ∷ b ∷ c ∷ d ∷ e ∷ f ∷ g ∷ h ∷ []

-- lists of eight that are the same at each place
pub eight_same : {A : Type 0} {a b c d e f g h a' b' c' d' e' f' g' h' : A}
    → a ≡ a' → b ≡ b' → c ≡ c' → d ≡ d' → e ≡ e' → f ≡ f' → g ≡ g' → h ≡ h'
    → a ∷ b ∷ c ∷ d ∷ e ∷ f ∷ g ∷ h ∷ [] ≡ a' ∷ b' ∷ c' ∷ d' ∷ e' ∷ f' ∷ g' ∷ h' ∷ []
eight_same ea eb ec ed ee ef eg eh =
    ap₂ ◌∷◌ ea (ap₂ ◌∷◌ eb (ap₂ ◌∷◌ ec (ap₂ ◌∷◌ ed (ap₂ ◌∷◌ ee (ap₂ ◌∷◌ ef (ap₂ ◌∷◌ eg (ap (λ x. x ∷ []) eh)))))))

-- the blocks of eight planes whose bytes are a function of those of others
pub block_of-map : (f : ℕ → ℕ) (new old : List (List ℕ)) (k : ℕ) → ((p : ℕ) → p < 32 → byte_at new (k / 2) p ≡ f (byte_at old (k / 2) p))
    → block_of new k ≡ map f (block_of old k)
unfolding block_of lane_block
block_of-map f new old k each =
    range-agree (λ j. byte_at new (k / 2) (16 * (k % 2) + place j)) (λ j. f (byte_at old (k / 2) (16 * (k % 2) + place j))) 0 16 (λ j lt. each (16 * (k % 2) + place j) (omega arith))
    ∙ sym (map-map f (λ j. byte_at old (k / 2) (16 * (k % 2) + place j)) (range_with_len 0 16))

-- functions that agree on sixteen places, and on both lanes, from their tables
pub sixteen : {A : Type 0} (f g : ℕ → A) → map f (range_with_len 0 16) ≡ map g (range_with_len 0 16) → (p : ℕ) → p < 16 → f p ≡ g p
sixteen f g e p lt =
    sym (get_or-map-range_with_len f 0 16 p p (f p) lt (omega arith))
    ∙ ap (λ l. get_or l p (f p)) e ∙ get_or-map-range_with_len g 0 16 p p (f p) lt (omega arith)

pub both_lanes : {A : Type 0} (f g : ℕ → A) → map f (range_with_len 0 32) ≡ map g (range_with_len 0 32) → (p : ℕ) → p < 32 → f p ≡ g p
both_lanes f g e p lt =
    sym (get_or-map-range_with_len f 0 32 p p (f p) lt (omega arith))
    ∙ ap (λ l. get_or l p (f p)) e ∙ get_or-map-range_with_len g 0 32 p p (f p) lt (omega arith)

-- a fact of each of sixteen blocks
pub each_block : (P : ℕ → Type 0) → P 0 → P 1 → P 2 → P 3 → P 4 → P 5 → P 6 → P 7 → P 8 → P 9 → P 10 → P 11 → P 12 → P 13 → P 14 → P 15 → (k : ℕ) → k < 16 → P k
each_block P a b c d e f g h i j l m n o q r zero lt = a
each_block P a b c d e f g h i j l m n o q r (suc zero) lt = b
each_block P a b c d e f g h i j l m n o q r (suc (suc zero)) lt = c
each_block P a b c d e f g h i j l m n o q r (suc (suc (suc zero))) lt = d
each_block P a b c d e f g h i j l m n o q r (suc (suc (suc (suc zero)))) lt = e
each_block P a b c d e f g h i j l m n o q r (suc (suc (suc (suc (suc zero))))) lt = f
each_block P a b c d e f g h i j l m n o q r (suc (suc (suc (suc (suc (suc zero)))))) lt = g
each_block P a b c d e f g h i j l m n o q r (suc (suc (suc (suc (suc (suc (suc zero))))))) lt = h
each_block P a b c d e f g h i j l m n o q r (suc (suc (suc (suc (suc (suc (suc (suc zero)))))))) lt = i
each_block P a b c d e f g h i j l m n o q r (suc (suc (suc (suc (suc (suc (suc (suc (suc zero))))))))) lt = j
each_block P a b c d e f g h i j l m n o q r (suc (suc (suc (suc (suc (suc (suc (suc (suc (suc zero)))))))))) lt = l
each_block P a b c d e f g h i j l m n o q r (suc (suc (suc (suc (suc (suc (suc (suc (suc (suc (suc zero))))))))))) lt = m
each_block P a b c d e f g h i j l m n o q r (suc (suc (suc (suc (suc (suc (suc (suc (suc (suc (suc (suc zero)))))))))))) lt = n
each_block P a b c d e f g h i j l m n o q r (suc (suc (suc (suc (suc (suc (suc (suc (suc (suc (suc (suc (suc zero))))))))))))) lt = o
each_block P a b c d e f g h i j l m n o q r (suc (suc (suc (suc (suc (suc (suc (suc (suc (suc (suc (suc (suc (suc zero)))))))))))))) lt = q
each_block P a b c d e f g h i j l m n o q r (suc (suc (suc (suc (suc (suc (suc (suc (suc (suc (suc (suc (suc (suc (suc zero))))))))))))))) lt = r
each_block P a b c d e f g h i j l m n o q r (suc (suc (suc (suc (suc (suc (suc (suc (suc (suc (suc (suc (suc (suc (suc (suc k)))))))))))))))) lt = absurd (omega arith)

-- the bits of a byte, the lowest first
unfoldable pub bits_of : ℕ → List ℕ
bits_of x = map (λ k. x / 2 ^ k % 2) (range_with_len 0 8)

byte_of-eight : (a b c d e f g h : ℕ) → byte_of (a ∷ b ∷ c ∷ d ∷ e ∷ f ∷ g ∷ h ∷ [])
    ≡ a + 2 * (b + 2 * (c + 2 * (d + 2 * (e + 2 * (f + 2 * (g + 2 * h))))))
unfolding byte_of
byte_of-eight a b c d e f g h = omega arith

bits_of-sum : (x a b c d e f g h : ℕ) → x ≡ a + 2 * (b + 2 * (c + 2 * (d + 2 * (e + 2 * (f + 2 * (g + 2 * h))))))
    → a < 2 → b < 2 → c < 2 → d < 2 → e < 2 → f < 2 → g < 2 → h < 2
    → (x < 256) × (bits_of x ≡ a ∷ b ∷ c ∷ d ∷ e ∷ f ∷ g ∷ h ∷ [])
unfolding bits_of
bits_of-sum x a b c d e f g h whole ha hb hc hd he hf hg hh =
    let a_is : x / 2 ^ 0 % 2 ≡ a = omega arith in
    let b_is : x / 2 ^ 1 % 2 ≡ b = omega arith in
    let c_is : x / 2 ^ 2 % 2 ≡ c = omega arith in
    let d_is : x / 2 ^ 3 % 2 ≡ d = omega arith in
    let e_is : x / 2 ^ 4 % 2 ≡ e = omega arith in
    let f_is : x / 2 ^ 5 % 2 ≡ f = omega arith in
    let g_is : x / 2 ^ 6 % 2 ≡ g = omega arith in
    let h_is : x / 2 ^ 7 % 2 ≡ h = omega arith in
    (omega arith, eight_same a_is b_is c_is d_is e_is f_is g_is h_is)

-- what holds of the bits of each byte holds of each eight bits
pub on_bits : (f : List ℕ → ℕ) (g : ℕ → ℕ) → ((x : ℕ) → x < 256 → f (bits_of x) ≡ g x)
    → (a b c d e f0 g0 h : ℕ) → a < 2 → b < 2 → c < 2 → d < 2 → e < 2 → f0 < 2 → g0 < 2 → h < 2
    → f (a ∷ b ∷ c ∷ d ∷ e ∷ f0 ∷ g0 ∷ h ∷ []) ≡ g (byte_of (a ∷ b ∷ c ∷ d ∷ e ∷ f0 ∷ g0 ∷ h ∷ []))
on_bits f g each a b c d e f0 g0 h ha hb hc hd he hf hg hh =
    let x : ℕ = byte_of (a ∷ b ∷ c ∷ d ∷ e ∷ f0 ∷ g0 ∷ h ∷ []) in
    let is = bits_of-sum x a b c d e f0 g0 h (byte_of-eight a b c d e f0 g0 h) ha hb hc hd he hf hg hh in
    ap f (sym is.1) ∙ each x is.0

-- a byte is that of its bits
pub byte_of-bits : (x : ℕ) → x < 256 → byte_of (bits_of x) ≡ x
unfolding byte_of bits_of
byte_of-bits = at_each (λ x. byte_of (bits_of x)) (λ x. x) refl

pub bits_of-xor : (x y : ℕ) → bits_of (bit_xor x y) ≡ zip2 bit_xor (bits_of x) (bits_of y)
unfolding bits_of
bits_of-xor x y = let at = IsBitwise-xor.at in eight_same (at 0 x y) (at 1 x y) (at 2 x y) (at 3 x y) (at 4 x y) (at 5 x y) (at 6 x y) (at 7 x y)

-- the byte of the sums of bits is the sum of the bytes
digit-xor : (a b x y : ℕ) → a < 2 → b < 2 → bit_xor (a + 2 * x) (b + 2 * y) ≡ bit_xor a b + 2 * bit_xor x y
digit-xor a b x y ha hb =
    let a_low : (a + 2 * x) % 2 ^ 1 ≡ a = omega arith in
    let b_low : (b + 2 * y) % 2 ^ 1 ≡ b = omega arith in
    let a_high : (a + 2 * x) / 2 ^ 1 ≡ x = omega arith in
    let b_high : (b + 2 * y) / 2 ^ 1 ≡ y = omega arith in
    let low : bit_xor (a + 2 * x) (b + 2 * y) % 2 ≡ bit_xor a b = xor_mod (a + 2 * x) (b + 2 * y) 1 ∙ ap₂ bit_xor a_low b_low in
    let high : bit_xor (a + 2 * x) (b + 2 * y) / 2 ≡ bit_xor x y = xor_shr (a + 2 * x) (b + 2 * y) 1 ∙ ap₂ bit_xor a_high b_high in
    omega (arith, low, high)

pub byte_of-xor : (bs cs : List ℕ) → length bs ≡ length cs → ((i : ℕ) → get_or bs i 0 < 2) → ((i : ℕ) → get_or cs i 0 < 2)
    → byte_of (zip2 bit_xor bs cs) ≡ bit_xor (byte_of bs) (byte_of cs)
unfolding byte_of
byte_of-xor [] [] same low_bs low_cs = refl
byte_of-xor [] (c ∷ cs) same low_bs low_cs = absurd (omega arith)
byte_of-xor (b ∷ bs) [] same low_bs low_cs = absurd (omega arith)
byte_of-xor (b ∷ bs) (c ∷ cs) same low_bs low_cs =
    let rest : length bs ≡ length cs = omega arith in
    ap (λ n. bit_xor b c + 2 * n) (byte_of-xor bs cs rest (λ i. low_bs (suc i)) (λ i. low_cs (suc i)))
    ∙ sym (digit-xor b c (byte_of bs) (byte_of cs) (low_bs zero) (low_cs zero))

-- bits of eight planes are bits
pub bits-lt : (p k : ℕ) (planes : List (List ℕ)) (i : ℕ) → get_or (map (bit p k) planes) i 0 < 2
bits-lt p k [] i = omega arith
bits-lt p k (v ∷ planes) zero = bit-lt _
bits-lt p k (v ∷ planes) (suc i) = bits-lt p k planes i

-- eight bits make a byte
pub byte_of-lt : (a b c d e f g h : ℕ) → a < 2 → b < 2 → c < 2 → d < 2 → e < 2 → f < 2 → g < 2 → h < 2
    → byte_of (a ∷ b ∷ c ∷ d ∷ e ∷ f ∷ g ∷ h ∷ []) < 256
byte_of-lt a b c d e f g h ha hb hc hd he hf hg hh = (bits_of-sum _ a b c d e f g h (byte_of-eight a b c d e f g h) ha hb hc hd he hf hg hh).0

-- the places of a list of eight bits, and those past its end
pub eight_lt : (a b c d e f g h : ℕ) → a < 2 → b < 2 → c < 2 → d < 2 → e < 2 → f < 2 → g < 2 → h < 2
    → (i : ℕ) → get_or (a ∷ b ∷ c ∷ d ∷ e ∷ f ∷ g ∷ h ∷ []) i 0 < 2
eight_lt a b c d e f g h ha hb hc hd he hf hg hh i = elim (cases_lt i 8) [
  | inl lt ↦ eight (λ j. get_or (a ∷ b ∷ c ∷ d ∷ e ∷ f ∷ g ∷ h ∷ []) j 0 < 2) ha hb hc hd he hf hg hh i lt
  | inr ge ↦ rw (get_or_past (a ∷ b ∷ c ∷ d ∷ e ∷ f ∷ g ∷ h ∷ []) i 0 ge) (lit< tt)
]

pub byte_at-lt : (p0 p1 p2 p3 p4 p5 p6 p7 : List ℕ) (k p : ℕ) → byte_at (p0 ∷ p1 ∷ p2 ∷ p3 ∷ p4 ∷ p5 ∷ p6 ∷ p7 ∷ []) k p < 256
byte_at-lt p0 p1 p2 p3 p4 p5 p6 p7 k p =
    byte_of-lt _ _ _ _ _ _ _ _ (bit-lt _) (bit-lt _) (bit-lt _) (bit-lt _) (bit-lt _) (bit-lt _) (bit-lt _) (bit-lt _)
