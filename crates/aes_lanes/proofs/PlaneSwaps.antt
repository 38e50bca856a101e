-- Vectors of bytes and planes of their bits: groups of bits exchanged between two vectors.
use Rattle.std.proofs.Common.{◌≡◌, ℕ, ◌+◌, ◌-◌, ◌*◌, ◌/◌, ◌%◌, ◌^◌, ◌<◌, List, map, length, replicate, bit_and, bit_xor, slice_index, refl, ap, ◌∙◌, arith, lit<, nat_eq, if◌then◌else◌}
use Rattle.std.specs.Simd.Lanes.{zip2}
use Rattle.std.specs.List.{range_with_len}
use Rattle.std.proofs.Math.Nat.{div-le_self}
use Rattle.std.proofs.lemmas.List.{length-replicate, get_or-replicate}
use Rattle.std.proofs.lemmas.Simd.{get_or-zip2}
use lib.Bits.{xor_comm, xor_zero_r}
use Rattle.aes_lanes.specs.Laws.Field.{at_each}
use Rattle.aes_lanes.specs.Laws.Sums.{bit_xor-twice}
use Rattle.aes_lanes.specs.Planes.{IsPlane, bits_at, low_bits, high_bits}
use Rattle.aes_lanes.proofs.PlaneBits.{IsBitwise-and, IsPlane-zip2, IsPlane-sum, IsPlane-splat, eight_same, bits_of, bits_of-xor}

-- an operator on each lane and the same number
pub slice_index-splat : (f : ℕ → ℕ → ℕ) (v : List ℕ) (n p : ℕ) → IsPlane v → p < 32 → slice_index (zip2 f v (replicate 32 n)) p ≡ f (slice_index v p) n
slice_index-splat f v n p plane lt =
    let in_v : p < length v = omega (arith, plane.long) in
    let in_splat : p < length (replicate {A = ℕ} 32 n) = omega (arith, length-replicate {A = ℕ} 32 n) in
    get_or-zip2 f v (replicate 32 n) p 0 0 0 in_v in_splat ∙ ap (f (slice_index v p)) (get_or-replicate 32 p n 0 lt)

-- the three operators of a swap, with the same number in each lane
abbrev pub masked : ℕ → List ℕ → List ℕ
masked m v = zip2 bit_and v (replicate 32 m)

abbrev raised : ℕ → List ℕ → List ℕ
raised s v = zip2 (λ x n. x * 2 ^ n % 2 ^ 8) v (replicate 32 s)

abbrev pub lowered : ℕ → List ℕ → List ℕ
lowered s v = zip2 (λ x n. x / 2 ^ n) v (replicate 32 s)

pub IsPlane-masked : (m : ℕ) (v : List ℕ) → m < 256 → IsPlane v → IsPlane (masked m v)
IsPlane-masked m v byte plane = IsPlane-zip2 bit_and IsBitwise-and.byte v (replicate 32 m) plane (IsPlane-splat m byte)

IsPlane-raised : (s : ℕ) (v : List ℕ) → s < 256 → IsPlane v → IsPlane (raised s v)
IsPlane-raised s v byte plane = IsPlane-zip2 _ (λ x y hx hy. omega arith) v (replicate 32 s) plane (IsPlane-splat s byte)

pub IsPlane-lowered : (s : ℕ) (v : List ℕ) → s < 256 → IsPlane v → IsPlane (lowered s v)
IsPlane-lowered s v byte plane =
    IsPlane-zip2 _ (λ x y hx hy. let below = div-le_self x (2 ^ y) in omega (arith, below)) v (replicate 32 s) plane (IsPlane-splat s byte)

-- what two vectors exchange, and the vectors that this makes
abbrev part_lanes : ℕ → ℕ → List ℕ → List ℕ → List ℕ
part_lanes s m a b = masked m (zip2 bit_xor (lowered s a) b)

abbrev pub low_lanes : ℕ → ℕ → List ℕ → List ℕ → List ℕ
low_lanes s m a b = zip2 bit_xor a (raised s (part_lanes s m a b))

abbrev pub high_lanes : ℕ → ℕ → List ℕ → List ℕ → List ℕ
high_lanes s m a b = zip2 bit_xor b (part_lanes s m a b)

-- the bits from place s on, and of those exchanged the ones that each vector takes
pub lower_bits : ℕ → List ℕ → List ℕ
lower_bits s l = map (λ i. slice_index l (i + s)) (range_with_len 0 8)

pub low_part : ℕ → List ℕ → List ℕ
low_part s l = map (λ i. if nat_eq (i / s % 2) 0 then 0 else slice_index l (i - s)) (range_with_len 0 8)

pub high_part : ℕ → List ℕ → List ℕ
high_part s l = map (λ i. if nat_eq (i / s % 2) 0 then slice_index l i else 0) (range_with_len 0 8)

-- what is added twice is gone
gone : (a b : ℕ) → bit_xor a (bit_xor a b) ≡ b
gone a b = xor_comm a (bit_xor a b) ∙ ap (λ n. bit_xor n a) (xor_comm a b) ∙ bit_xor-twice b a

gone_behind : (a b : ℕ) → bit_xor b (bit_xor a b) ≡ a
gone_behind a b = ap (bit_xor b) (xor_comm a b) ∙ gone b a

-- a swap of groups of s bits, those of the mask
pub record IsSwap (s m : ℕ) : Type 0 where
  pub shift : s < 256
  pub mask : m < 256
  pub lower : (x : ℕ) → x < 256 → bits_of (x / 2 ^ s) ≡ lower_bits s (bits_of x)
  pub low : (x : ℕ) → x < 256 → bits_of (bit_and x m * 2 ^ s % 2 ^ 8) ≡ low_part s (bits_of x)
  pub high : (x : ℕ) → x < 256 → bits_of (bit_and x m) ≡ high_part s (bits_of x)
  pub low_sum : (x y : ℕ) → zip2 bit_xor (bits_of x) (low_part s (zip2 bit_xor (lower_bits s (bits_of x)) (bits_of y))) ≡ low_bits s (bits_of x) (bits_of y)
  pub high_sum : (x y : ℕ) → zip2 bit_xor (bits_of y) (high_part s (zip2 bit_xor (lower_bits s (bits_of x)) (bits_of y))) ≡ high_bits s (bits_of x) (bits_of y)

module _ (s m : ℕ) (swap : IsSwap s m) (a b : List ℕ) (pa : IsPlane a) (pb : IsPlane b) where
  IsPlane-exchanged : IsPlane (zip2 bit_xor (lowered s a) b)
  IsPlane-exchanged = IsPlane-sum (lowered s a) b (IsPlane-lowered s a swap.shift pa) pb

  IsPlane-part : IsPlane (part_lanes s m a b)
  IsPlane-part = IsPlane-masked m (zip2 bit_xor (lowered s a) b) swap.mask IsPlane-exchanged

  pub IsPlane-low : IsPlane (low_lanes s m a b)
  IsPlane-low = IsPlane-sum a (raised s (part_lanes s m a b)) pa (IsPlane-raised s (part_lanes s m a b) swap.shift IsPlane-part)

  pub IsPlane-high : IsPlane (high_lanes s m a b)
  IsPlane-high = IsPlane-sum b (part_lanes s m a b) pb IsPlane-part

  -- the bits of what is exchanged, before the mask
  bits-exchanged : (p : ℕ) → p < 32
      → bits_at p (zip2 bit_xor (lowered s a) b) ≡ zip2 bit_xor (lower_bits s (bits_at p a)) (bits_at p b)
  unfolding bits_of
  bits-exchanged p lt =
      let in_a : p < length (lowered s a) = omega (arith, (IsPlane-lowered s a swap.shift pa).long) in
      let in_b : p < length b = omega (arith, pb.long) in
      ap bits_of (get_or-zip2 bit_xor (lowered s a) b p 0 0 0 in_a in_b
      ∙ ap (λ x. bit_xor x (slice_index b p)) (slice_index-splat (λ x n. x / 2 ^ n) a s p pa lt))
      ∙ bits_of-xor (slice_index a p / 2 ^ s) (slice_index b p)
      ∙ ap (λ l. zip2 bit_xor l (bits_of (slice_index b p))) (swap.lower (slice_index a p) (pa.bytes p))

  -- the bits of a sum with a function of what is exchanged
  bits-with : (f : ℕ → ℕ) (part : List ℕ → List ℕ) → ((x : ℕ) → x < 256 → bits_of (f x) ≡ part (bits_of x))
      → (u v : List ℕ) (p : ℕ) → p < 32 → IsPlane u → IsPlane v → slice_index v p ≡ f (slice_index (zip2 bit_xor (lowered s a) b) p)
      → bits_at p (zip2 bit_xor u v) ≡ zip2 bit_xor (bits_at p u) (part (zip2 bit_xor (lower_bits s (bits_at p a)) (bits_at p b)))
  unfolding bits_of
  bits-with f part by_f u v p lt pu pv is =
      let in_u : p < length u = omega (arith, pu.long) in
      let in_v : p < length v = omega (arith, pv.long) in
      let x : ℕ = slice_index (zip2 bit_xor (lowered s a) b) p in
      ap bits_of (get_or-zip2 bit_xor u v p 0 0 0 in_u in_v ∙ ap (bit_xor (slice_index u p)) is)
      ∙ bits_of-xor (slice_index u p) (f x)
      ∙ ap (zip2 bit_xor (bits_of (slice_index u p))) (by_f x (IsPlane-exchanged.bytes p) ∙ ap part (bits-exchanged p lt))

  -- a vector with these bits of both
  abbrev HasBits : List ℕ → (ℕ → List ℕ → List ℕ → List ℕ) → Type 0
  HasBits v bits = (p : ℕ) → p < 32 → bits_at p v ≡ bits s (bits_at p a) (bits_at p b)

  pub bits-low : HasBits (low_lanes s m a b) low_bits
  unfolding bits_of
  bits-low p lt =
      bits-with (λ x. bit_and x m * 2 ^ s % 2 ^ 8) (low_part s) swap.low a (raised s (part_lanes s m a b)) p lt pa
      (IsPlane-raised s (part_lanes s m a b) swap.shift IsPlane-part)
      (slice_index-splat (λ x n. x * 2 ^ n % 2 ^ 8) (part_lanes s m a b) s p IsPlane-part lt
      ∙ ap (λ x. x * 2 ^ s % 2 ^ 8) (slice_index-splat bit_and (zip2 bit_xor (lowered s a) b) m p IsPlane-exchanged lt))
      ∙ swap.low_sum (slice_index a p) (slice_index b p)

  pub bits-high : HasBits (high_lanes s m a b) high_bits
  unfolding bits_of
  bits-high p lt =
      bits-with (λ x. bit_and x m) (high_part s) swap.high b (part_lanes s m a b) p lt pb IsPlane-part
      (slice_index-splat bit_and (zip2 bit_xor (lowered s a) b) m p IsPlane-exchanged lt)
      ∙ swap.high_sum (slice_index a p) (slice_index b p)

-- the three swaps
pub swap1 : IsSwap 1 0x55
unfolding bits_of lower_bits low_part high_part low_bits high_bits
swap1 = record {
  shift = lit< tt;
  mask = lit< tt;
  lower = at_each _ (λ x. lower_bits 1 (bits_of x)) refl;
  low = at_each _ (λ x. low_part 1 (bits_of x)) refl;
  high = at_each _ (λ x. high_part 1 (bits_of x)) refl;
  low_sum = λ x y. eight_same (xor_zero_r _) (gone _ _) (xor_zero_r _) (gone _ _) (xor_zero_r _) (gone _ _) (xor_zero_r _) (gone _ _);
  high_sum = λ x y. eight_same (gone_behind _ _) (xor_zero_r _) (gone_behind _ _) (xor_zero_r _) (gone_behind _ _) (xor_zero_r _) (gone_behind _ _) (xor_zero_r _);
}

pub swap2 : IsSwap 2 0x33
unfolding bits_of lower_bits low_part high_part low_bits high_bits
swap2 = record {
  shift = lit< tt;
  mask = lit< tt;
  lower = at_each _ (λ x. lower_bits 2 (bits_of x)) refl;
  low = at_each _ (λ x. low_part 2 (bits_of x)) refl;
  high = at_each _ (λ x. high_part 2 (bits_of x)) refl;
  low_sum = λ x y. eight_same (xor_zero_r _) (xor_zero_r _) (gone _ _) (gone _ _) (xor_zero_r _) (xor_zero_r _) (gone _ _) (gone _ _);
  high_sum = λ x y. eight_same (gone_behind _ _) (gone_behind _ _) (xor_zero_r _) (xor_zero_r _) (gone_behind _ _) (gone_behind _ _) (xor_zero_r _) (xor_zero_r _);
}

pub swap4 : IsSwap 4 0x0f
unfolding bits_of lower_bits low_part high_part low_bits high_bits
swap4 = record {
  shift = lit< tt;
  mask = lit< tt;
  lower = at_each _ (λ x. lower_bits 4 (bits_of x)) refl;
  low = at_each _ (λ x. low_part 4 (bits_of x)) refl;
  high = at_each _ (λ x. high_part 4 (bits_of x)) refl;
  low_sum = λ x y. eight_same (xor_zero_r _) (xor_zero_r _) (xor_zero_r _) (xor_zero_r _) (gone _ _) (gone _ _) (gone _ _) (gone _ _);
  high_sum = λ x y. eight_same (gone_behind _ _) (gone_behind _ _) (gone_behind _ _) (gone_behind _ _) (xor_zero_r _) (xor_zero_r _) (xor_zero_r _) (xor_zero_r _);
}
