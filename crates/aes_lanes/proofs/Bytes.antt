-- Lists of bytes.
use Rattle.std.proofs.Common.{◌≡◌, refl, ap, ℕ, zero, suc, ◌+◌, ◌-◌, ◌<◌, ◌≤◌, List, [], ◌∷◌, ◌++◌, length, take, drop, replicate, inl, inr, arith, lit<}
use Rattle.std.specs.Int.{bytes_high_first, byte_at}
use Rattle.std.proofs.lemmas.List.{get_or-drop, get_or-take, get_or_past, get_or_append_left, length-take-le}
use Rattle.std.proofs.Math.Seq.{get_or-append_right}
use Rattle.std.proofs.lemmas.Bool.{cases_lt}
use lib.Bits.{xor_lt}
use Rattle.aes_lanes.specs.Bytes.{AreBytes, xor_bytes}

pub bytes-drop : (n : ℕ) (xs : List ℕ) → AreBytes xs → AreBytes (drop n xs)
bytes-drop n xs bytes = λ k. rw (get_or-drop n xs k 0) (bytes (n + k))

pub bytes-append : (xs ys : List ℕ) → AreBytes xs → AreBytes ys → AreBytes (xs ++ ys)
bytes-append xs ys left right = λ k. elim (cases_lt k (length xs)) [
  | inl lt ↦ rw (get_or_append_left xs ys 0 k lt) (left k)
  | inr ge ↦ rw (get_or-append_right xs ys k 0 ge) (right (k - length xs))
]

pub bytes-take : (n : ℕ) (xs : List ℕ) → n ≤ length xs → AreBytes xs → AreBytes (take n xs)
bytes-take n xs within bytes = λ k. elim (cases_lt k n) [
  | inl lt ↦ rw (get_or-take n xs k 0 lt) (bytes k)
  | inr ge ↦
      let past : length (take n xs) ≤ k = omega (arith, length-take-le n xs within) in
      rw (get_or_past (take n xs) k 0 past) (lit< tt)
]

pub bytes-xor : (xs ys : List ℕ) → AreBytes xs → AreBytes ys → AreBytes (xor_bytes xs ys)
unfolding xor_bytes
bytes-xor [] ys left right k = lit< tt
bytes-xor (x ∷ xs) [] left right k = lit< tt
bytes-xor (x ∷ xs) (y ∷ ys) left right zero = xor_lt 8 x y (left zero) (right zero)
bytes-xor (x ∷ xs) (y ∷ ys) left right (suc k) = bytes-xor xs ys (λ i. left (suc i)) (λ i. right (suc i)) k

pub byte_at-lt : (i n : ℕ) → byte_at i n < 256
byte_at-lt zero n = omega arith
byte_at-lt (suc i) n = omega arith

pub bytes-high_first : (i n : ℕ) → AreBytes (bytes_high_first i n)
bytes-high_first zero n k = lit< tt
bytes-high_first (suc i) n zero = byte_at-lt i n
bytes-high_first (suc i) n (suc k) = bytes-high_first i n k

pub length-high_first : (i n : ℕ) → length (bytes_high_first i n) ≡ i
length-high_first zero n = refl
length-high_first (suc i) n = ap suc (length-high_first i n)

pub bytes-replicate : (n x : ℕ) → x < 256 → AreBytes (replicate n x)
bytes-replicate zero x small k = lit< tt
bytes-replicate (suc n) x small zero = small
bytes-replicate (suc n) x small (suc k) = bytes-replicate n x small k
