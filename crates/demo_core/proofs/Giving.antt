-- The content of a file, as it is given piece by piece.
use Rattle.std.proofs.Common.{◌≡◌, ◌∙◌, ◌+◌, ◌-◌, ◌≤◌, ℕ, zero, suc, List, ◌∷◌, ◌++◌, Ok, length, map, take, refl, sym, ap, subst, arith}
use Rattle.std.specs.List.{range_with_len}
use Rattle.std.proofs.lemmas.List.FromFn.{length-map-range_with_len}
use Rattle.std.proofs.Math.Seq.{take-append_seam}
use Rattle.item_making.specs.Ending.{Whole}
use Rattle.content_writing.specs.Content.{Coming, Steps, ends}
use Rattle.demo_core.specs.Contents.{coming_of}
use Rattle.demo_core.specs.Demonstration.{byte_of, bytes_from}

-- so many numbers are some of them and then the rest
map-range_with_len-append : (f : ℕ → ℕ) (a n m : ℕ) → map f (range_with_len a (n + m)) ≡ map f (range_with_len a n) ++ map f (range_with_len (a + n) m)
map-range_with_len-append f a zero m =
    let one : zero + m ≡ m = omega arith in
    let two : a + zero ≡ a = omega arith in
    rw one (rw two refl)
map-range_with_len-append f a (suc n) m =
    let one : suc n + m ≡ suc (n + m) = omega arith in
    let two : a + suc n ≡ a + 1 + n = omega arith in
    rw one (rw two (ap (λ rest. f a ∷ rest) (map-range_with_len-append f (a + 1) n m)))

bytes_split : (seed number given left n : ℕ) → n ≤ left → bytes_from seed number given left ≡ bytes_from seed number given n ++ bytes_from seed number (given + n) (left - n)
bytes_split seed number given left n few =
    let whole : n + (left - n) ≡ left = omega arith in
    subst (λ k. bytes_from seed number given k ≡ bytes_from seed number given n ++ bytes_from seed number (given + n) (left - n)) whole
    (map-range_with_len-append (byte_of seed number) given n (left - n))

pub taken : (n : ℕ) (front back : List ℕ) → length front ≡ n → take n (front ++ back) ≡ front
taken n front back size = subst (λ k. take k (front ++ back) ≡ front) size (take-append_seam front back)

pub piece_steps : (seed number given left n : ℕ) (front back : List ℕ) → n ≤ left → (n ≡ 0 → left ≡ 0) → front ≡ bytes_from seed number given n
    → Steps (Ok n) (front ++ back) (coming_of seed number given left) (coming_of seed number (given + n) (left - n))
piece_steps seed number given left zero front back few all is =
    let none : left ≡ 0 = all refl in
    subst (λ k. (coming_of seed number given k ≡ ends Whole) × (coming_of seed number (given + zero) (k - zero) ≡ coming_of seed number given k)) (sym none) (refl, refl)
piece_steps seed number given left (suc n) front back few all is =
    let size : length front ≡ suc n = ap length is ∙ length-map-range_with_len (byte_of seed number) given (suc n) in
    let coming : List ℕ → Coming = λ bytes. record { bytes = bytes; ending = Whole } in
    ap coming (bytes_split seed number given left (suc n) few ∙ ap (λ bytes. bytes ++ bytes_from seed number (given + suc n) (left - suc n)) (sym is ∙ sym (taken (suc n) front back size)))
